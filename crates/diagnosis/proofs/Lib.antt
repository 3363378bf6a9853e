mod Places
mod Lines
