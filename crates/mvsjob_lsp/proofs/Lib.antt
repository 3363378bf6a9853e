mod Chained
mod Listed
mod Opened
mod Symbols
