-- A `&` to the bytes reaches each value. Assumes `Logic`.
use denote.Struct.Lending.{of_Lends}
use Rattle.region_raw.specs.contracts.raw.RawBytes as C
use Rattle.region_raw.proofs.Readers.{seen_is_shared, owned_is_lent}
use Rattle.region_raw.proofs.raw.RawBytes.TheLaw.Statement.{statement}

pub shares : statement
shares = of_Lends C.struct C.the_codes C.the_heap C.the_lent (λ d p. seen_is_shared d.at d.bytes) tt (λ M 𝓤 𝓛 d p. owned_is_lent 𝓛 (C.the_row).lives d.at d.bytes)
