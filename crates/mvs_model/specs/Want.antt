-- What an obtaining request asks for and what its place has to meet.
use Rattle.std.specs.Prelude.{◌≡◌, ℕ, ◌%◌, ◌^◌, ◌<◌, ◌≤◌, Option, None, IfSome}
use Rattle.mvs_model.specs.Place.{round8}
use Rattle.mvs_model.specs.declared.want.Side.{Side}
use Rattle.mvs_model.specs.declared.want.Side.TheVariants as side
use Rattle.mvs_model.specs.declared.want.Loc.{Loc}
use Rattle.mvs_model.specs.declared.want.Loc.TheVariants as loc
use Rattle.mvs_model.specs.declared.want.Residence.{Residence}
use Rattle.mvs_model.specs.declared.want.Residence.TheVariants as residence

-- The least and the greatest length, the exponents of the boundary to begin on and of the boundary not to cross, and the side.
pub record WantValue : Type 0 where
  pub least : ℕ
  pub most : ℕ
  pub start : ℕ
  pub within : Option ℕ
  pub side : Side

-- The exponent of a boundary. (Assembler Services Reference, GETMAIN, STARTBDY and CONTBDY)
abbrev pub IsExponent : ℕ → Type 0
IsExponent k = (3 ≤ k) × (k ≤ 31)

-- The lengths are whole doublewords, the least first, and the exponents are in their range.
pub record IsWant (w : WantValue) : Type 0 where
  pub least_whole : w.least % 8 ≡ 0
  pub most_whole : w.most % 8 ≡ 0
  pub some : 8 ≤ w.least
  pub ordered : w.least ≤ w.most
  pub short : w.most ≤ 2 ^ 31
  pub start : IsExponent w.start
  pub within : IfSome w.within IsExponent

-- A request as written: its lengths, the exponents, and its location.
pub record AskValue : Type 0 where
  pub least : ℕ
  pub most : ℕ
  pub start : ℕ
  pub within : Option ℕ
  pub loc : Loc

-- The lengths have 31 bits, the least first, and the exponents are in their range. (Assembler Services Reference, GETMAIN)
pub record IsAsk (a : AskValue) : Type 0 where
  pub some : 1 ≤ a.least
  pub ordered : a.least ≤ a.most
  pub short : a.most < 2 ^ 31
  pub start : IsExponent a.start
  pub within : IfSome a.within IsExponent

-- what the place has to meet on a side, the lengths rounded
abbrev pub want_of : AskValue → Side → WantValue
want_of a side = record { least = round8 a.least; most = round8 a.most; start = a.start; within = a.within; side = side }

-- a place of one length, rounded, on a boundary
abbrev pub fixed_want : ℕ → ℕ → Side → WantValue
fixed_want n start side = record { least = round8 n; most = round8 n; start = start; within = None; side = side }

-- the side that a location means for a task. (Assembler Services Reference, GETMAIN, LOC)
abbrev pub side_of : Loc → Residence → Side
side_of loc.Below r = side.Below
side_of loc.Any r = side.Either
side_of loc.Res residence.Below = side.Below
side_of loc.Res residence.Above = side.Either
