-- The statements of a script and their operands: the table of docs/SCRIPT.md, row by row and in its order. Nothing here is computed.
-- (the operations GETMAIN, FREEMAIN, STORAGE, CPOOL, ATTACH, RETURN and ABEND and their forms: Assembler Services Reference; the
-- others, and which operand a form takes under which name, are this project's choice)
use Rattle.std.specs.Prelude.{ℕ, List, [], ◌∷◌, Bool, true, false, codes}

-- what an operand can be, after its `=` if it has a keyword
pub data Kind : Type 0 where
  -- a number from a least to a greatest one
  Number : ℕ → ℕ → Kind
  -- two hexadecimal digits
  HexByte : Kind
  -- one of these words
  Word : List (List ℕ) → Kind
  -- a name
  Name : Kind
  -- NAME, NAME+number or X'h..h'
  Address : Kind
  -- X'h..h', at least 1 and at most this number of bytes
  Bytes : ℕ → Kind
  -- (l,s): a largest and a smallest number from a least to a greatest one
  Pair : ℕ → ℕ → Kind
  -- n or (l,s)
  NumberOrPair : ℕ → ℕ → Kind
  -- a list of at most this number of numbers, each in a range
  Numbers : ℕ → ℕ → ℕ → Kind
  -- a list of numbers without duplicates, each in a range
  DistinctNumbers : ℕ → ℕ → Kind
  -- a list of at most this number of names, without duplicates
  DistinctNames : ℕ → Kind
  -- a list of at most this number of addresses
  Addresses : ℕ → Kind

-- a keyword operand KEY=value, and whether it is required
pub record Keyword : Type 0 where
  pub key : List ℕ
  pub kind : Kind
  pub required : Bool

-- a positional operand, and whether it is required
pub record Positional : Type 0 where
  pub kind : Kind
  pub required : Bool

-- what holds between operands
pub data Rule : Type 0 where
  -- both keywords or neither
  Together : List ℕ → List ℕ → Rule
  -- not both keywords
  Excludes : List ℕ → List ℕ → Rule
  -- the two lists have as many items
  SameLength : List ℕ → List ℕ → Rule
  -- no number is given with one of the first two keywords and one of the last two
  Apart : List ℕ → List ℕ → List ℕ → List ℕ → Rule

-- what a statement is: the statements of the model, with the keys that differ between operations
pub data Meaning : Type 0 where
  IsRegion : Meaning
  -- the lengths under one key, the name under another
  Obtains : List ℕ → List ℕ → Meaning
  ObtainsList : Meaning
  -- the length under one key, the address under another
  Releases : List ℕ → List ℕ → Meaning
  ReleasesArea : Meaning
  ReleasesList : Meaning
  BuildsPool : Meaning
  GetsCell : Meaning
  FreesCell : Meaning
  DeletesPool : Meaning
  Attaches : Meaning
  Returns : Meaning
  Abends : Meaning
  Puts : Meaning
  Shows : Meaning
  Moves : Meaning
  AsksWhere : Meaning
  Reports : Meaning

-- a row: an operation, its forms (none if it has none), whether it has operands, its positional operands after the form, its
-- keywords, the rules between them, and which statement it is
pub record Row : Type 0 where
  pub operation : List ℕ
  pub forms : List (List ℕ)
  pub has_field : Bool
  pub positional : List Positional
  pub keywords : List Keyword
  pub rules : List Rule
  pub meaning : Meaning

-- a required keyword, an optional one; a required positional operand, an optional one
abbrev pub needs : List ℕ → Kind → Keyword
needs key kind = record { key = key; kind = kind; required = true }

abbrev pub takes : List ℕ → Kind → Keyword
takes key kind = record { key = key; kind = kind; required = false }

abbrev pub first_needs : Kind → Positional
first_needs kind = record { kind = kind; required = true }

abbrev pub first_takes : Kind → Positional
first_takes kind = record { kind = kind; required = false }

-- ---- operands that several statements take

-- a length in bytes (Assembler Services Reference, GETMAIN)
abbrev pub length_kind : Kind
length_kind = Number 1 2147483647

abbrev pub lengths_kind : Kind
lengths_kind = Pair 1 2147483647

abbrev pub sp : Keyword
sp = takes (codes "SP") (Number 0 255)

abbrev pub bndry : Keyword
bndry = takes (codes "BNDRY") (Word (codes "DBLWD" ∷ codes "PAGE" ∷ []))

abbrev pub loc : Keyword
loc = takes (codes "LOC") (Word (codes "BELOW" ∷ codes "24" ∷ codes "ANY" ∷ codes "31" ∷ codes "RES" ∷ []))

abbrev pub startbdy : Keyword
startbdy = takes (codes "STARTBDY") (Number 3 31)

abbrev pub contbdy : Keyword
contbdy = takes (codes "CONTBDY") (Number 3 31)

abbrev pub cond_word : Keyword
cond_word = takes (codes "COND") (Word (codes "YES" ∷ codes "NO" ∷ []))

abbrev pub residence : Keyword
residence = takes (codes "RES") (Word (codes "BELOW" ∷ codes "ABOVE" ∷ []))

-- BNDRY with STARTBDY or CONTBDY
abbrev pub boundaries : List Rule
boundaries = Excludes (codes "BNDRY") (codes "STARTBDY") ∷ Excludes (codes "BNDRY") (codes "CONTBDY") ∷ []

-- ---- the rows

abbrev pub region : Row
region = record {
  operation = codes "REGION";
  forms = [];
  has_field = true;
  positional = [];
  keywords = needs (codes "BELOW") (Number 1 2048) ∷ takes (codes "ABOVE") (Number 0 8192) ∷ takes (codes "FILL") HexByte ∷ residence ∷ [];
  rules = [];
  meaning = IsRegion;
}

abbrev pub getmain_fixed : Row
getmain_fixed = record {
  operation = codes "GETMAIN";
  forms = codes "R" ∷ codes "EC" ∷ codes "EU" ∷ [];
  has_field = true;
  positional = [];
  keywords = needs (codes "LV") length_kind ∷ needs (codes "A") Name ∷ sp ∷ bndry ∷ [];
  rules = [];
  meaning = Obtains (codes "LV") (codes "A");
}

abbrev pub getmain_fixed_placed : Row
getmain_fixed_placed = record {
  operation = codes "GETMAIN";
  forms = codes "RC" ∷ codes "RU" ∷ [];
  has_field = true;
  positional = [];
  keywords = needs (codes "LV") length_kind ∷ needs (codes "A") Name ∷ sp ∷ bndry ∷ loc ∷ startbdy ∷ contbdy ∷ [];
  rules = boundaries;
  meaning = Obtains (codes "LV") (codes "A");
}

abbrev pub getmain_variable : Row
getmain_variable = record {
  operation = codes "GETMAIN";
  forms = codes "VC" ∷ codes "VU" ∷ [];
  has_field = true;
  positional = [];
  keywords = needs (codes "LV") lengths_kind ∷ needs (codes "A") Name ∷ sp ∷ bndry ∷ [];
  rules = [];
  meaning = Obtains (codes "LV") (codes "A");
}

abbrev pub getmain_variable_placed : Row
getmain_variable_placed = record {
  operation = codes "GETMAIN";
  forms = codes "VRC" ∷ codes "VRU" ∷ [];
  has_field = true;
  positional = [];
  keywords = needs (codes "LV") lengths_kind ∷ needs (codes "A") Name ∷ sp ∷ bndry ∷ loc ∷ startbdy ∷ contbdy ∷ [];
  rules = boundaries;
  meaning = Obtains (codes "LV") (codes "A");
}

abbrev pub getmain_list : Row
getmain_list = record {
  operation = codes "GETMAIN";
  forms = codes "LC" ∷ codes "LU" ∷ [];
  has_field = true;
  positional = [];
  keywords = needs (codes "LA") (Numbers 16 1 2147483647) ∷ needs (codes "A") (DistinctNames 16) ∷ sp ∷ bndry ∷ [];
  rules = SameLength (codes "LA") (codes "A") ∷ [];
  meaning = ObtainsList;
}

abbrev pub storage_obtain : Row
storage_obtain = record {
  operation = codes "STORAGE";
  forms = codes "OBTAIN" ∷ [];
  has_field = true;
  positional = [];
  keywords = needs (codes "LENGTH") (NumberOrPair 1 2147483647) ∷ needs (codes "ADDR") Name ∷ sp ∷ bndry ∷ loc ∷ startbdy ∷ contbdy ∷ cond_word ∷ [];
  rules = boundaries;
  meaning = Obtains (codes "LENGTH") (codes "ADDR");
}

abbrev pub freemain_or_whole : Row
freemain_or_whole = record {
  operation = codes "FREEMAIN";
  forms = codes "R" ∷ codes "RC" ∷ codes "RU" ∷ [];
  has_field = true;
  positional = [];
  keywords = takes (codes "LV") length_kind ∷ takes (codes "A") Address ∷ sp ∷ [];
  rules = Together (codes "LV") (codes "A") ∷ [];
  meaning = Releases (codes "LV") (codes "A");
}

abbrev pub freemain_place : Row
freemain_place = record {
  operation = codes "FREEMAIN";
  forms = codes "EC" ∷ codes "EU" ∷ [];
  has_field = true;
  positional = [];
  keywords = needs (codes "LV") length_kind ∷ needs (codes "A") Address ∷ sp ∷ [];
  rules = [];
  meaning = Releases (codes "LV") (codes "A");
}

abbrev pub freemain_area : Row
freemain_area = record {
  operation = codes "FREEMAIN";
  forms = codes "VC" ∷ codes "VU" ∷ [];
  has_field = true;
  positional = [];
  keywords = needs (codes "A") Name ∷ sp ∷ [];
  rules = [];
  meaning = ReleasesArea;
}

abbrev pub freemain_list : Row
freemain_list = record {
  operation = codes "FREEMAIN";
  forms = codes "LC" ∷ codes "LU" ∷ [];
  has_field = true;
  positional = [];
  keywords = needs (codes "LA") (Numbers 16 1 2147483647) ∷ needs (codes "A") (Addresses 16) ∷ sp ∷ [];
  rules = SameLength (codes "LA") (codes "A") ∷ [];
  meaning = ReleasesList;
}

abbrev pub storage_release : Row
storage_release = record {
  operation = codes "STORAGE";
  forms = codes "RELEASE" ∷ [];
  has_field = true;
  positional = [];
  keywords = takes (codes "LENGTH") length_kind ∷ takes (codes "ADDR") Address ∷ sp ∷ cond_word ∷ [];
  rules = Together (codes "LENGTH") (codes "ADDR") ∷ [];
  meaning = Releases (codes "LENGTH") (codes "ADDR");
}

abbrev pub cpool_build : Row
cpool_build = record {
  operation = codes "CPOOL";
  forms = codes "BUILD" ∷ [];
  has_field = true;
  positional = [];
  keywords = needs (codes "CPID") Name ∷ needs (codes "CSIZE") (Number 4 65536) ∷ needs (codes "PCELLCT") (Number 1 65536) ∷ takes (codes "SCELLCT") (Number 1 65536) ∷ sp ∷ loc ∷ [];
  rules = [];
  meaning = BuildsPool;
}

abbrev pub cpool_get : Row
cpool_get = record {
  operation = codes "CPOOL";
  forms = codes "GET" ∷ [];
  has_field = true;
  positional = first_takes (Word (codes "COND" ∷ codes "C" ∷ codes "UNCOND" ∷ codes "U" ∷ [])) ∷ [];
  keywords = needs (codes "CPID") Name ∷ needs (codes "CELL") Name ∷ [];
  rules = [];
  meaning = GetsCell;
}

abbrev pub cpool_free : Row
cpool_free = record {
  operation = codes "CPOOL";
  forms = codes "FREE" ∷ [];
  has_field = true;
  positional = [];
  keywords = needs (codes "CPID") Name ∷ needs (codes "CELL") Address ∷ [];
  rules = [];
  meaning = FreesCell;
}

abbrev pub cpool_delete : Row
cpool_delete = record {
  operation = codes "CPOOL";
  forms = codes "DELETE" ∷ [];
  has_field = true;
  positional = [];
  keywords = needs (codes "CPID") Name ∷ [];
  rules = [];
  meaning = DeletesPool;
}

abbrev pub attach : Row
attach = record {
  operation = codes "ATTACH";
  forms = [];
  has_field = true;
  positional = [];
  keywords =
      needs (codes "TASK") Name
      ∷ takes (codes "GSPV") (Number 1 127)
      ∷ takes (codes "GSPL") (DistinctNumbers 1 127)
      ∷ takes (codes "SHSPV") (Number 1 127)
      ∷ takes (codes "SHSPL") (DistinctNumbers 1 127)
      ∷ takes (codes "SZERO") (Word (codes "YES" ∷ codes "NO" ∷ []))
      ∷ residence
      ∷ [];
  rules =
      Excludes (codes "GSPV") (codes "GSPL")
      ∷ Excludes (codes "SHSPV") (codes "SHSPL")
      ∷ Apart (codes "GSPV") (codes "GSPL") (codes "SHSPV") (codes "SHSPL")
      ∷ [];
  meaning = Attaches;
}

-- what follows RETURN is a remark
abbrev pub return_row : Row
return_row = record { operation = codes "RETURN"; forms = []; has_field = false; positional = []; keywords = []; rules = []; meaning = Returns }

abbrev pub abend : Row
abend = record { operation = codes "ABEND"; forms = []; has_field = true; positional = first_needs (Number 0 4095) ∷ []; keywords = []; rules = []; meaning = Abends }

abbrev pub put : Row
put = record { operation = codes "PUT"; forms = []; has_field = true; positional = first_needs Address ∷ first_needs (Bytes 100) ∷ []; keywords = []; rules = []; meaning = Puts }

abbrev pub show : Row
show = record { operation = codes "SHOW"; forms = []; has_field = true; positional = first_needs Address ∷ first_needs (Number 1 4096) ∷ []; keywords = []; rules = []; meaning = Shows }

abbrev pub move : Row
move = record {
  operation = codes "MOVE";
  forms = [];
  has_field = true;
  positional = first_needs Address ∷ first_needs Address ∷ first_needs (Number 1 65536) ∷ [];
  keywords = [];
  rules = [];
  meaning = Moves;
}

abbrev pub where_row : Row
where_row = record { operation = codes "WHERE"; forms = []; has_field = true; positional = first_needs Name ∷ []; keywords = []; rules = []; meaning = AsksWhere }

abbrev pub report : Row
report = record { operation = codes "REPORT"; forms = codes "SP" ∷ codes "MAP" ∷ []; has_field = true; positional = []; keywords = []; rules = []; meaning = Reports }

-- the table
abbrev pub table : List Row
table =
    region
    ∷ getmain_fixed
    ∷ getmain_fixed_placed
    ∷ getmain_variable
    ∷ getmain_variable_placed
    ∷ getmain_list
    ∷ storage_obtain
    ∷ freemain_or_whole
    ∷ freemain_place
    ∷ freemain_area
    ∷ freemain_list
    ∷ storage_release
    ∷ cpool_build
    ∷ cpool_get
    ∷ cpool_free
    ∷ cpool_delete
    ∷ attach
    ∷ return_row
    ∷ abend
    ∷ put
    ∷ show
    ∷ move
    ∷ where_row
    ∷ report
    ∷ []
