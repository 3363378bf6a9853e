-- Laws of the reading of a line.
use Rattle.std.specs.Prelude.{◌≡◌, ℕ, Bool, true, false, List, [], ◌∷◌, ◌++◌, None, Some, codes, Option, option_map, find, bytes_eq, ◌&&◌, decimal, nat_lt, nat_le, length, slice_get, Ok}
use Rattle.mvs_model.specs.Lines.{IsLine}
use Rattle.std.specs.List.{list_all}
use Rattle.mvs_model.specs.Want.{AskValue}
use Rattle.mvs_model.specs.declared.line.Fault.{Fault}
use Rattle.mvs_model.specs.declared.line.Fault.TheVariants.{UnknownOperation, InvalidOperand, MissingOperand, OutOfRange, Repeated, Conflicting, OutOfPlace}
use Rattle.mvs_model.specs.declared.line.Line.{Line}
use Rattle.mvs_model.specs.declared.line.Line.TheVariants as line
use Rattle.mvs_model.specs.declared.line.Location.TheVariants.{Absolute, Named}
use Rattle.mvs_model.specs.declared.line.Statement.TheVariants as says
use Rattle.mvs_model.specs.declared.line.SourceRequest.TheVariants as written
use Rattle.mvs_model.specs.declared.code.Form.TheVariants as form
use Rattle.mvs_model.specs.declared.want.Loc.{Loc}
use Rattle.mvs_model.specs.declared.want.Loc.TheVariants as loc
use Rattle.mvs_model.specs.declared.want.Residence.TheVariants as residence
use Rattle.mvs_model.specs.Name.{padded}
use Rattle.mvs_model.specs.Grammar.{Row, Kind}
use Rattle.mvs_model.specs.Reading.{LineOf, FaultOf, first_of, checks, if_kind, is_of, is_within, repeats, kind_of, text_of, has_key, key_of, has, is_blank_or_comment, task_in, words}

-- The line is read, or it has a fault.
pub data Reading (first : Bool) (bytes : List ℕ) : Type 0 where
  Said : (l : Line) → LineOf first bytes l → Reading first bytes
  Wrong : (fault : Fault) → FaultOf first bytes fault → Reading first bytes

-- Each line is read or has a fault, not both, and says one thing or has one fault.
pub record OneReading : Type 0 where
  pub some : (first : Bool) (bytes : List ℕ) → Reading first bytes
  pub not_both : (first : Bool) (bytes : List ℕ) (l : Line) (fault : Fault) → LineOf first bytes l → FaultOf first bytes fault → ⊥
  pub one_line : (first : Bool) (bytes : List ℕ) (l m : Line) → LineOf first bytes l → LineOf first bytes m → l ≡ m
  pub one_fault : (first : Bool) (bytes : List ℕ) (f g : Fault) → FaultOf first bytes f → FaultOf first bytes g → f ≡ g

-- one line for each fault, after a REGION statement except for the last
pub record FaultExamples : Type 0 where
  pub range : FaultOf false (codes "JOB GETMAIN R,LV=0,A=X") OutOfRange
  pub missing : FaultOf false (codes "JOB GETMAIN R,LV=8") MissingOperand
  pub twice : FaultOf false (codes "JOB GETMAIN RC,LV=8,LV=8,A=X") Repeated
  pub both : FaultOf false (codes "JOB GETMAIN RC,LV=8,A=X,BNDRY=PAGE,STARTBDY=4") Conflicting
  pub not_taken : FaultOf false (codes "JOB GETMAIN R,LV=8,A=X,LOC=ANY") InvalidOperand
  pub unknown : FaultOf false (codes "JOB GETMAIN XX,LV=8,A=X") UnknownOperation
  pub no_number : FaultOf false (codes "JOB ATTACH TASK=T,GSPV=0") OutOfRange
  pub first_statement : FaultOf true (codes "JOB RETURN") OutOfPlace

-- Each of these lines has this fault, after a REGION statement.
abbrev pub Have : Fault → List (List ℕ) → Type 0
Have fault [] = Unit {0}
Have fault (bytes ∷ lines) = FaultOf false bytes fault × Have fault lines

-- Each of these lines is read without a fault.
abbrev pub AreRead : Bool → List (List ℕ) → Type 0
AreRead first [] = Unit {0}
AreRead first (bytes ∷ lines) = (first_of (checks first bytes) ≡ None) × AreRead first lines

-- further lines, as the words about reading say; and for each row of the table lines just outside of what it takes
pub record MoreFaults : Type 0 where
  pub empty_operand : FaultOf false (codes "JOB PUT X,") InvalidOperand
  pub empty_first : FaultOf false (codes "JOB SHOW ,8") InvalidOperand
  pub empty_form : FaultOf false (codes "JOB GETMAIN ,LV=8,A=X") UnknownOperation
  pub keyed_form : FaultOf false (codes "JOB GETMAIN (R=),LV=8,A=X") MissingOperand
  pub no_form : FaultOf false (codes "JOB GETMAIN") MissingOperand
  pub nine_digits : FaultOf false (codes "JOB SHOW X'012345678',8") InvalidOperand
  pub high_address : FaultOf false (codes "JOB SHOW X'80000000',8") OutOfRange
  pub eleven_digits : FaultOf false (codes "JOB ABEND 00000000001") OutOfRange
  pub word_padded : FaultOf false (codes "JOB GETMAIN RC,LV=8,A=X,LOC=024") InvalidOperand
  pub after_keyword : FaultOf false (codes "JOB CPOOL GET,CPID=P,COND,CELL=C") InvalidOperand
  pub range_first : FaultOf false (codes "JOB GETMAIN R,LV=0,LV=8,A=X") OutOfRange
  pub twice_first : FaultOf false (codes "JOB GETMAIN R,LV=8,LV=0,A=X") Repeated
  pub malformed_first : FaultOf false (codes "JOB GETMAIN R,LV=8,LV=X,A=X") InvalidOperand
  pub by_value : FaultOf false (codes "JOB ATTACH TASK=T,GSPL=(5,05)") Repeated
  pub zero_twice : FaultOf false (codes "JOB ATTACH TASK=T,GSPL=(0,0)") Repeated
  pub given_and_shared : FaultOf false (codes "JOB ATTACH TASK=T,GSPL=(5,6),SHSPV=6") Conflicting
  pub three_lengths : FaultOf false (codes "JOB GETMAIN VC,LV=(8,8,8),A=X") InvalidOperand
  pub not_ordered : FaultOf false (codes "JOB GETMAIN VC,LV=(9,10),A=X") OutOfRange
  pub empty_word : FaultOf false (codes "JOB CPOOL GET,,CPID=P,CELL=C") InvalidOperand
  pub half : FaultOf false (codes "JOB FREEMAIN R,LV=8") MissingOperand
  pub next_step : FaultOf false (codes "JOB REGION BELOW=0") OutOfRange
  pub lists : FaultOf false (codes "JOB GETMAIN LC,LA=(8,8),A=(X)") Conflicting
  pub blank_first : FaultOf false (codes " JOB RETURN") UnknownOperation
  pub abend_high : FaultOf false (codes "JOB ABEND 4096") OutOfRange
  pub show_high : FaultOf false (codes "JOB SHOW X,4097") OutOfRange
  pub move_high : FaultOf false (codes "JOB MOVE X,Y,65537") OutOfRange
  pub below_high : FaultOf true (codes "JOB REGION BELOW=2049") OutOfRange
  pub ranges : Have OutOfRange (
      codes "J GETMAIN R,LV=0,A=X" ∷
      codes "J GETMAIN R,LV=2147483648,A=X" ∷
      codes "J GETMAIN R,LV=8,A=X,SP=256" ∷
      codes "J GETMAIN RC,LV=0,A=X" ∷
      codes "J GETMAIN RC,LV=2147483648,A=X" ∷
      codes "J GETMAIN RC,LV=8,A=X,SP=256" ∷
      codes "J GETMAIN VC,LV=(8,0),A=X" ∷
      codes "J GETMAIN VC,LV=(2147483648,8),A=X" ∷
      codes "J GETMAIN VC,LV=(8,9),A=X" ∷
      codes "J GETMAIN VRC,LV=(8,0),A=X" ∷
      codes "J GETMAIN VRC,LV=(2147483648,8),A=X" ∷
      codes "J GETMAIN VRC,LV=(8,9),A=X" ∷
      codes "J GETMAIN RC,LV=8,A=X,STARTBDY=2" ∷
      codes "J GETMAIN RC,LV=8,A=X,STARTBDY=32" ∷
      codes "J GETMAIN RC,LV=8,A=X,CONTBDY=2" ∷
      codes "J GETMAIN RC,LV=8,A=X,CONTBDY=32" ∷
      codes "J GETMAIN VRC,LV=(8,8),A=X,STARTBDY=2" ∷
      codes "J GETMAIN VRC,LV=(8,8),A=X,STARTBDY=32" ∷
      codes "J GETMAIN VRC,LV=(8,8),A=X,CONTBDY=2" ∷
      codes "J GETMAIN VRC,LV=(8,8),A=X,CONTBDY=32" ∷
      codes "J GETMAIN LC,LA=(0),A=(X)" ∷
      codes "J GETMAIN LC,LA=(2147483648),A=(X)" ∷
      codes "J GETMAIN LC,LA=(1,1,1,1,1,1,1,1,1,1,1,1,1,1,1,1,1),A=(X)" ∷
      codes "J GETMAIN LC,LA=(1),A=(A,B,C,D,E,F,G,H,I,J,K,L,M,N,O,P,Q)" ∷
      codes "J STORAGE OBTAIN,LENGTH=0,ADDR=X" ∷
      codes "J STORAGE OBTAIN,LENGTH=2147483648,ADDR=X" ∷
      codes "J STORAGE OBTAIN,LENGTH=(8,0),ADDR=X" ∷
      codes "J STORAGE OBTAIN,LENGTH=8,ADDR=X,STARTBDY=2" ∷
      codes "J STORAGE OBTAIN,LENGTH=8,ADDR=X,STARTBDY=32" ∷
      codes "J STORAGE OBTAIN,LENGTH=8,ADDR=X,CONTBDY=2" ∷
      codes "J STORAGE OBTAIN,LENGTH=8,ADDR=X,CONTBDY=32" ∷
      codes "J STORAGE RELEASE,LENGTH=0,ADDR=X" ∷
      codes "J STORAGE RELEASE,LENGTH=2147483648,ADDR=X" ∷
      codes "J FREEMAIN R,LV=0,A=X" ∷
      codes "J FREEMAIN R,LV=2147483648,A=X" ∷
      codes "J FREEMAIN EC,LV=0,A=X" ∷
      codes "J FREEMAIN EC,LV=2147483648,A=X" ∷
      codes "J FREEMAIN LC,LA=(0),A=(X)" ∷
      codes "J FREEMAIN LC,LA=(2147483648),A=(X)" ∷
      codes "J FREEMAIN LC,LA=(1,1,1,1,1,1,1,1,1,1,1,1,1,1,1,1,1),A=(X)" ∷
      codes "J FREEMAIN LC,LA=(1),A=(X,X,X,X,X,X,X,X,X,X,X,X,X,X,X,X,X)" ∷
      codes "J FREEMAIN LC,LA=(1),A=(X+33554432)" ∷
      codes "J CPOOL BUILD,CPID=P,CSIZE=3" ∷
      codes "J CPOOL BUILD,CPID=P,CSIZE=65537" ∷
      codes "J CPOOL BUILD,CPID=P,PCELLCT=0" ∷
      codes "J CPOOL BUILD,CPID=P,PCELLCT=65537" ∷
      codes "J CPOOL BUILD,CPID=P,SCELLCT=0" ∷
      codes "J CPOOL BUILD,CPID=P,SCELLCT=65537" ∷
      codes "J ATTACH TASK=T,GSPV=0" ∷
      codes "J ATTACH TASK=T,GSPV=128" ∷
      codes "J ATTACH TASK=T,GSPV=131" ∷
      codes "J ATTACH TASK=T,SHSPV=0" ∷
      codes "J ATTACH TASK=T,SHSPV=128" ∷
      codes "J ATTACH TASK=T,SHSPV=132" ∷
      codes "J ATTACH TASK=T,GSPL=(0)" ∷
      codes "J ATTACH TASK=T,GSPL=(128)" ∷
      codes "J ATTACH TASK=T,SHSPL=(0)" ∷
      codes "J ATTACH TASK=T,SHSPL=(128)" ∷
      codes "J ABEND 4096" ∷
      codes "J PUT X,X'0000000000000000000000000000000000000000000000000000000000000000000000000000000000000000000000000000000000000000000000000000000000000000000000000000000000000000000000000000000000000000000000000000000000'" ∷
      codes "J SHOW X,0" ∷
      codes "J SHOW X,4097" ∷
      codes "J MOVE X,Y,0" ∷
      codes "J MOVE X,Y,65537" ∷
      [])
  pub missing_operands : Have MissingOperand (
      codes "J GETMAIN R,LV=8" ∷
      codes "J GETMAIN R,A=X" ∷
      codes "J GETMAIN RC,LV=8" ∷
      codes "J GETMAIN RC,A=X" ∷
      codes "J GETMAIN VC,LV=(8,8)" ∷
      codes "J GETMAIN VC,A=X" ∷
      codes "J GETMAIN VRC,LV=(8,8)" ∷
      codes "J GETMAIN VRC,A=X" ∷
      codes "J GETMAIN LC,LA=(8)" ∷
      codes "J GETMAIN LC,A=(X)" ∷
      codes "J FREEMAIN LC,LA=(8)" ∷
      codes "J FREEMAIN LC,A=(X)" ∷
      codes "J STORAGE OBTAIN,LENGTH=8" ∷
      codes "J STORAGE OBTAIN,ADDR=X" ∷
      codes "J STORAGE RELEASE,LENGTH=8" ∷
      codes "J STORAGE RELEASE,ADDR=X" ∷
      codes "J FREEMAIN R,LV=8" ∷
      codes "J FREEMAIN R,A=X" ∷
      codes "J FREEMAIN EC,LV=8" ∷
      codes "J FREEMAIN EC,A=X" ∷
      codes "J FREEMAIN EC" ∷
      codes "J FREEMAIN VC" ∷
      codes "J CPOOL BUILD,CSIZE=4,PCELLCT=1" ∷
      codes "J CPOOL BUILD,CPID=P,PCELLCT=1" ∷
      codes "J CPOOL BUILD,CPID=P,CSIZE=4" ∷
      codes "J CPOOL GET,CPID=P" ∷
      codes "J CPOOL GET,CELL=C" ∷
      codes "J CPOOL FREE,CPID=P" ∷
      codes "J CPOOL FREE,CELL=C" ∷
      codes "J CPOOL DELETE" ∷
      codes "J ATTACH" ∷
      codes "J ABEND" ∷
      codes "J PUT X" ∷
      codes "J SHOW X" ∷
      codes "J MOVE X,Y" ∷
      codes "J WHERE" ∷
      [])
  pub conflicts : Have Conflicting (
      codes "J GETMAIN RC,LV=8,A=X,BNDRY=PAGE,STARTBDY=4" ∷
      codes "J GETMAIN RC,LV=8,A=X,BNDRY=PAGE,CONTBDY=4" ∷
      codes "J GETMAIN VRC,LV=(8,8),A=X,BNDRY=PAGE,STARTBDY=4" ∷
      codes "J GETMAIN VRC,LV=(8,8),A=X,BNDRY=PAGE,CONTBDY=4" ∷
      codes "J STORAGE OBTAIN,LENGTH=8,ADDR=X,BNDRY=PAGE,STARTBDY=4" ∷
      codes "J STORAGE OBTAIN,LENGTH=8,ADDR=X,BNDRY=PAGE,CONTBDY=4" ∷
      codes "J GETMAIN LC,LA=(8,8),A=(X)" ∷
      codes "J FREEMAIN LC,LA=(8),A=(X,Y)" ∷
      codes "J ATTACH TASK=T,GSPV=1,GSPL=(2)" ∷
      codes "J ATTACH TASK=T,SHSPV=1,SHSPL=(2)" ∷
      codes "J ATTACH TASK=T,GSPV=1,SHSPV=1" ∷
      codes "J ATTACH TASK=T,GSPV=1,SHSPL=(2,1)" ∷
      codes "J ATTACH TASK=T,GSPL=(1),SHSPV=1" ∷
      codes "J ATTACH TASK=T,GSPL=(1),SHSPL=(2,1)" ∷
      [])
  pub not_taken : Have InvalidOperand (
      codes "J GETMAIN R,LOC=ANY" ∷
      codes "J GETMAIN R,STARTBDY=4" ∷
      codes "J GETMAIN R,CONTBDY=4" ∷
      codes "J GETMAIN R,COND=NO" ∷
      codes "J GETMAIN R,LA=(8)" ∷
      codes "J GETMAIN R,LENGTH=8" ∷
      codes "J GETMAIN VC,LOC=ANY" ∷
      codes "J GETMAIN VC,STARTBDY=4" ∷
      codes "J GETMAIN VC,CONTBDY=4" ∷
      codes "J GETMAIN VC,LV=8" ∷
      codes "J GETMAIN RC,LV=(8,8)" ∷
      codes "J GETMAIN RC,COND=NO" ∷
      codes "J GETMAIN LC,LOC=ANY" ∷
      codes "J GETMAIN LC,LV=8" ∷
      codes "J FREEMAIN R,BNDRY=PAGE" ∷
      codes "J FREEMAIN R,COND=NO" ∷
      codes "J FREEMAIN VC,LV=8" ∷
      codes "J FREEMAIN VC,A=X+8" ∷
      codes "J FREEMAIN EC,LA=(8)" ∷
      codes "J STORAGE OBTAIN,LV=8" ∷
      codes "J STORAGE OBTAIN,ADDR=X+8" ∷
      codes "J STORAGE RELEASE,BNDRY=PAGE" ∷
      codes "J STORAGE RELEASE,LENGTH=(8,8)" ∷
      codes "J CPOOL BUILD,BNDRY=PAGE" ∷
      codes "J CPOOL GET,CELL=X+8" ∷
      codes "J CPOOL GET,YES" ∷
      codes "J CPOOL FREE,COND" ∷
      codes "J CPOOL DELETE,CELL=C" ∷
      codes "J ATTACH LOC=ANY" ∷
      codes "J ATTACH RES=RES" ∷
      codes "J ABEND X" ∷
      codes "J PUT 8" ∷
      codes "J SHOW X,X" ∷
      codes "J MOVE X,Y,Z" ∷
      codes "J WHERE X+8" ∷
      codes "J REPORT SP,SP=1" ∷
      [])

-- lines without a fault, and what they say; and for each row of the table lines at the edges of what it takes, with each of its words
pub record LineExamples : Type 0 where
  pub blank : LineOf true (codes "  ") line.Nothing
  pub comment : LineOf true (codes "* GETMAIN") line.Nothing
  pub region : LineOf true (codes "JOB  REGION FILL=A5,BELOW=3 A REMARK") (line.Statement (codes "JOB     ") (says.Region 3 0 0xA5 residence.Below))
  pub getmain : LineOf false (codes "JOB GETMAIN RU,A=X,LV=4096,CONTBDY=12,SP=1") (line.Statement (codes "JOB     ") (says.Request (written.Obtain form.Ru 1 (record { least = 4096; most = 4096; start = 3; within = Some 12; loc = loc.Res }) false (codes "X       "))))
  pub variable : LineOf false (codes "T STORAGE OBTAIN,LENGTH=(16,8),ADDR=Y,BNDRY=PAGE,COND=YES,LOC=31") (line.Statement (codes "T       ") (says.Request (written.Obtain form.StorageConditional 0 (record { least = 8; most = 16; start = 12; within = None; loc = loc.Any }) true (codes "Y       "))))
  pub list : LineOf false (codes "T GETMAIN LC,LA=(8,16),A=(X,Y)") (line.Statement (codes "T       ") (says.Request (written.ObtainList form.Lc 0 (8 ∷ 16 ∷ []) 3 (codes "X       " ∷ codes "Y       " ∷ []))))
  pub whole : LineOf false (codes "T FREEMAIN RC,SP=130") (line.Statement (codes "T       ") (says.Request (written.ReleaseWhole form.Rc 130)))
  pub release : LineOf false (codes "T STORAGE RELEASE,ADDR=X+8,LENGTH=1") (line.Statement (codes "T       ") (says.Request (written.Release form.Storage 0 (Named (codes "X       ") 8) 1)))
  pub build : LineOf false (codes "T CPOOL BUILD,CPID=P,CSIZE=12,PCELLCT=2") (line.Statement (codes "T       ") (says.Request (written.Build (codes "P       ") 0 12 2 2 loc.Res)))
  pub cell : LineOf false (codes "T CPOOL GET,C,CPID=P,CELL=A") (line.Statement (codes "T       ") (says.Request (written.Get (codes "P       ") true (codes "A       "))))
  pub attach : LineOf false (codes "T ATTACH TASK=S,GSPL=(5,1),SHSPV=6,SZERO=NO") (line.Statement (codes "T       ") (says.Request (written.Attach (codes "S       ") (record { given = 34; shared = 64; zero = false }) residence.Below)))
  pub put : LineOf false (codes "T PUT X'00006008',X'C2FF'") (line.Statement (codes "T       ") (says.Request (written.Put (Absolute 0x6008) (0xC2 ∷ 0xFF ∷ []))))
  pub return : LineOf false (codes "T RETURN A=B,(") (line.Statement (codes "T       ") (says.Request written.Return))
  pub move : LineOf false (codes "T MOVE X,Y+33554431,65536") (line.Statement (codes "T       ") (says.Request (written.Move (Named (codes "X       ") 0) (Named (codes "Y       ") 33554431) 65536)))
  pub abend : LineOf false (codes "T ABEND 0") (line.Statement (codes "T       ") (says.Request (written.Abend 0)))
  pub report : LineOf false (codes "T REPORT MAP") (line.Statement (codes "T       ") says.ReportMap)
  pub getmain_fixed : LineOf false (codes "T GETMAIN EC,LV=9,A=X,BNDRY=PAGE") (line.Statement (codes "T       ") (says.Request (written.Obtain form.Ec 0 (record { least = 9; most = 9; start = 12; within = None; loc = loc.Res }) false (codes "X       "))))
  pub getmain_variable : LineOf false (codes "T GETMAIN VU,LV=(16,8),A=X") (line.Statement (codes "T       ") (says.Request (written.Obtain form.Vu 0 (record { least = 8; most = 16; start = 3; within = None; loc = loc.Res }) true (codes "X       "))))
  pub getmain_variable_placed : LineOf false (codes "T GETMAIN VRC,LV=(16,8),A=X,LOC=24,STARTBDY=5") (line.Statement (codes "T       ") (says.Request (written.Obtain form.Vrc 0 (record { least = 8; most = 16; start = 5; within = None; loc = loc.Below }) true (codes "X       "))))
  pub freemain : LineOf false (codes "T FREEMAIN RU,LV=8,A=X'6000',SP=7") (line.Statement (codes "T       ") (says.Request (written.Release form.Ru 7 (Absolute 0x6000) 8)))
  pub freemain_place : LineOf false (codes "T FREEMAIN EU,A=X+8,LV=16") (line.Statement (codes "T       ") (says.Request (written.Release form.Eu 0 (Named (codes "X       ") 8) 16)))
  pub freemain_area : LineOf false (codes "T FREEMAIN VC,A=X,SP=2") (line.Statement (codes "T       ") (says.Request (written.ReleaseArea form.Vc 2 (codes "X       "))))
  pub freemain_list : LineOf false (codes "T FREEMAIN LU,LA=(8,16),A=(X,Y+8)") (line.Statement (codes "T       ") (says.Request (written.ReleaseList form.Lu 0 (Named (codes "X       ") 0 ∷ Named (codes "Y       ") 8 ∷ []) (8 ∷ 16 ∷ []))))
  pub storage_fixed : LineOf false (codes "T STORAGE OBTAIN,LENGTH=8,ADDR=X,COND=NO") (line.Statement (codes "T       ") (says.Request (written.Obtain form.Storage 0 (record { least = 8; most = 8; start = 3; within = None; loc = loc.Res }) false (codes "X       "))))
  pub cell_unconditional : LineOf false (codes "T CPOOL GET,U,CPID=P,CELL=A") (line.Statement (codes "T       ") (says.Request (written.Get (codes "P       ") false (codes "A       "))))
  pub cell_freed : LineOf false (codes "T CPOOL FREE,CPID=P,CELL=A+8") (line.Statement (codes "T       ") (says.Request (written.Free (codes "P       ") (Named (codes "A       ") 8))))
  pub pool_deleted : LineOf false (codes "T CPOOL DELETE,CPID=P") (line.Statement (codes "T       ") (says.Request (written.Delete (codes "P       "))))
  pub pool_grows : LineOf false (codes "T CPOOL BUILD,CPID=P,CSIZE=8,PCELLCT=2,SCELLCT=3,SP=1,LOC=BELOW") (line.Statement (codes "T       ") (says.Request (written.Build (codes "P       ") 1 8 2 3 loc.Below)))
  pub attach_zero : LineOf false (codes "T ATTACH TASK=S,GSPV=5,SHSPL=(6,1),RES=ABOVE") (line.Statement (codes "T       ") (says.Request (written.Attach (codes "S       ") (record { given = 32; shared = 66; zero = true }) residence.Above)))
  pub show : LineOf false (codes "T SHOW X+1,32") (line.Statement (codes "T       ") (says.Request (written.Show (Named (codes "X       ") 1) 32)))
  pub asks_where : LineOf false (codes "T WHERE X") (line.Statement (codes "T       ") (says.Where (codes "X       ")))
  pub report_subpools : LineOf false (codes "T REPORT SP") (line.Statement (codes "T       ") says.ReportSubpools)
  pub regions_read : AreRead true (
      codes "JOB REGION BELOW=1" ∷
      codes "JOB REGION BELOW=2048,ABOVE=0,FILL=00,RES=BELOW" ∷
      codes "JOB REGION BELOW=1,ABOVE=8192,FILL=FF,RES=ABOVE" ∷
      [])
  pub getmain_read : AreRead false (
      codes "J GETMAIN R,LV=1,A=X,SP=0,BNDRY=DBLWD" ∷
      codes "J GETMAIN EC,LV=1,A=X,SP=0,BNDRY=DBLWD" ∷
      codes "J GETMAIN EU,LV=1,A=X,SP=0,BNDRY=DBLWD" ∷
      codes "J GETMAIN EU,LV=2147483647,A=X,SP=255,BNDRY=PAGE" ∷
      codes "J GETMAIN RC,LV=1,A=X,SP=0,LOC=24,STARTBDY=3,CONTBDY=3" ∷
      codes "J GETMAIN RU,LV=1,A=X,SP=0,LOC=24,STARTBDY=3,CONTBDY=3" ∷
      codes "J GETMAIN RU,LV=2147483647,A=X,SP=255,LOC=31,STARTBDY=31,CONTBDY=31" ∷
      codes "J GETMAIN RU,LV=8,A=X,BNDRY=DBLWD,LOC=BELOW" ∷
      codes "J GETMAIN RU,LV=8,A=X,BNDRY=PAGE,LOC=ANY" ∷
      codes "J GETMAIN RU,LV=8,A=X,BNDRY=PAGE,LOC=RES" ∷
      codes "J GETMAIN VC,LV=(1,1),A=X,SP=0,BNDRY=DBLWD" ∷
      codes "J GETMAIN VU,LV=(1,1),A=X,SP=0,BNDRY=DBLWD" ∷
      codes "J GETMAIN VU,LV=(2147483647,2147483647),A=X,SP=255,BNDRY=PAGE" ∷
      codes "J GETMAIN VRC,LV=(1,1),A=X,SP=0,LOC=24,STARTBDY=3,CONTBDY=3" ∷
      codes "J GETMAIN VRU,LV=(1,1),A=X,SP=0,LOC=24,STARTBDY=3,CONTBDY=3" ∷
      codes "J GETMAIN VRU,LV=(2147483647,2147483647),A=X,SP=255,LOC=31,STARTBDY=31,CONTBDY=31" ∷
      codes "J GETMAIN VRU,LV=(8,8),A=X,BNDRY=PAGE,LOC=ANY" ∷
      codes "J GETMAIN LC,LA=(1,1,1,1,1,1,1,1,1,1,1,1,1,1,1,2147483647),A=(A,B,C,D,E,F,G,H,I,J,K,L,M,N,O,P),SP=255,BNDRY=PAGE" ∷
      codes "J GETMAIN LU,LA=(1,1,1,1,1,1,1,1,1,1,1,1,1,1,1,2147483647),A=(A,B,C,D,E,F,G,H,I,J,K,L,M,N,O,P),SP=255,BNDRY=PAGE" ∷
      [])
  pub storage_read : AreRead false (
      codes "J STORAGE OBTAIN,LENGTH=1,ADDR=X,SP=0,LOC=24,STARTBDY=3,CONTBDY=3,COND=NO" ∷
      codes "J STORAGE OBTAIN,LENGTH=(2147483647,2147483647),ADDR=X,SP=255,LOC=31,STARTBDY=31,CONTBDY=31,COND=YES" ∷
      codes "J STORAGE OBTAIN,LENGTH=(1,1),ADDR=X,BNDRY=DBLWD,LOC=ANY" ∷
      codes "J STORAGE OBTAIN,LENGTH=2147483647,ADDR=X,BNDRY=PAGE,LOC=BELOW" ∷
      codes "J STORAGE RELEASE,LENGTH=1,ADDR=X+33554431,SP=0,COND=YES" ∷
      codes "J STORAGE RELEASE,LENGTH=2147483647,ADDR=X'7FFFFFFF',SP=255,COND=NO" ∷
      codes "J STORAGE RELEASE" ∷
      [])
  pub freemain_read : AreRead false (
      codes "J FREEMAIN R,LV=1,A=X+8,SP=0" ∷
      codes "J FREEMAIN RC,LV=1,A=X+8,SP=0" ∷
      codes "J FREEMAIN RU,LV=1,A=X+8,SP=0" ∷
      codes "J FREEMAIN RU,LV=2147483647,A=X'0',SP=255" ∷
      codes "J FREEMAIN R" ∷
      codes "J FREEMAIN EC,LV=1,A=X+8,SP=0" ∷
      codes "J FREEMAIN EU,LV=1,A=X+8,SP=0" ∷
      codes "J FREEMAIN EU,LV=2147483647,A=X,SP=255" ∷
      codes "J FREEMAIN VC,A=X,SP=255" ∷
      codes "J FREEMAIN VU,A=X,SP=255" ∷
      codes "J FREEMAIN LC,LA=(1,1,1,1,1,1,1,1,1,1,1,1,1,1,1,2147483647),A=(X,X,X,X,X,X,X,X,X,X,X,X,X,X,X,X),SP=255" ∷
      codes "J FREEMAIN LU,LA=(1,1,1,1,1,1,1,1,1,1,1,1,1,1,1,2147483647),A=(X,X,X,X,X,X,X,X,X,X,X,X,X,X,X,X),SP=255" ∷
      [])
  pub cpool_read : AreRead false (
      codes "J CPOOL BUILD,CPID=P,CSIZE=4,PCELLCT=1,SCELLCT=1,SP=0,LOC=24" ∷
      codes "J CPOOL BUILD,CPID=P,CSIZE=65536,PCELLCT=65536,SCELLCT=65536,SP=255,LOC=31" ∷
      codes "J CPOOL GET,CPID=P,CELL=C" ∷
      codes "J CPOOL GET,COND,CPID=P,CELL=C" ∷
      codes "J CPOOL GET,C,CPID=P,CELL=C" ∷
      codes "J CPOOL GET,UNCOND,CPID=P,CELL=C" ∷
      codes "J CPOOL GET,U,CPID=P,CELL=C" ∷
      codes "J CPOOL FREE,CPID=P,CELL=C+8" ∷
      codes "J CPOOL FREE,CPID=P,CELL=X'0'" ∷
      codes "J CPOOL DELETE,CPID=P" ∷
      [])
  pub others_read : AreRead false (
      codes "J REGION BELOW=1" ∷
      codes "J ATTACH TASK=T" ∷
      codes "J ATTACH TASK=T,GSPV=1,SHSPV=127,SZERO=YES,RES=BELOW" ∷
      codes "J ATTACH TASK=T,GSPV=127,SHSPV=1,SZERO=NO,RES=ABOVE" ∷
      codes "J ATTACH TASK=T,GSPL=(1,127),SHSPL=(2,126)" ∷
      codes "J RETURN" ∷
      codes "J ABEND 0" ∷
      codes "J ABEND 4095" ∷
      codes "J PUT X+1,X'00'" ∷
      codes "J PUT X'0',X'00000000000000000000000000000000000000000000000000000000000000000000000000000000000000000000000000000000000000000000000000000000000000000000000000000000000000000000000000000000000000000000000000000000'" ∷
      codes "J SHOW X,1" ∷
      codes "J SHOW X'0',4096" ∷
      codes "J MOVE X,X'0',1" ∷
      codes "J MOVE X'0',X+1,65536" ∷
      codes "J WHERE X" ∷
      codes "J REPORT SP" ∷
      codes "J REPORT MAP" ∷
      [])

-- The row accepts the operand after those on its left: it has a kind of the row, is in range, and neither its keyword nor anything
-- in it is a duplicate.
pub record Taken (row : Row) (left : List (List ℕ)) (operand : List ℕ) : Type 0 where
  pub of_kind : if_kind (λ kind. is_of kind (text_of operand)) (kind_of row left operand) ≡ true
  pub within : if_kind (λ kind. is_within kind (text_of operand)) (kind_of row left operand) ≡ true
  pub key_once : (has_key operand && has (key_of operand) left) ≡ false
  pub all_once : if_kind (λ kind. repeats kind (text_of operand)) (kind_of row left operand) ≡ false

-- the kind of a key in a row
abbrev pub keyed : Row → List ℕ → Option Kind
keyed row key = option_map (λ k. k.kind) (find (λ k. bytes_eq k.key key) row.keywords)

-- the value of a keyword has the kind of the keyword, and is in range
pub record IsTaken (row : Row) (key text : List ℕ) : Type 0 where
  pub of_kind : if_kind (λ kind. is_of kind text) (keyed row key) ≡ true
  pub within : if_kind (λ kind. is_within kind text) (keyed row key) ≡ true

-- ---- the spelling of a statement, in its canonical form

abbrev pub loc_text : Loc → List ℕ
loc_text loc.Below = codes "BELOW"
loc_text loc.Any = codes "ANY"
loc_text loc.Res = codes "RES"

-- what follows if there is a boundary not to cross
abbrev pub within_text : Option ℕ → List ℕ
within_text None = []
within_text (Some k) = codes ",CONTBDY=" ++ decimal k

-- GETMAIN RU for one length
abbrev pub getmain_ru_text : List ℕ → ℕ → AskValue → List ℕ → List ℕ
getmain_ru_text task number ask area =
    task ++ codes " GETMAIN RU,LV=" ++ decimal ask.most ++ codes ",A=" ++ area ++ codes ",SP=" ++ decimal number ++ codes ",LOC=" ++ loc_text ask.loc
    ++ codes ",STARTBDY=" ++ decimal ask.start ++ within_text ask.within

-- its edges
pub record SpellingExamples : Type 0 where
  pub least : LineOf false (getmain_ru_text (codes "T") 0 (record { least = 1; most = 1; start = 3; within = None; loc = loc.Below }) (codes "X")) (line.Statement (padded (codes "T")) (says.Request (written.Obtain form.Ru 0 (record { least = 1; most = 1; start = 3; within = None; loc = loc.Below }) false (padded (codes "X")))))
  pub most : LineOf false (getmain_ru_text (codes "ABCDEFGH") 255 (record { least = 2147483647; most = 2147483647; start = 31; within = Some 31; loc = loc.Any }) (codes "@#$45678")) (line.Statement (codes "ABCDEFGH") (says.Request (written.Obtain form.Ru 255 (record { least = 2147483647; most = 2147483647; start = 31; within = Some 31; loc = loc.Any }) false (codes "@#$45678"))))

-- Two lines of the same three words, with more or fewer blanks between and any remark.
pub record SameWords (a b : List ℕ) : Type 0 where
  pub length_same : nat_lt 255 (length a) ≡ nat_lt 255 (length b)
  pub bytes_same : list_all (λ x. nat_le 32 x && nat_le x 126) a ≡ list_all (λ x. nat_le 32 x && nat_le x 126) b
  pub nothing_same : is_blank_or_comment a ≡ is_blank_or_comment b
  pub task_same : task_in a ≡ task_in b
  pub operation_same : slice_get (words a) 1 ≡ slice_get (words b) 1
  pub field_same : slice_get (words a) 2 ≡ slice_get (words b) 2

-- Blanks and remarks change nothing.
abbrev pub OnlyWords : Type 0
OnlyWords = (first : Bool) (a b : List ℕ) → SameWords a b → ((l : Line) → LineOf first a l → LineOf first b l) × ((fault : Fault) → FaultOf first a fault → FaultOf first b fault)

-- What a line that is read says is in its ranges, and the first statement is REGION.
abbrev pub InRanges : Type 0
InRanges = (first : Bool) (bytes : List ℕ) (l : Line) → LineOf first bytes l → IsLine first (Ok l)
