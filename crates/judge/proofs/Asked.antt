-- Lines that are open; a script that asks for each area has none.
use Rattle.std.proofs.Common.{◌≡◌, ℕ, ◌+◌, ◌-◌, ◌⊎◌, inl, inr, Bool, true, false, List, [], ◌∷◌, ◌++◌, length, Option, Some, Ok, append-nil, arith, ap, refl, sym, ◌∙◌, subst}
use Rattle.std.specs.Prelude.{slice_get}
use Rattle.mvs_model.specs.declared.line.Line.{Line}
use Rattle.mvs_model.specs.declared.line.Line.TheVariants as line
use Rattle.mvs_model.specs.declared.line.Statement.TheVariants as says
use Rattle.mvs_model.specs.declared.line.SourceRequest.TheVariants as written
use Rattle.mvs_model.specs.declared.name.Name.{Name}
use Rattle.mvs_model.specs.declared.outcome.Outcome.{Outcome}
use Rattle.mvs_model.specs.Job.{JobValue}
use Rattle.mvs_model.specs.Lines.{IsLine, lines_of}
use Rattle.mvs_model.specs.Reading.{LineOf}
use Rattle.mvs_model.specs.Walk.{is_first}
use Rattle.mvs_model.proofs.ReadingRanges.{line_ranged}
use Rattle.judge.specs.declared.Finding.{Finding}
use Rattle.judge.specs.declared.Finding.TheVariants.{Undecided}
use Rattle.mvs_model.proofs.Reading.{one_reading}
use Rattle.judge.specs.declared.kinds.GrantKind.{GrantKind}
use Rattle.judge.specs.declared.kinds.GrantKind.TheVariants.{Area, Areas, Closed, Several}
use Rattle.judge.specs.Deciding.{HasNoQuestion, IsGrant, IsKind, IsKindOf, IsList, IsOther}
use Rattle.judge.specs.Judging.{AskEach, GrantsAreShown, GrantIsShown, AreaIsShown, IsForList, IsFound, ListIsShown, IsListAt, IsOpen, IsOpenAt, IsQuestion, leaves_open}

asked_after : (served left : List (List ℕ)) → GrantsAreShown (served ++ left) → GrantsAreShown left
asked_after [] left a = a
asked_after (bytes ∷ served) left a = asked_after served left a.1

-- a request stands after the first statement
not_first : (first : Bool) (l : Line) → leaves_open l ≡ true → IsLine first (Ok l) → first ≡ false
not_first first line.Nothing opens x = absurd (let e : false ≡ true = opens in cc)
not_first first (line.Statement t (says.Region below above fill residence)) opens x = absurd (let e : false ≡ true = opens in cc)
not_first first (line.Statement t (says.Request a)) opens x = x.0
not_first first (line.Statement t (says.Where name)) opens x = absurd (let e : false ≡ true = opens in cc)
not_first first (line.Statement t says.ReportSubpools) opens x = absurd (let e : false ≡ true = opens in cc)
not_first first (line.Statement t says.ReportMap) opens x = absurd (let e : false ≡ true = opens in cc)

-- the first of some lines is a request for a list
abbrev IsListFirst : List (List ℕ) → Type 0
IsListFirst [] = ⊥
IsListFirst (bytes ∷ lines) = (l : Line) × LineOf false bytes l × IsForList l

list_first : (number : ℕ) (step : Option JobValue) (left : List (List ℕ)) (rest : List ℕ) → GrantsAreShown left → IsOpen number step left rest → IsListFirst left
list_first number step [] rest a x = absurd x
list_first number step (bytes ∷ lines) rest a (l, is, opens, other) =
    let of_step = subst (λ first. LineOf first bytes l) (not_first (is_first step) l opens (line_ranged (is_first step) bytes l is)) is in
    (l, of_step, (other (subst (GrantIsShown l) (append-nil lines) (a.0 l of_step opens))).0)

get_after : (xs : List (List ℕ)) (y : List ℕ) (ys : List (List ℕ)) → slice_get (xs ++ y ∷ ys) (length xs) ≡ Some y
get_after [] y ys = refl
get_after (x ∷ xs) y ys = get_after xs y ys

list_at : (all served left : List (List ℕ)) (number : ℕ) → all ≡ served ++ left → number ≡ 1 + length served → IsListFirst left → IsListAt all number
list_at all served [] number cut counted x = absurd x
list_at all served (bytes ∷ lines) number cut counted x =
    let n : number - 1 ≡ length served = omega (arith, counted) in
    (bytes, (λ i. slice_get (cut i) (n i)) ∙ get_after served bytes lines, x.0, x.1, x.2)

pub asked_decides : (script output text : List ℕ) (outcome : Outcome) (f : Finding) (number : ℕ) → GrantsAreShown (lines_of script) → IsFound script output text outcome f → f ≡ Undecided number → IsListAt (lines_of script) number
asked_decides script output text outcome f number a found is = at (subst (IsFound script output text outcome) is found).0 where
  at : IsOpenAt script output number → IsListAt (lines_of script) number
  at (events, step, left, rest, reached, front, before, opens) =
      list_at (lines_of script) reached.served left number reached.lines reached.counted (list_first number step left rest (asked_after reached.served left (subst GrantsAreShown reached.lines a)) opens)

-- ---- lines that are open

-- the kind of what a line says is that of the line
pub kind_is : (step : Option JobValue) (bytes : List ℕ) (l : Line) (k : GrantKind) → LineOf (is_first step) bytes l → IsKindOf l k → IsKind step bytes k
kind_is step bytes l Closed is x = λ other is_other. ap leaves_open (one_reading.one_line (is_first step) bytes other l is_other is) ∙ x
kind_is step bytes l (Area task area variable) is x = (l, is, x)
kind_is step bytes l (Areas task areas) is x = (l, is, x)
kind_is step bytes l Several is x = (l, is, x)

task_in : Name → Line → Name
task_in other (line.Statement t s) = t
task_in other line.Nothing = other

area_in : Name → Line → Name
area_in other (line.Statement t (says.Request (written.Obtain form number ask variable area))) = area
area_in other _ = other

areas_in : Line → List Name
areas_in (line.Statement t (says.Request (written.ObtainList form number lengths start areas))) = areas
areas_in _ = []

is_area : Line → Bool
is_area (line.Statement t (says.Request (written.Obtain form number ask variable area))) = true
is_area _ = false

pub open_area : (number : ℕ) (step : Option JobValue) (bytes : List ℕ) (lines : List (List ℕ)) (rest : List ℕ) (task area : Name) (variable : Bool) → IsGrant step bytes task area variable → HasNoQuestion lines task area → IsOpen number step (bytes ∷ lines) rest
unfolding task_in area_in is_area
open_area number step bytes lines rest task area variable (l, is, grant) none = (l, is, ap leaves_open grant.3, λ asked. absurd (by_kind asked)) where
  at : (lines : List (List ℕ)) → HasNoQuestion lines task area → AreaIsShown l lines → ⊥
  at [] none x = x
  at (question ∷ lines) none (t, a, v, asks, is_question) =
      let same_task : t ≡ task = ap (task_in task) (sym asks.3 ∙ grant.3) in
      let same_area : a ≡ area = ap (area_in area) (sym asks.3 ∙ grant.3) in
      none (subst (λ t. IsQuestion question t area) same_task (subst (λ a. IsQuestion question t a) same_area is_question))

  by_kind : AreaIsShown l lines ⊎ ListIsShown l lines → ⊥
  by_kind (inl x) = at lines none x
  by_kind (inr (t, areas, asks, each)) = let e : true ≡ false = ap is_area (sym grant.3 ∙ asks.4) in cc

pub open_other : (number : ℕ) (step : Option JobValue) (bytes : List ℕ) (lines : List (List ℕ)) (rest : List ℕ) → IsOther step bytes → IsOpen number step (bytes ∷ lines) rest
open_other number step bytes lines rest (l, is, (opens, no_area, no_list)) = (l, is, opens, λ asked. absurd (at lines asked)) where
  at : (lines : List (List ℕ)) → GrantIsShown l lines → ⊥
  at [] (inl x) = x
  at (question ∷ lines) (inl (t, a, v, asks, is_question)) = no_area t a v asks
  at lines (inr (t, areas, asks, each)) = no_list t areas asks

-- a list after which its areas are not asked for
pub open_list : (number : ℕ) (step : Option JobValue) (bytes : List ℕ) (lines : List (List ℕ)) (rest : List ℕ) (task : Name) (areas : List Name) → IsList step bytes task areas → (AskEach lines task areas → ⊥) → IsOpen number step (bytes ∷ lines) rest
unfolding task_in areas_in is_area
open_list number step bytes lines rest task areas (l, is, asks) none = (l, is, ap leaves_open asks.4, λ asked. absurd (at lines none asked)) where
  at : (lines : List (List ℕ)) → (AskEach lines task areas → ⊥) → GrantIsShown l lines → ⊥
  at [] none (inl x) = x
  at (question ∷ lines) none (inl (t, a, v, area, is_question)) = let e : true ≡ false = ap is_area (sym area.3 ∙ asks.4) in cc
  at lines none (inr (t, names, other, each)) =
      let same_task : t ≡ task = ap (task_in task) (sym other.4 ∙ asks.4) in
      let same_areas : names ≡ areas = ap areas_in (sym other.4 ∙ asks.4) in
      none (subst (λ t. AskEach lines t areas) same_task (subst (λ names. AskEach lines t names) same_areas each))
