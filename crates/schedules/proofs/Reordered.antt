-- The text of lines in another order.
use Rattle.std.proofs.Common.{◌≡◌, ◌≢◌, ℕ, suc, zero, ◌+◌, ◌<◌, ◌≤◌, ◌-◌, ◌==◌, if◌then◌else◌, Bool, true, false, List, [], ◌∷◌, ◌++◌, length, map, take, drop, get_or, Option, Some, None, Result, Ok, Err, refl, sym, ap, ◌∙◌, subst, append-nil, append_assoc, arith}
use Rattle.std.specs.Prelude.{slice_get}
use Rattle.std.specs.Option.{unwrap_or}
use Rattle.std.specs.List.{AllByRecursion, onto_first}
use Rattle.std.proofs.lemmas.Bool.Decides.{Decides-eqb}
use Rattle.std.proofs.lemmas.List.{drop_more, map-append, take-append-drop, take_all, take_more}
use Rattle.std.proofs.Math.Seq.{drop-length}
use Rattle.mvs_model.specs.Lines.{IsUnended, ended_text, lines_of}
use Rattle.mvs_model.specs.declared.outcome.Outcome.{Outcome}
use Rattle.mvs_model.specs.declared.outcome.Outcome.TheVariants.{ScriptFault}
use Rattle.mvs_job.specs.declared.printing.Stop.{Stop}
use Rattle.mvs_job.specs.LineEvents.{WalkValue}
use Rattle.mvs_job.specs.Consuming.{HasRun, Known, Leaves, Piece, RunsEntry, RunsLast, RunsNext}
use Rattle.mvs_job.proofs.Driving.{run_arrives, run_ended, run_fault, run_next, run_stopped}
use Rattle.mvs_job.proofs.Feeding.{lines_cut}
use Rattle.schedules.specs.InOrder.{line_at, lines_at}

-- ---- no line of a script has a newline

-- bytes without a newline, by each byte
pub line_unended : (bytes : List ℕ) → ((k : ℕ) → get_or bytes k 0 ≢ 10) → IsUnended bytes
line_unended [] each = tt
line_unended (b ∷ bytes) each = (each 0, line_unended bytes (λ k. each (suc k)))

pub all_unended : (lines : List (List ℕ)) → ((i k : ℕ) → get_or (get_or lines i []) k 0 ≢ 10) → AllByRecursion IsUnended lines
all_unended [] each = tt
all_unended (l ∷ lines) each = (line_unended l (each 0), all_unended lines (λ i. each (suc i)))

byte_of : (bytes : List ℕ) → IsUnended bytes → (k : ℕ) → get_or bytes k 0 ≢ 10
byte_of [] all k = λ e. absurd (let f : 0 ≡ 10 = e in omega (arith, f))
byte_of (b ∷ bytes) all zero = all.0
byte_of (b ∷ bytes) all (suc k) = byte_of bytes all.1 k

pub bytes_of : (lines : List (List ℕ)) → AllByRecursion IsUnended lines → (i k : ℕ) → get_or (get_or lines i []) k 0 ≢ 10
bytes_of [] all i k = byte_of [] tt k
bytes_of (l ∷ lines) all zero k = byte_of l all.0 k
bytes_of (l ∷ lines) all (suc i) k = bytes_of lines all.1 i k

onto_unended : (b : ℕ) (lines : List (List ℕ)) → b ≢ 10 → AllByRecursion IsUnended lines → AllByRecursion IsUnended (onto_first b lines)
onto_unended b [] other all = ((other, tt), tt)
onto_unended b (l ∷ lines) other all = ((other, all.0), all.1)

byte_unended : (b : ℕ) (bytes : List ℕ) (feed : Bool) → (b == 10) ≡ feed → AllByRecursion IsUnended (lines_of bytes) → AllByRecursion IsUnended (if feed then [] ∷ lines_of bytes else onto_first b (lines_of bytes))
byte_unended b bytes true e all = (tt, all)
byte_unended b bytes false e all = onto_unended b (lines_of bytes) (λ is. let f : true ≡ false = sym ((Decides-eqb b 10).1 is) ∙ e in absurd (let g : true ≡ false = f in cc)) all

pub lines_unended : (bytes : List ℕ) → AllByRecursion IsUnended (lines_of bytes)
lines_unended [] = tt
lines_unended (b ∷ bytes) = byte_unended b bytes (b == 10) refl (lines_unended bytes)

-- ---- the lines in an order

get_unended : (lines : List (List ℕ)) (i : ℕ) → AllByRecursion IsUnended lines → IsUnended (unwrap_or (slice_get lines i) [])
get_unended [] i all = tt
get_unended (l ∷ lines) zero all = all.0
get_unended (l ∷ lines) (suc i) all = get_unended lines i all.1

pub order_unended : (lines : List (List ℕ)) (numbers : List ℕ) → AllByRecursion IsUnended lines → AllByRecursion IsUnended (lines_at lines numbers)
order_unended lines [] all = tt
order_unended lines (n ∷ numbers) all = (get_unended lines (n - 1) all, order_unended lines numbers all)

-- the text of lines in an order
pub order_text_lines : (lines : List (List ℕ)) (numbers : List ℕ) → AllByRecursion IsUnended lines → lines_of (ended_text (lines_at lines numbers)) ≡ lines_at lines numbers
order_text_lines lines numbers all =
    ap lines_of (sym (append-nil (ended_text (lines_at lines numbers)))) ∙ lines_cut (lines_at lines numbers) [] (order_unended lines numbers all) ∙ append-nil (lines_at lines numbers)

-- the numbers at an index
module _ (lines : List (List ℕ)) (numbers : List ℕ) (i : ℕ) (within : i < length numbers) where
  pub lines_next : lines_at lines (take (i + 1) numbers) ≡ lines_at lines (take i numbers) ++ line_at lines (get_or numbers i 0) ∷ []
  lines_next = ap (lines_at lines) (take_more numbers i 0 within) ∙ map-append (line_at lines) (take i numbers) (get_or numbers i 0 ∷ [])

  pub lines_split : lines_at lines numbers ≡ lines_at lines (take i numbers) ++ line_at lines (get_or numbers i 0) ∷ lines_at lines (drop (i + 1) numbers)
  lines_split = ap (lines_at lines) (sym (take-append-drop i numbers)) ∙ map-append (line_at lines) (take i numbers) (drop i numbers) ∙ ap (λ x. lines_at lines (take i numbers) ++ lines_at lines x) (drop_more numbers i 0 within)

-- ---- a run of the lines in an order

module _ (piece : Piece) {S : Type 0} (knows : Known S) (start : Option (List ℕ)) (lines : List (List ℕ)) (numbers : List ℕ) (unended : AllByRecursion IsUnended lines) where
  abbrev pub IsLeft : Option (List ℕ) → S → Result Outcome Stop → Type 0
  IsLeft after s result = (text : List ℕ) × (lines_of text ≡ lines_at lines numbers) × Leaves piece knows start after text s result

  is_left : (after : Option (List ℕ)) (s : S) (result : Result Outcome Stop) → Leaves piece knows start after (ended_text (lines_at lines numbers)) s result → IsLeft after s result
  is_left after s result h = (ended_text (lines_at lines numbers), order_text_lines lines numbers unended, h)

  module _ (before after : Option (List ℕ)) (i : ℕ) (within : i < length numbers) (w w' : WalkValue) (s s' : S) (l : List ℕ) (is : l ≡ line_at lines (get_or numbers i 0)) (p : HasRun piece knows start before (lines_at lines (take i numbers)) w s) where
    abbrev pub Ran : Result Bool Stop → Type 0
    Ran r = RunsNext piece knows before after w l w' s s' r

    abbrev here : List (List ℕ)
    here = lines_at lines (take i numbers)

    ran : (r : Result Bool Stop) → Ran r → RunsEntry piece knows before after w l w' p.entries s' r
    ran r x = x p.entries (run_arrives piece knows start before here w s p) p.known

    split : lines_of (ended_text (lines_at lines numbers)) ≡ here ++ l ∷ lines_at lines (drop (i + 1) numbers)
    split = order_text_lines lines numbers unended ∙ lines_split lines numbers i within ∙ ap (λ x. here ++ x ∷ lines_at lines (drop (i + 1) numbers)) (sym is)

    pub run_on : w'.number ≡ w.number + 1 → (b : Bool) → b ≡ true → Ran (Ok b) → HasRun piece knows start after (lines_at lines (take (i + 1) numbers)) w' s'
    run_on next b e x =
        subst (λ x. HasRun piece knows start after x w' s') (ap (λ x. here ++ x ∷ []) is ∙ sym (lines_next lines numbers i within))
        (run_next piece knows start before after here w s p l w' s' next (subst (λ b. RunsEntry piece knows before after w l w' p.entries s' (Ok b)) e (ran (Ok b) x)))

    pub run_faulty : (b : Bool) → b ≡ false → Ran (Ok b) → IsLeft after s' (Ok ScriptFault)
    run_faulty b e x =
        is_left after s' (Ok ScriptFault)
        (run_fault piece knows start before after here w s p (ended_text (lines_at lines numbers)) l (lines_at lines (drop (i + 1) numbers)) split w' s' (subst (λ b. RunsEntry piece knows before after w l w' p.entries s' (Ok b)) e (ran (Ok b) x)))

    pub run_stops : (why : Stop) → Ran (Err why) → IsLeft after s' (Err why)
    run_stops why x =
        is_left after s' (Err why)
        (run_stopped piece knows start before after here w s p (ended_text (lines_at lines numbers)) l (lines_at lines (drop (i + 1) numbers)) split w' s' why (ran (Err why) x))

  pub run_ends : (before after : Option (List ℕ)) (i : ℕ) → i ≤ length numbers → (i < length numbers → ⊥) → (w : WalkValue) (s s' : S) → HasRun piece knows start before (lines_at lines (take i numbers)) w s → (result : Result Outcome Stop)
      → RunsLast piece knows before after w s s' result → IsLeft after s' result
  run_ends before after i within none w s s' p result x =
      let all : take i numbers ≡ numbers = take_all i numbers (omega (arith, within, none)) in
      let q = subst (λ x. HasRun piece knows start before (lines_at lines x) w s) all p in
      is_left after s' result
      (run_ended piece knows start before after (lines_at lines numbers) w s q (ended_text (lines_at lines numbers)) (order_text_lines lines numbers unended) s' result (x q.entries (run_arrives piece knows start before (lines_at lines numbers) w s q) q.known))
