-- Bytes of a script that come in pieces.
use Rattle.std.proofs.Common.{◌≡◌, ◌≢◌, ℕ, ◌+◌, ◌≤◌, ◌<◌, List, [], ◌∷◌, ◌++◌, length, take, drop, arith, ap, refl, ◌∙◌, sym, append_assoc, append-nil, true, false, Bool, Result, Ok, Err, Option, Some, None, lt-ltb, length-append, IfOk, IfErr, MatchResult, add-one, get_or, inl, inr, subst, zero, suc}
use Rattle.std.specs.List.{onto_first, AllByRecursion}
use Rattle.std.specs.Io.KnownBytes.{Consumes, IsAtEnd, Keeps}
use Rattle.std.proofs.KnownBytes.{Appends-kept, Consumes-kept, Consumes-nil, Consumes-trans}
use Rattle.std.proofs.lemmas.List.{take-append-drop, length-take-le, take_more, take_at, take_all}
use Rattle.std.proofs.Math.Seq.{drop-cons, take-add}
use Rattle.mvs_model.specs.declared.line.Fault.TheVariants.{TooLong}
use Rattle.mvs_model.specs.declared.line.Line.{Line}
use Rattle.mvs_model.specs.declared.outcome.Outcome.{Outcome}
use Rattle.mvs_model.specs.declared.outcome.Outcome.TheVariants.{ScriptFault}
use Rattle.mvs_model.specs.Lines.{lines_of, ended_text, IsUnended}
use Rattle.mvs_model.specs.Answers.{Faulted}
use Rattle.mvs_model.specs.Job.{JobValue}
use Rattle.mvs_model.specs.Walk.{is_first}
use Rattle.mvs_model.specs.Reading.{FaultOf, LineOf}
use Rattle.mvs_model.proofs.Reading.{one_reading}
use Rattle.mvs_job.specs.declared.printing.Stop.{Stop}
use Rattle.mvs_job.specs.declared.printing.Stop.TheVariants as why
use Rattle.mvs_job.specs.declared.run.RunFault.{RunFault}
use Rattle.mvs_job.specs.declared.run.RunFault.TheVariants.{Read, Write, Memory, ReadTooLong}
use Rattle.mvs_job.specs.Consuming.{IsAny, IsFront, Known, Leaves, Piece, RunsEntry, RunsLast, RunsNext}
use Rattle.mvs_job.specs.Exchanging.{IsRest}
use Rattle.mvs_job.specs.Streams.{Feeds, FeedsSome, Finishes, HasAnswered, HasEnded, HasGivenUp, IsUnderWay, HasConsumed, fault_of}
use Rattle.mvs_job.specs.LineEvents.{WalkValue, new_walk}
use Rattle.mvs_job.specs.Trace.{Entry, Faulty, IsFaulty}
use Rattle.mvs_job.proofs.Driving.{run_arrives, run_ended, run_fault, run_front, run_next, run_start, run_stopped}
use Rattle.mvs_job.proofs.FirstLine.{lines_at_other}

-- ---- lines

pub lines_ended : (line more : List ℕ) → AllByRecursion (λ b. b ≢ 10) line → lines_of (line ++ 10 ∷ more) ≡ line ∷ lines_of more
lines_ended [] more none = refl
lines_ended (b ∷ line) more none = lines_at_other b (line ++ 10 ∷ more) none.0 ∙ rw (lines_ended line more none.1) refl

pub lines_last : (b : ℕ) (line : List ℕ) → AllByRecursion (λ b. b ≢ 10) (b ∷ line) → lines_of (b ∷ line) ≡ (b ∷ line) ∷ []
lines_last b [] none = lines_at_other b [] none.0
lines_last b (c ∷ line) none = lines_at_other b (c ∷ line) none.0 ∙ rw (lines_last c line none.1) refl

onto_first_is : (b : ℕ) (lines : List (List ℕ)) → (rest : List ℕ) × (more : List (List ℕ)) × (onto_first b lines ≡ (b ∷ rest) ∷ more)
onto_first_is b [] = ([], [], refl)
onto_first_is b (line ∷ lines) = (line, lines, refl)

-- what does not end yet begins the first line
lines_begin : (b : ℕ) (line more : List ℕ) → AllByRecursion (λ b. b ≢ 10) (b ∷ line) → (rest : List ℕ) × (lines : List (List ℕ)) × (lines_of ((b ∷ line) ++ more) ≡ ((b ∷ line) ++ rest) ∷ lines)
lines_begin b [] more none =
    let h = onto_first_is b (lines_of more) in
    (h.0, h.1, lines_at_other b more none.0 ∙ h.2)
lines_begin b (c ∷ line) more none =
    let h = lines_begin c line more none.1 in
    (h.0, h.1, lines_at_other b (c ∷ (line ++ more)) none.0 ∙ rw (h.2) refl)

-- the first line of what is kept and what follows
begins : (line more : List ℕ) → 255 < length line → AllByRecursion (λ b. b ≢ 10) line → (rest : List ℕ) × (lines : List (List ℕ)) × (lines_of (line ++ more) ≡ (line ++ rest) ∷ lines)
begins [] more long none = absurd (omega arith)
begins (b ∷ line) more long none = lines_begin b line more none

all_both : (xs ys : List ℕ) → AllByRecursion (λ b. b ≢ 10) xs → AllByRecursion (λ b. b ≢ 10) ys → AllByRecursion (λ b. b ≢ 10) (xs ++ ys)
all_both [] ys p q = q
all_both (x ∷ xs) ys p q = (p.0, all_both xs ys p.1 q)

pub all_before : (bytes : List ℕ) (end : ℕ) → ((k : ℕ) → k < end → get_or bytes k 0 ≢ 10) → end ≤ length bytes → AllByRecursion (λ b. b ≢ 10) (take end bytes)
all_before bytes zero none fits = tt
all_before [] (suc end) none fits = absurd (omega arith)
all_before (b ∷ bytes) (suc end) none fits = (none 0 (omega arith), all_before bytes end (λ k h. none (suc k) (omega arith)) (omega arith))

-- a line that is too long has that fault, however it goes on
is_too_long : (line : List ℕ) (first : Bool) → 255 < length line → FaultOf first line TooLong
is_too_long line first long = rw (lt-ltb 255 (length line) long) refl

-- ---- a line that is too long

not_long : (first : Bool) (line : List ℕ) (said : Line) → 255 < length line → LineOf first line said → ⊥
not_long first line said long of = one_reading.not_both first line said TooLong of (is_too_long line first long)

-- the entry of its first 256 bytes is that of the whole line
long_faulty : (number : ℕ) (old : Option JobValue) (line rest : List ℕ) (e : Entry) → length line ≡ 256 → IsFaulty number old line e → IsFaulty number old (line ++ rest) e
long_faulty number old line rest e size (fault, of, is) =
    let long : 255 < length line = omega arith in
    let longer : 255 < length (line ++ rest) = rw (length-append line rest) (omega arith) in
    let same : TooLong ≡ fault = one_reading.one_fault (is_first old) line TooLong fault (is_too_long line (is_first old) long) of in
    let bytes : take 256 line ≡ take 256 (line ++ rest) = take_all 256 line (omega arith) ∙ sym (take_at line rest 256 size) in (
      fault,
      subst (FaultOf (is_first old) (line ++ rest)) same (is_too_long (line ++ rest) (is_first old) longer),
      is ∙ ap (λ bytes. record { number = number; bytes = bytes; kind = Faulty fault; events = Faulted number fault ∷ []; before = old; after = old }) bytes,
    )

long_any : (number : ℕ) (old : Option JobValue) (line rest : List ℕ) (e : Entry) → length line ≡ 256 → IsAny number old line e → IsAny number old (line ++ rest) e
long_any number old line rest e size (inl is) = absurd (not_long (is_first old) line is.0 (omega (arith, size)) is.3)
long_any number old line rest e size (inr (inl is)) = inr (inl (long_faulty number old line rest e size is))
long_any number old line rest e size (inr (inr is)) = absurd (not_long (is_first old) line is.0 (omega (arith, size)) is.2)

-- the lines of what was read, however it goes on
pub lines_cut : (lines : List (List ℕ)) (rest : List ℕ) → AllByRecursion IsUnended lines → lines_of (ended_text lines ++ rest) ≡ lines ++ lines_of rest
lines_cut [] rest each = refl
lines_cut (l ∷ lines) rest each =
    ap lines_of (append_assoc l (10 ∷ ended_text lines) rest) ∙ lines_ended l (ended_text lines ++ rest) each.0 ∙ ap (λ x. l ∷ x) (lines_cut lines rest each.1)

-- one more line
ended_more : (lines : List (List ℕ)) (l : List ℕ) → ended_text (lines ++ l ∷ []) ≡ ended_text lines ++ (l ++ 10 ∷ [])
ended_more [] l = refl
ended_more (x ∷ lines) l = ap (λ y. x ++ 10 ∷ y) (ended_more lines l) ∙ sym (append_assoc x (10 ∷ ended_text lines) (l ++ 10 ∷ []))

each_more : (lines : List (List ℕ)) (l : List ℕ) → AllByRecursion IsUnended lines → IsUnended l → AllByRecursion IsUnended (lines ++ l ∷ [])
each_more [] l each last = (last, tt)
each_more (x ∷ lines) l each last = (each.0, each_more lines l each.1 last)

module _ (piece : Piece) {S : Type 0} (knows : Known S) where
  -- so what its first 256 bytes do the whole line does
  long_ran : (before after : Option (List ℕ)) (w w' : WalkValue) (line rest : List ℕ) (history : List Entry) (s' : S) (r : Result Bool Stop) → length line ≡ 256
      → RunsEntry piece knows before after w line w' history s' r → RunsEntry piece knows before after w (line ++ rest) w' history s' r
  long_ran before after w w' line rest history s' (Ok true) size (e, is, to, a, known) = absurd (not_long (is_first w.step) line is.0 (omega (arith, size)) is.3)
  long_ran before after w w' line rest history s' (Ok false) size (e, is, a, known) = (e, long_faulty w.number w.step line rest e size is, a, known)
  long_ran before after w w' line rest history s' (Err why.Write) size (e, is, f, known) = (e, long_any w.number w.step line rest e size is, f, known)
  long_ran before after w w' line rest history s' (Err why.Memory) size (inl (e, is, a, known)) = absurd (not_long (is_first w.step) line is.0 (omega (arith, size)) is.2)
  long_ran before after w w' line rest history s' (Err why.Memory) size (inr (e, is, needs, kept, known)) = inr (e, long_any w.number w.step line rest e size is, needs, kept, known)

  -- ---- a piece

  pub stands_start : (start : Option (List ℕ)) (s : S) → knows.has s [] → HasConsumed piece knows start start [] new_walk [] s
  stands_start start s known = record { lines = []; cut = refl; each = tt; unended = tt; run = run_start piece knows start new_walk s refl known }

  -- bytes of one line
  pub stands_many : (start now : Option (List ℕ)) (consumed : List ℕ) (w : WalkValue) (kept line : List ℕ) (s : S) → HasConsumed piece knows start now consumed w kept s → AllByRecursion (λ b. b ≢ 10) line → HasConsumed piece knows start now (consumed ++ line) w (kept ++ line) s
  stands_many start now consumed w kept line s st none = record {
    lines = st.lines;
    cut = ap (λ x. x ++ line) st.cut ∙ append_assoc (ended_text st.lines) kept line;
    each = st.each;
    unended = all_both kept line st.unended none;
    run = st.run;
  }

  -- the lines of a script that goes on with some bytes
  script_cut : (start now : Option (List ℕ)) (consumed : List ℕ) (w : WalkValue) (kept : List ℕ) (s : S) (st : HasConsumed piece knows start now consumed w kept s) (more : List ℕ) → lines_of (consumed ++ more) ≡ st.lines ++ lines_of (kept ++ more)
  script_cut start now consumed w kept s st more = ap (λ x. lines_of (x ++ more)) st.cut ∙ ap lines_of (append_assoc (ended_text st.lines) kept more) ∙ lines_cut st.lines (kept ++ more) st.each

  -- one more line
  module _ (start now later : Option (List ℕ)) (consumed : List ℕ) (w w' : WalkValue) (kept : List ℕ) (s s' : S) (st : HasConsumed piece knows start now consumed w kept s) where
    pub stands_next : w'.number ≡ w.number + 1 → RunsNext piece knows now later w kept w' s s' (Ok true) → HasConsumed piece knows start later (consumed ++ 10 ∷ []) w' [] s'
    stands_next next r = record {
      lines = st.lines ++ kept ∷ [];
      cut = ap (λ x. x ++ 10 ∷ []) st.cut ∙ append_assoc (ended_text st.lines) kept (10 ∷ []) ∙ sym (ended_more st.lines kept) ∙ sym (append-nil (ended_text (st.lines ++ kept ∷ [])));
      each = each_more st.lines kept st.each st.unended;
      unended = tt;
      run = run_next piece knows start now later st.lines w s st.run kept w' s' next (r st.run.entries (run_arrives piece knows start now st.lines w s st.run) st.run.known);
    }

    -- the next line of the script
    module _ (more line : List ℕ) (left : List (List ℕ)) (cut : lines_of (kept ++ more) ≡ line ∷ left) where
      at_line : lines_of (consumed ++ more) ≡ st.lines ++ line ∷ left
      at_line = script_cut start now consumed w kept s st more ∙ ap (λ x. st.lines ++ x) cut

      pub stands_fault : RunsEntry piece knows now later w line w' st.run.entries s' (Ok false) → Leaves piece knows start later (consumed ++ more) s' (Ok ScriptFault)
      stands_fault r = run_fault piece knows start now later st.lines w s st.run (consumed ++ more) line left at_line w' s' r

      pub stands_stopped : (stop : Stop) → RunsEntry piece knows now later w line w' st.run.entries s' (Err stop) → Leaves piece knows start later (consumed ++ more) s' (Err stop)
      stands_stopped stop r = run_stopped piece knows start now later st.lines w s st.run (consumed ++ more) line left at_line w' s' stop r

  -- a line feed ends the line that is kept
  pub feeds_line : (before after : Option (List ℕ)) (w w' : WalkValue) (k : List ℕ) (s s' : S) (r : Result Bool Stop) → w'.number ≡ w.number + 1 → RunsNext piece knows before after w k w' s s' r → Feeds piece knows before after (10 ∷ []) w k s w' [] s' r
  feeds_line before after w w' k s s' (Ok true) next h = λ start consumed st. stands_next start before after consumed w w' k s s' st next h
  feeds_line before after w w' k s s' (Ok false) next h = λ start consumed st more.
      stands_fault start before after consumed w w' k s s' st (10 ∷ more) k (lines_of more) (lines_ended k more st.unended) (h st.run.entries (run_arrives piece knows start before st.lines w s st.run) st.run.known)
  feeds_line before after w w' k s s' (Err stop) next h = λ start consumed st more.
      stands_stopped start before after consumed w w' k s s' st (10 ∷ more) k (lines_of more) (lines_ended k more st.unended) stop (h st.run.entries (run_arrives piece knows start before st.lines w s st.run) st.run.known)

  -- the 256th byte of a line
  pub feeds_full : (before after : Option (List ℕ)) (w w' : WalkValue) (b : ℕ) (k : List ℕ) (s s' : S) (r : Result Bool Stop) → RunsNext piece knows before after w (k ++ b ∷ []) w' s s' r → length (k ++ b ∷ []) ≡ 256 → b ≢ 10
      → Feeds piece knows before after (b ∷ []) w k s w' [] s' r
  feeds_full before after w w' b k s s' (Ok true) h size ne = λ start consumed st.
      absurd (let is = (h st.run.entries (run_arrives piece knows start before st.lines w s st.run) st.run.known).1 in not_long (is_first w.step) (k ++ b ∷ []) is.0 (omega (arith, size)) is.3)
  feeds_full before after w w' b k s s' (Ok false) h size ne = λ start consumed st more.
      let line = k ++ b ∷ [] in
      let x = begins line more (omega (arith, size)) (all_both k (b ∷ []) st.unended (ne, tt)) in
      stands_fault start before after consumed w w' k s s' st (b ∷ more) (line ++ x.0) x.1 (ap lines_of (sym (append_assoc k (b ∷ []) more)) ∙ x.2) (long_ran before after w w' line x.0 st.run.entries s' (Ok false) size (h st.run.entries (run_arrives piece knows start before st.lines w s st.run) st.run.known))
  feeds_full before after w w' b k s s' (Err stop) h size ne = λ start consumed st more.
      let line = k ++ b ∷ [] in
      let x = begins line more (omega (arith, size)) (all_both k (b ∷ []) st.unended (ne, tt)) in
      stands_stopped start before after consumed w w' k s s' st (b ∷ more) (line ++ x.0) x.1 (ap lines_of (sym (append_assoc k (b ∷ []) more)) ∙ x.2) stop (long_ran before after w w' line x.0 st.run.entries s' (Err stop) size (h st.run.entries (run_arrives piece knows start before st.lines w s st.run) st.run.known))

  -- the same two, as a call of end_line leaves the job
  pub fed_line : (before after : Option (List ℕ)) (w w' : WalkValue) (b : ℕ) (k line k' : List ℕ) (s s' : S) (r : Result Bool Stop) → RunsNext piece knows before after w line w' s s' r → (b ≡ 10) × (line ≡ k) → w'.number ≡ w.number + 1 → k' ≡ []
      → Feeds piece knows before after (b ∷ []) w k s w' k' s' r
  fed_line before after w w' b k line k' s s' r h pushed e f =
      subst (λ b. Feeds piece knows before after (b ∷ []) w k s w' k' s' r) (sym (pushed.0))
      (subst (λ k'. Feeds piece knows before after (10 ∷ []) w k s w' k' s' r) (sym f) (feeds_line before after w w' k s s' r e (subst (λ l. RunsNext piece knows before after w l w' s s' r) (pushed.1) h)))

  pub fed_full : (before after : Option (List ℕ)) (w w' : WalkValue) (b : ℕ) (k line k' : List ℕ) (s s' : S) (r : Result Bool Stop) → RunsNext piece knows before after w line w' s s' r → (b ≢ 10) × (line ≡ k ++ b ∷ []) × (length line ≡ 256) → k' ≡ []
      → Feeds piece knows before after (b ∷ []) w k s w' k' s' r
  fed_full before after w w' b k line k' s s' r h pushed f =
      let size : length (k ++ b ∷ []) ≡ 256 = ap length (sym (pushed.1)) ∙ pushed.2 in
      subst (λ k'. Feeds piece knows before after (b ∷ []) w k s w' k' s' r) (sym f) (feeds_full before after w w' b k s s' r (subst (λ l. RunsNext piece knows before after w l w' s s' r) (pushed.1) h) size pushed.0)

  -- a byte that is kept
  pub fed_more : (before : Option (List ℕ)) (w : WalkValue) (b : ℕ) (k k' : List ℕ) (s : S) → (b ≢ 10) × (k' ≡ k ++ b ∷ []) × (length k' < 256) → Feeds piece knows before before (b ∷ []) w k s w k' s (Ok true)
  fed_more before w b k k' s pushed = λ start consumed st. rw (pushed.1) (stands_many start before consumed w k (b ∷ []) s st (pushed.0, tt))

-- ---- the first of some bytes

first_and_rest : (bytes : List ℕ) → 0 < length bytes → bytes ≡ get_or bytes 0 0 ∷ drop 1 bytes
first_and_rest [] some = absurd (omega arith)
first_and_rest (b ∷ bytes) some = refl

-- the bytes after the first of them
rest_split : (consumed bytes more : List ℕ) (at : ℕ) → (consumed ++ take at bytes) ++ (drop at bytes ++ more) ≡ consumed ++ (bytes ++ more)
rest_split consumed bytes more at = append_assoc consumed (take at bytes) (drop at bytes ++ more) ∙ ap (λ x. consumed ++ x) (sym (append_assoc (take at bytes) (drop at bytes) more) ∙ ap (λ x. x ++ more) (take-append-drop at bytes))

-- the bytes round the one at an index
at_split : (consumed bytes more : List ℕ) (i : ℕ) → i < length bytes → (consumed ++ take i bytes) ++ (get_or bytes i 0 ∷ (drop (i + 1) bytes ++ more)) ≡ consumed ++ (bytes ++ more)
at_split consumed bytes more i h =
    let whole : take i bytes ++ (get_or bytes i 0 ∷ drop (i + 1) bytes) ≡ bytes = rw (add-one, ← drop-cons bytes i 0 h) (take-append-drop i bytes) in
    append_assoc consumed (take i bytes) _ ∙ ap (λ x. consumed ++ x) (sym (append_assoc (take i bytes) (get_or bytes i 0 ∷ drop (i + 1) bytes) more) ∙ ap (λ x. x ++ more) whole)

feed_split : (consumed bytes more : List ℕ) (end : ℕ) → end < length bytes → get_or bytes end 0 ≡ 10 → (consumed ++ take end bytes) ++ (10 ∷ (drop (end + 1) bytes ++ more)) ≡ consumed ++ (bytes ++ more)
feed_split consumed bytes more end h e = subst (λ b. (consumed ++ take end bytes) ++ (b ∷ (drop (end + 1) bytes ++ more)) ≡ consumed ++ (bytes ++ more)) e (at_split consumed bytes more end h)

module _ (piece : Piece) {S : Type 0} (knows : Known S) (before after : Option (List ℕ)) (bytes : List ℕ) (w w' : WalkValue) (s s' : S) where
  -- a line that is whole, where none is kept
  module _ (end : ℕ) (fits : end < length bytes) (found : get_or bytes end 0 ≡ 10) (none : (k : ℕ) → k < end → get_or bytes k 0 ≢ 10)
      (next : w'.number ≡ w.number + 1) (start : Option (List ℕ)) (consumed : List ℕ) (st : HasConsumed piece knows start before consumed w [] s) where
    line_stands : HasConsumed piece knows start before (consumed ++ take end bytes) w (take end bytes) s
    line_stands = stands_many piece knows start before consumed w [] (take end bytes) s st (all_before bytes end none (omega arith))

    fed : (r : Result Bool Stop) → RunsNext piece knows before after w (take end bytes) w' s s' r → Feeds piece knows before after (10 ∷ []) w (take end bytes) s w' [] s' r
    fed r h = feeds_line piece knows before after w w' (take end bytes) s s' r next h

    pub whole_on : RunsNext piece knows before after w (take end bytes) w' s s' (Ok true) → HasConsumed piece knows start after (consumed ++ take (end + 1) bytes) w' [] s'
    whole_on h =
        let taken : (consumed ++ take end bytes) ++ 10 ∷ [] ≡ consumed ++ take (end + 1) bytes = append_assoc consumed (take end bytes) (10 ∷ []) ∙ ap (λ x. consumed ++ x) (ap (λ b. take end bytes ++ b ∷ []) (sym found) ∙ sym (take_more bytes end 0 fits)) in
        subst (λ x. HasConsumed piece knows start after x w' [] s') taken (fed (Ok true) h start (consumed ++ take end bytes) line_stands)

    pub whole_fault : RunsNext piece knows before after w (take end bytes) w' s s' (Ok false) → (more : List ℕ) → Leaves piece knows start after (consumed ++ (bytes ++ more)) s' (Ok ScriptFault)
    whole_fault h more =
        subst (λ x. Leaves piece knows start after x s' (Ok ScriptFault)) (feed_split consumed bytes more end fits found) (fed (Ok false) h start (consumed ++ take end bytes) line_stands (drop (end + 1) bytes ++ more))

    pub whole_stopped : (stop : Stop) → RunsNext piece knows before after w (take end bytes) w' s s' (Err stop) → (more : List ℕ) → Leaves piece knows start after (consumed ++ (bytes ++ more)) s' (Err stop)
    whole_stopped stop h more =
        subst (λ x. Leaves piece knows start after x s' (Err stop)) (feed_split consumed bytes more end fits found) (fed (Err stop) h start (consumed ++ take end bytes) line_stands (drop (end + 1) bytes ++ more))

  -- the same, as a call leaves the job
  module _ (end : ℕ) (k k' : List ℕ) (at : (end < length bytes) × (get_or bytes end 0 ≡ 10) × ((j : ℕ) → j < end → get_or bytes j 0 ≢ 10)) (empty : k ≡ []) (next : w'.number ≡ w.number + 1) (cleared : k' ≡ []) where
    pub fed_whole_on : (b : Bool) → b ≡ true → RunsNext piece knows before after w (take end bytes) w' s s' (Ok b) → FeedsSome piece knows before after bytes w k s w' k' s' (Ok (Some (end + 1)))
    fed_whole_on b is h = λ start consumed st. rw (cleared) (whole_on end at.0 at.1 at.2 next start consumed (rw empty at st) (subst (λ b. RunsNext piece knows before after w (take end bytes) w' s s' (Ok b)) is h))

    pub fed_whole_fault : (b : Bool) → b ≡ false → RunsNext piece knows before after w (take end bytes) w' s s' (Ok b) → FeedsSome piece knows before after bytes w k s w' k' s' (Ok None)
    fed_whole_fault b is h = λ start consumed st. whole_fault end at.0 at.1 at.2 next start consumed (rw empty at st) (subst (λ b. RunsNext piece knows before after w (take end bytes) w' s s' (Ok b)) is h)

    pub fed_whole_stopped : (stop : Stop) → RunsNext piece knows before after w (take end bytes) w' s s' (Err stop) → FeedsSome piece knows before after bytes w k s w' k' s' (Err stop)
    fed_whole_stopped stop h = λ start consumed st. whole_stopped end at.0 at.1 at.2 next start consumed (rw empty at st) stop h

  -- the first byte
  module _ (k k' : List ℕ) (some : 0 < length bytes) where
    pub fed_first_on : (b : Bool) → b ≡ true → Feeds piece knows before after (get_or bytes 0 0 ∷ []) w k s w' k' s' (Ok b) → FeedsSome piece knows before after bytes w k s w' k' s' (Ok (Some 1))
    fed_first_on b is f = λ start consumed st.
        subst (λ x. HasConsumed piece knows start after (consumed ++ x) w' k' s') (ap (take 1) (sym (first_and_rest bytes some))) ((subst (λ b. Feeds piece knows before after (get_or bytes 0 0 ∷ []) w k s w' k' s' (Ok b)) is f) start consumed st)

    pub fed_first_fault : (b : Bool) → b ≡ false → Feeds piece knows before after (get_or bytes 0 0 ∷ []) w k s w' k' s' (Ok b) → FeedsSome piece knows before after bytes w k s w' k' s' (Ok None)
    fed_first_fault b is f = λ start consumed st more.
        subst (λ x. Leaves piece knows start after (consumed ++ (x ++ more)) s' (Ok ScriptFault)) (sym (first_and_rest bytes some)) ((subst (λ b. Feeds piece knows before after (get_or bytes 0 0 ∷ []) w k s w' k' s' (Ok b)) is f) start consumed st (drop 1 bytes ++ more))

    pub fed_first_stopped : (stop : Stop) → Feeds piece knows before after (get_or bytes 0 0 ∷ []) w k s w' k' s' (Err stop) → FeedsSome piece knows before after bytes w k s w' k' s' (Err stop)
    fed_first_stopped stop f = λ start consumed st more. subst (λ x. Leaves piece knows start after (consumed ++ (x ++ more)) s' (Err stop)) (sym (first_and_rest bytes some)) (f start consumed st (drop 1 bytes ++ more))

  -- the step of a loop over some bytes
  module _ (rest : List ℕ) (at : ℕ) (k k' : List ℕ) (is : rest ≡ drop at bytes) (start : Option (List ℕ)) (consumed : List ℕ) (st : HasConsumed piece knows start before (consumed ++ take at bytes) w k s) where
    pub some_on : (taken : ℕ) → FeedsSome piece knows before after rest w k s w' k' s' (Ok (Some taken)) → HasConsumed piece knows start after (consumed ++ take (at + taken) bytes) w' k' s'
    some_on taken f =
        let whole : (consumed ++ take at bytes) ++ take taken rest ≡ consumed ++ take (at + taken) bytes = append_assoc consumed (take at bytes) (take taken rest) ∙ ap (λ x. consumed ++ x) (ap (λ x. take at bytes ++ take taken x) is ∙ sym (take-add at taken bytes)) in
        subst (λ x. HasConsumed piece knows start after x w' k' s') whole (f start (consumed ++ take at bytes) st)

    whole_rest : (more : List ℕ) → (consumed ++ take at bytes) ++ (rest ++ more) ≡ consumed ++ (bytes ++ more)
    whole_rest more = ap (λ x. (consumed ++ take at bytes) ++ (x ++ more)) is ∙ rest_split consumed bytes more at

    pub some_fault : FeedsSome piece knows before after rest w k s w' k' s' (Ok None) → (more : List ℕ) → Leaves piece knows start after (consumed ++ (bytes ++ more)) s' (Ok ScriptFault)
    some_fault f more = subst (λ x. Leaves piece knows start after x s' (Ok ScriptFault)) (whole_rest more) (f start (consumed ++ take at bytes) st more)

    pub some_stopped : (stop : Stop) → FeedsSome piece knows before after rest w k s w' k' s' (Err stop) → (more : List ℕ) → Leaves piece knows start after (consumed ++ (bytes ++ more)) s' (Err stop)
    some_stopped stop f more = subst (λ x. Leaves piece knows start after x s' (Err stop)) (whole_rest more) (f start (consumed ++ take at bytes) st more)

-- ---- the end

kept_lines : (k : List ℕ) → AllByRecursion (λ b. b ≢ 10) k → (length k ≡ 0 → ⊥) → lines_of k ≡ k ∷ []
kept_lines [] none some = absurd (some refl)
kept_lines (b ∷ k) none some = lines_last b k none

no_lines : (k : List ℕ) → length k ≡ 0 → lines_of (k ++ []) ≡ []
no_lines [] e = refl
no_lines (b ∷ k) e = absurd (omega arith)

module _ (piece : Piece) {S : Type 0} (knows : Known S) (start now : Option (List ℕ)) (consumed : List ℕ) (w : WalkValue) (k : List ℕ) (s : S) (st : HasConsumed piece knows start now consumed w k s) where
  -- nothing is kept
  pub last_none : (later : Option (List ℕ)) (s' : S) (r : Result Outcome Stop) → length k ≡ 0 → RunsLast piece knows now later w s s' r → Leaves piece knows start later consumed s' r
  last_none later s' r none h =
      let all : lines_of consumed ≡ st.lines = ap lines_of (sym (append-nil consumed)) ∙ script_cut piece knows start now consumed w k s st [] ∙ ap (λ x. st.lines ++ x) (no_lines k none) ∙ append-nil st.lines in
      run_ended piece knows start now later st.lines w s st.run consumed all s' r (h st.run.entries (run_arrives piece knows start now st.lines w s st.run) st.run.known)

  -- the last line
  module _ (later : Option (List ℕ)) (w' : WalkValue) (s' : S) (some : length k ≡ 0 → ⊥) where
    at_last : lines_of consumed ≡ st.lines ++ k ∷ []
    at_last = ap lines_of (sym (append-nil consumed)) ∙ script_cut piece knows start now consumed w k s st [] ∙ ap (λ x. st.lines ++ lines_of x) (append-nil k) ∙ ap (λ x. st.lines ++ x) (kept_lines k st.unended some)

    pub last_line : (b : Bool) → b ≡ true → w'.number ≡ w.number + 1 → RunsNext piece knows now later w k w' s s' (Ok b) → (last : Option (List ℕ)) (s2 : S) (r : Result Outcome Stop) → RunsLast piece knows later last w' s' s2 r → Leaves piece knows start last consumed s2 r
    last_line b is next h last s2 r e =
        let run = run_next piece knows start now later st.lines w s st.run k w' s' next (subst (λ b. RunsNext piece knows now later w k w' s s' (Ok b)) is h st.run.entries (run_arrives piece knows start now st.lines w s st.run) st.run.known) in
        run_ended piece knows start later last (st.lines ++ k ∷ []) w' s' run consumed at_last s2 r (e run.entries (run_arrives piece knows start later (st.lines ++ k ∷ []) w' s' run) run.known)

    pub last_fault : (b : Bool) → b ≡ false → RunsNext piece knows now later w k w' s s' (Ok b) → Leaves piece knows start later consumed s' (Ok ScriptFault)
    last_fault b is h = run_fault piece knows start now later st.lines w s st.run consumed k [] at_last w' s' (subst (λ b. RunsNext piece knows now later w k w' s s' (Ok b)) is h st.run.entries (run_arrives piece knows start now st.lines w s st.run) st.run.known)

    pub last_stopped : (stop : Stop) → RunsNext piece knows now later w k w' s s' (Err stop) → Leaves piece knows start later consumed s' (Err stop)
    last_stopped stop h = run_stopped piece knows start now later st.lines w s st.run consumed k [] at_last w' s' stop (h st.run.entries (run_arrives piece knows start now st.lines w s st.run) st.run.known)

-- ---- a read

-- what is left
rest_of : (left : Option (List ℕ)) → (rest : List ℕ) × IsRest left rest
rest_of None = ([], tt)
rest_of (Some xs) = (xs, refl)

none_left : (left : Option (List ℕ)) → IsAtEnd left → IsRest left []
none_left None e = tt
none_left (Some xs) e = e

module _ (piece : Piece) {S : Type 0} (knows : Known S) where
  stands_kept : (start now later : Option (List ℕ)) (consumed : List ℕ) (w : WalkValue) (k : List ℕ) (s : S) → HasConsumed piece knows start now consumed w k s → Keeps now later → HasConsumed piece knows start later consumed w k s
  stands_kept start now later consumed w k s st kept = record {
    lines = st.lines;
    cut = st.cut;
    each = st.each;
    unended = st.unended;
    run = record { entries = st.run.entries; trace = st.run.trace; counted = st.run.counted; text = st.run.text; is = st.run.is; appended = Appends-kept start now later st.run.text st.run.appended kept; known = st.run.known };
  }

  has_answered : (start now : Option (List ℕ)) (consumed : List ℕ) (w : WalkValue) (k : List ℕ) (s : S) (st : HasConsumed piece knows start now consumed w k s) → length k < 256 → HasAnswered piece knows consumed st.run.text s
  has_answered start now consumed w k s st short = record { lines = st.lines; pending = k; cut = st.cut; each = st.each; unended = st.unended; short = short; entries = st.run.entries; step = w.step; trace = st.run.trace; known = st.run.known; is = st.run.is }

  -- what was written is a front, however the script goes on
  stands_front : (start now : Option (List ℕ)) (consumed : List ℕ) (w : WalkValue) (k : List ℕ) (s : S) (st : HasConsumed piece knows start now consumed w k s) (more : List ℕ) → IsFront piece knows (consumed ++ more) st.run.text s
  stands_front start now consumed w k s st more = run_front piece knows start now now st.lines w s st.run (consumed ++ more) (lines_of (k ++ more)) (script_cut piece knows start now consumed w k s st more)

  pub under_way_start : (unread start : Option (List ℕ)) (w : WalkValue) (k : List ℕ) (s : S) → w ≡ new_walk → k ≡ [] → knows.has s [] → IsUnderWay piece knows unread unread start start 0 w k s
  under_way_start unread start w k s e h known = rw (e, h) ([], Consumes-nil unread, refl, stands_start piece knows start s known, omega arith)

  -- what a run leaves that ended, or stopped
  ended_so : (unread left start now : Option (List ℕ)) (most : ℕ) (consumed rest : List ℕ) (s : S) (outcome : Outcome) → Consumes unread left consumed → IsRest left rest → length consumed ≤ most → Leaves piece knows start now (consumed ++ rest) s (Ok outcome) → HasEnded piece knows unread left start now most s outcome
  ended_so unread left start now most consumed rest s outcome c r enough p = (consumed, rest, p.0, c, r, p.1, (enough, p.2))

  stopped_so : (unread left start now : Option (List ℕ)) (most : ℕ) (consumed rest : List ℕ) (s : S) (stop : Stop) (fault : RunFault) → fault ≡ fault_of stop → Consumes unread left consumed → IsRest left rest → length consumed ≤ most → Leaves piece knows start now (consumed ++ rest) s (Err stop)
      → HasGivenUp piece knows unread left start now most s fault
  stopped_so unread left start now most consumed rest s why.Write fault is c r enough p = subst (HasGivenUp piece knows unread left start now most s) (sym is) (consumed, rest, p.0, c, r, p.1, (enough, p.2))
  stopped_so unread left start now most consumed rest s why.Memory fault is c r enough p = subst (HasGivenUp piece knows unread left start now most s) (sym is) (consumed, rest, p.0, c, r, p.1, (enough, p.2))

  -- a job under way, before a read: the writer is flushed, and the read consumed some bytes or failed
  module _ (unread left left' start now flushed : Option (List ℕ)) (count : ℕ) (w : WalkValue) (k : List ℕ) (s : S) (u : IsUnderWay piece knows unread left start now count w k s) (kept : Keeps now flushed) where
    here : HasConsumed piece knows start flushed u.0 w k s
    here = stands_kept start now flushed u.0 w k s u.3 kept

    pub read_failed : (room : ℕ) (fault : RunFault) → (fault ≡ Memory → ⊥) → (fault ≡ ReadTooLong → ⊥) → Keeps left left' → HasGivenUp piece knows unread left' start flushed (count + room) s fault
    read_failed room Memory other short same = absurd (other refl)
    read_failed room ReadTooLong other short same = absurd (short refl)
    read_failed room Write other short same =
        let r = rest_of left' in
        (u.0, r.0, here.run.text, Consumes-kept unread left left' u.0 u.1 same, r.1, here.run.appended, (rw (u.2) (omega arith), stands_front start flushed u.0 w k s here r.0))
    read_failed room Read other short same =
        let r = rest_of left' in
        (u.0, r.0, here.run.text, Consumes-kept unread left left' u.0 u.1 same, r.1, here.run.appended, (rw (u.2) (omega arith), stands_front start flushed u.0 w k s here r.0, has_answered start flushed u.0 w k s here u.4))

    -- the end of the script
    module _ (after : Option (List ℕ)) (most m : ℕ) (s' : S) (chunk : List ℕ) (enough : count ≤ most) (none : m ≡ 0) (ended : IsAtEnd left') (c : Consumes left left' (take m chunk)) where
      all_consumed : Consumes unread left' u.0
      all_consumed = rw (append-nil u.0) at (Consumes-trans unread left left' u.0 [] u.1 (rw none at c))

      pub read_end : (outcome : Outcome) → Finishes piece knows flushed after w k s s' (Ok outcome) → HasEnded piece knows unread left' start after most s' outcome
      read_end outcome f = ended_so unread left' start after most u.0 [] s' outcome all_consumed (none_left left' ended) (rw (u.2) enough) (subst (λ x. Leaves piece knows start after x s' (Ok outcome)) (sym (append-nil u.0)) (f start u.0 here))

      pub read_end_stopped : (stop : Stop) (fault : RunFault) → fault ≡ fault_of stop → Finishes piece knows flushed after w k s s' (Err stop) → HasGivenUp piece knows unread left' start after most s' fault
      read_end_stopped stop fault is f = stopped_so unread left' start after most u.0 [] s' stop fault is all_consumed (none_left left' ended) (rw (u.2) enough) (subst (λ x. Leaves piece knows start after x s' (Err stop)) (sym (append-nil u.0)) (f start u.0 here))

    -- some bytes
    module _ (after : Option (List ℕ)) (room m : ℕ) (w' : WalkValue) (k' : List ℕ) (s' : S) (chunk : List ℕ) (c : Consumes left left' (take m chunk)) (fits : m ≤ length chunk) (least : length chunk ≤ room) where
      read_length : length (u.0 ++ take m chunk) ≡ count + m
      read_length = length-append u.0 (take m chunk) ∙ rw (u.2, length-take-le m chunk fits) refl

      read_most : length (u.0 ++ take m chunk) ≤ count + room
      read_most = rw read_length (omega arith)

      abbrev pub Fed : Result Bool Stop → Type 0
      Fed r = Feeds piece knows flushed after (take m chunk) w k s w' k' s' r

      pub read_on : length k' < 256 → (b : Bool) → b ≡ true → Fed (Ok b) → IsUnderWay piece knows unread left' start after (count + m) w' k' s'
      read_on short b is f = (u.0 ++ take m chunk, Consumes-trans unread left left' u.0 _ u.1 c, read_length, (subst (λ b. Fed (Ok b)) is f) start u.0 here, short)

      pub read_fault : (b : Bool) → b ≡ false → Fed (Ok b) → HasEnded piece knows unread left' start after (count + room) s' ScriptFault
      read_fault b is f =
          let r = rest_of left' in
          ended_so unread left' start after (count + room) (u.0 ++ take m chunk) r.0 s' ScriptFault (Consumes-trans unread left left' u.0 _ u.1 c) r.1 read_most (rw (append_assoc u.0 (take m chunk) r.0) ((subst (λ b. Fed (Ok b)) is f) start u.0 here r.0))

      pub read_stopped : (stop : Stop) (fault : RunFault) → fault ≡ fault_of stop → Fed (Err stop) → HasGivenUp piece knows unread left' start after (count + room) s' fault
      read_stopped stop fault is f =
          let r = rest_of left' in
          stopped_so unread left' start after (count + room) (u.0 ++ take m chunk) r.0 s' stop fault is (Consumes-trans unread left left' u.0 _ u.1 c) r.1 read_most (subst (λ x. Leaves piece knows start after x s' (Err stop)) (sym (append_assoc u.0 (take m chunk) r.0)) (f start u.0 here r.0))

    -- a byte too many: what is written is a front, however the script goes on
    module _ (m : ℕ) (chunk : List ℕ) (c : Consumes left left' (take m chunk)) (fits : m ≤ length chunk) (least : length chunk ≤ 1) (some : 0 < m) where
      pub read_too_many : HasGivenUp piece knows unread left' start flushed count s ReadTooLong
      read_too_many =
          let r = rest_of left' in
          let p : IsFront piece knows ((u.0 ++ take m chunk) ++ r.0) here.run.text s = rw (append_assoc u.0 (take m chunk) r.0) (stands_front start flushed u.0 w k s here (take m chunk ++ r.0)) in
          let first : take count (u.0 ++ take m chunk) ≡ u.0 = take_at u.0 (take m chunk) count u.2 in
          let consumed : length (u.0 ++ take m chunk) ≡ count + m = length-append u.0 (take m chunk) ∙ rw (u.2, length-take-le m chunk fits) refl in
          (u.0 ++ take m chunk, r.0, here.run.text, Consumes-trans unread left left' u.0 _ u.1 c, r.1, here.run.appended, (consumed ∙ ap (λ m. count + m) (let one : m ≡ 1 = omega arith in one), p, rw first (has_answered start flushed u.0 w k s here u.4)))

  -- ---- the end of a job in the terms of its contract

  pub ended_within : (unread left start now : Option (List ℕ)) (most : ℕ) (s : S) (outcome : Outcome) → HasEnded piece knows unread left start now most s outcome → most ≤ 16777215 → HasEnded piece knows unread left start now 16777215 s outcome
  ended_within unread left start now most s outcome h enough = (h.0, h.1, h.2, h.3, h.4, h.5, (omega (arith, h.6.0, enough), h.6.1))

  -- a job that stopped, but not for the length of its script
  pub given_up : (unread left start now : Option (List ℕ)) (count most : ℕ) (s : S) (fault : RunFault) → HasGivenUp piece knows unread left start now most s fault → most ≤ count → (fault ≡ ReadTooLong → ⊥) → HasGivenUp piece knows unread left start now count s fault
  given_up unread left start now count most s Read b enough other = (b.0, b.1, b.2, b.3, b.4, b.5, (omega (arith, b.6.0, enough), b.6.1, b.6.2))
  given_up unread left start now count most s Write b enough other = (b.0, b.1, b.2, b.3, b.4, b.5, (omega (arith, b.6.0, enough), b.6.1))
  given_up unread left start now count most s Memory b enough other = (b.0, b.1, b.2, b.3, b.4, b.5, (omega (arith, b.6.0, enough), b.6.1))
  given_up unread left start now count most s ReadTooLong b enough other = absurd (other refl)

  pub given_up_within : (unread left start now : Option (List ℕ)) (count : ℕ) (s : S) (fault : RunFault) → HasGivenUp piece knows unread left start now count s fault → count ≡ 16777215 → HasGivenUp piece knows unread left start now 16777215 s fault
  given_up_within unread left start now count s fault h e = subst (λ n. HasGivenUp piece knows unread left start now n s fault) e h

-- what holds of each result, by what the call says
pub if_ok : {X E : Type 0} (r : Result X E) (P R : X → Type 0) (Q : E → Type 0) → MatchResult r P Q → ((x : X) → P x → R x) → IfOk r R
if_ok (Ok x) P R Q h f = f x h
if_ok (Err e) P R Q h f = tt

pub if_err : {X E : Type 0} (r : Result X E) (P : X → Type 0) (Q R : E → Type 0) → MatchResult r P Q → ((e : E) → Q e → R e) → IfErr r R
if_err (Ok x) P Q R h f = tt
if_err (Err e) P Q R h f = f e h
