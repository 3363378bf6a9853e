-- One step more of a server that runs, or its last one.
use Rattle.std.proofs.Common.{◌≡◌, ℕ, suc, List, [], ◌++◌, Ok, Err, refl, sym, ap, subst, ◌∙◌, append_assoc, append-nil}
use Rattle.std.specs.Prelude.{Option, None, Result, IfOk, IsErrAnd, MatchResult, true, ◌-◌, ◌^◌}
use Rattle.std.specs.Io.KnownBytes.{Appends, Consumes}
use Rattle.std.proofs.KnownBytes.{Appends-nil, Appends-trans, Consumes-kept, Consumes-nil, Consumes-trans}
use Rattle.line_text.specs.Writing.{AppendsFront}
use Rattle.mvs_model.specs.Watched.{WatchedValue}
use Rattle.editor_messages.specs.declared.frames.Frame.{Frame}
use Rattle.editor_messages.specs.declared.frames.Frame.TheVariants as frame
use Rattle.editor_messages.specs.declared.protocol.Phase.{Phase}
use Rattle.editor_messages.specs.declared.protocol.Phase.TheVariants as phase
use Rattle.editor_messages.specs.declared.server.Turn.{Turn}
use Rattle.editor_messages.specs.declared.session.Ending.{Ending}
use Rattle.editor_messages.specs.declared.session.Ending.TheVariants as ending
use Rattle.editor_messages.specs.Frames.{frame_of}
use Rattle.editor_messages.specs.Inputs.{InputValue, after_frame, with_more}
use Rattle.editor_messages.specs.Protocol.{status_of}
use Rattle.editor_messages.specs.Queries.{QueryValue, NoticeValue}
use Rattle.editor_messages.specs.Serving.{EndsRead, EndsTurn, HasRead, HasRun, HasSent, HasTaken, exit_of, sent_of, IsFrameTurn, IsRunning, Moment, Runs, arrives, begins, serves}

module _ {A R W : Type 0} (may_answer : A → QueryValue → List ℕ → Type 0) (may_lack : A → QueryValue → Type 0) (may_notice : A → NoticeValue → A → List ℕ → Type 0) (left : R → Option (List ℕ)) (contents : W → Option (List ℕ)) (first : WatchedValue R) (first_writer : WatchedValue W) (begun : A) where
  abbrev Running : WatchedValue R → WatchedValue W → ℕ → InputValue → Moment A → Type 0
  Running reader writer n i s = IsRunning may_answer may_lack may_notice left contents first first_writer reader writer begun n i s

  abbrev Run : WatchedValue R → WatchedValue W → Ending → Type 0
  Run reader writer e = HasRun may_answer may_lack may_notice left contents first first_writer reader writer begun e

  -- more bytes have arrived
  read_on : (reader then : WatchedValue R) (writer : WatchedValue W) (n : ℕ) (i j : InputValue) (s : Moment A) (more : List ℕ) → Running reader writer n i s
      → Consumes (left reader.inner) (left then.inner) more → j ≡ with_more i more → Running then writer (suc n) j s
  read_on reader then writer n i j s more r c e = record {
    arrived = r.arrived ++ more;
    sent = r.sent;
    runs = subst (λ k. Runs may_answer may_lack may_notice begun (suc n) (r.arrived ++ more) k s r.sent) (sym e) (arrives r.runs more);
    has_read = Consumes-trans (left first.inner) (left reader.inner) (left then.inner) r.arrived more r.has_read c;
    has_written = r.has_written;
  }

  -- the turn of a frame was taken
  sent_on : (reader : WatchedValue R) (writer then : WatchedValue W) (n : ℕ) (i j : InputValue) (s t : Moment A) (new : List ℕ) → Running reader writer n i s
      → IsFrameTurn may_answer may_lack may_notice (frame_of i.rest) i.rest s new None t → Appends (contents writer.inner) (contents then.inner) new → j ≡ after_frame i (frame_of i.rest)
      → Running reader then (suc n) j t
  sent_on reader writer then n i j s t new r turn a e = record {
    arrived = r.arrived;
    sent = r.sent ++ new;
    runs = subst (λ k. Runs may_answer may_lack may_notice begun (suc n) r.arrived k t (r.sent ++ new)) (sym e) (serves r.runs t new turn);
    has_read = r.has_read;
    has_written = Appends-trans (contents first_writer.inner) (contents writer.inner) (contents then.inner) r.sent new r.has_written a;
  }

  -- nothing more was written
  same_written : (writer then : WatchedValue W) (sent : List ℕ) → Appends (contents first_writer.inner) (contents writer.inner) sent → Appends (contents writer.inner) (contents then.inner) []
      → Appends (contents first_writer.inner) (contents then.inner) sent
  same_written writer then sent p q =
      subst (λ l. Appends (contents first_writer.inner) (contents then.inner) l) (append-nil sent) (Appends-trans (contents first_writer.inner) (contents writer.inner) (contents then.inner) sent [] p q)

  -- nothing more was read
  same_read : (reader then : WatchedValue R) (arrived : List ℕ) → Consumes (left first.inner) (left reader.inner) arrived → Consumes (left reader.inner) (left then.inner) []
      → Consumes (left first.inner) (left then.inner) arrived
  same_read reader then arrived p q =
      subst (λ l. Consumes (left first.inner) (left then.inner) l) (append-nil arrived) (Consumes-trans (left first.inner) (left reader.inner) (left then.inner) arrived [] p q)

  ends_read : (reader then : WatchedValue R) (writer : WatchedValue W) (n : ℕ) (i : InputValue) (s : Moment A) (status : ℕ) (e : Ending) → Running reader writer n i s → frame_of i.rest ≡ frame.Incomplete
      → status ≡ status_of s.phase → EndsRead left reader then status e → Run then writer e
  ends_read reader then writer n i s status (ending.End m) r is so h =
      record { steps = n; arrived = r.arrived; input = i; now = s; sent = r.sent; runs = r.runs; ends = (same_read reader then r.arrived r.has_read h.0, r.has_written, h.1, is, h.2 ∙ so) }
  ends_read reader then writer n i s status ending.Read r is so h =
      record {
        steps = n;
        arrived = r.arrived;
        input = i;
        now = s;
        sent = r.sent;
        runs = r.runs;
        ends = (Consumes-kept (left first.inner) (left reader.inner) (left then.inner) r.arrived r.has_read h.0, r.has_written, h.1);
      }
  ends_read reader then writer n i s status ending.Memory r is so h =
      record {
        steps = n;
        arrived = r.arrived;
        input = i;
        now = s;
        sent = r.sent;
        runs = r.runs;
        ends = ((h.0, Consumes-trans (left first.inner) (left reader.inner) (left then.inner) r.arrived h.0 r.has_read h.1), r.has_written);
      }
  ends_read reader then writer n i s status (ending.Exit m) r is so h = absurd h
  ends_read reader then writer n i s status ending.Write r is so h = absurd h
  ends_read reader then writer n i s status ending.Steps r is so h = absurd h

  -- a step that reads
  pub after_read : (reader then : WatchedValue R) (writer : WatchedValue W) (n : ℕ) (i j : InputValue) (s : Moment A) (status : ℕ) (result : Result (Unit {0}) Ending) → frame_of i.rest ≡ frame.Incomplete
      → status ≡ status_of s.phase → HasRead left reader then i j status result → Running reader writer n i s
      → MatchResult result (λ _. Running then writer (suc n) j s) (λ e. Run then writer e)
  after_read reader then writer n i j s status (Ok u) is so h r = read_on reader then writer n i j s h.0 r h.1 h.2
  after_read reader then writer n i j s status (Err e) is so h r = ends_read reader then writer n i s status e r is so h

  ends_turn : (reader : WatchedValue R) (writer then : WatchedValue W) (n : ℕ) (i : InputValue) (s : Moment A) (e : Ending) → Running reader writer n i s
      → EndsTurn may_answer may_lack may_notice contents writer then i s e → Run reader then e
  ends_turn reader writer then n i s (ending.Exit m) r h =
      record { steps = n; arrived = r.arrived; input = i; now = s; sent = r.sent; runs = r.runs; ends = (r.has_read, same_written writer then r.sent r.has_written h.1, h.0) }
  ends_turn reader writer then n i s ending.Write r h =
      let turn = h.1 in let front = turn.3 in
      record {
        steps = n;
        arrived = r.arrived;
        input = i;
        now = s;
        sent = r.sent;
        runs = r.runs;
        ends = (
          r.has_read,
          h.0,
          (
            turn.0,
            turn.1,
            turn.2,
            (
              r.sent ++ front.0,
              front.1,
              ap (λ l. r.sent ++ l) front.2 ∙ sym (append_assoc r.sent front.0 front.1),
              Appends-trans (contents first_writer.inner) (contents writer.inner) (contents then.inner) r.sent front.0 r.has_written front.3,
            ),
          ),
        );
      }
  ends_turn reader writer then n i s ending.Memory r h =
      record {
        steps = n;
        arrived = r.arrived;
        input = i;
        now = s;
        sent = r.sent;
        runs = r.runs;
        ends = (([], subst (λ l. Consumes (left first.inner) (left reader.inner) l) (sym (append-nil r.arrived)) r.has_read), same_written writer then r.sent r.has_written h);
      }
  ends_turn reader writer then n i s (ending.End m) r h = absurd h
  ends_turn reader writer then n i s ending.Read r h = absurd h
  ends_turn reader writer then n i s ending.Steps r h = absurd h

  -- a step that takes the turn of a frame
  pub after_turn : (reader : WatchedValue R) (writer then : WatchedValue W) (n : ℕ) (i j : InputValue) (s t : Moment A) (result : Result (Unit {0}) Ending)
      → HasTaken may_answer may_lack may_notice contents writer then i j s t result → Running reader writer n i s
      → MatchResult result (λ _. Running reader then (suc n) j t) (λ e. Run reader then e)
  after_turn reader writer then n i j s t (Ok u) h r = sent_on reader writer then n i j s t h.0 r h.1 h.2 h.3
  after_turn reader writer then n i j s t (Err e) h r = ends_turn reader writer then n i s e r h

  -- before the first step
  pub not_yet : (i : InputValue) (s : Moment A) → i.rest ≡ [] → i.skipped ≡ 0 → s.phase ≡ phase.Waiting → s.answers ≡ begun → Running first first_writer 0 i s
  not_yet i s none all waiting same =
      let one = subst (λ (r : List ℕ). Runs may_answer may_lack may_notice begun 0 [] (record { rest = r; skipped = 0 }) (record { phase = phase.Waiting; answers = begun }) []) (sym none) begins in
      let two = subst (λ (n : ℕ). Runs may_answer may_lack may_notice begun 0 [] (record { rest = i.rest; skipped = n }) (record { phase = phase.Waiting; answers = begun }) []) (sym all) one in
      let three = subst (λ (p : Phase). Runs may_answer may_lack may_notice begun 0 [] i (record { phase = p; answers = begun }) []) (sym waiting) two in
      record {
        arrived = [];
        sent = [];
        runs = subst (λ (a : A). Runs may_answer may_lack may_notice begun 0 [] i (record { phase = s.phase; answers = a }) []) (sym same) three;
        has_read = Consumes-nil (left first.inner);
        has_written = Appends-nil (contents first_writer.inner);
      }

  -- after the last one that is counted
  pub ran_out : (reader : WatchedValue R) (writer : WatchedValue W) (n : ℕ) (i : InputValue) (s : Moment A) → n ≡ 2 ^ 64 - 1 → Running reader writer n i s → Run reader writer ending.Steps
  ran_out reader writer n i s is r = record { steps = n; arrived = r.arrived; input = i; now = s; sent = r.sent; runs = r.runs; ends = (r.has_read, r.has_written, is) }

module _ {A : Type 0} (may_answer : A → QueryValue → List ℕ → Type 0) (may_lack : A → QueryValue → Type 0) (may_notice : A → NoticeValue → A → List ℕ → Type 0) where
  -- the turn of the frame with which the input begins
  pub turn_of : (f : Frame) (rest input : List ℕ) (s t : Moment A) (x y : Turn) → f ≡ frame_of input → rest ≡ input → x ≡ y
      → IsFrameTurn may_answer may_lack may_notice f rest s (sent_of x) (exit_of x) t → IsFrameTurn may_answer may_lack may_notice (frame_of input) input s (sent_of y) (exit_of y) t
  turn_of f rest input s t x y is same so turn =
      subst (λ (z : Turn). IsFrameTurn may_answer may_lack may_notice (frame_of input) input s (sent_of z) (exit_of z) t) so
      (subst (λ (z : Frame). IsFrameTurn may_answer may_lack may_notice z input s (sent_of x) (exit_of x) t) is (subst (λ (l : List ℕ). IsFrameTurn may_answer may_lack may_notice f l s (sent_of x) (exit_of x) t) same turn))

  -- what it sends is written
  pub sends : {W : Type 0} (contents : W → Option (List ℕ)) (writer then : WatchedValue W) (i j : InputValue) (s t : Moment A) (f : Frame) (new bytes : List ℕ) (result : Result (Unit {0}) Ending)
      → f ≡ frame_of i.rest → bytes ≡ new → IsFrameTurn may_answer may_lack may_notice (frame_of i.rest) i.rest s new None t → HasSent contents writer then i j f bytes result
      → HasTaken may_answer may_lack may_notice contents writer then i j s t result
  sends contents writer then i j s t f new bytes (Ok u) is same turn h =
      (new, turn, subst (λ (l : List ℕ). Appends (contents writer.inner) (contents then.inner) l) same h.0, h.1 ∙ ap (after_frame i) is)
  sends contents writer then i j s t f new bytes (Err e) is same turn h =
      subst (λ (x : Ending). EndsTurn may_answer may_lack may_notice contents writer then i s x) (sym h.0) (h.1, (t, new, turn, subst (λ (l : List ℕ). AppendsFront (contents writer.inner) (contents then.inner) l) same h.2))

-- what follows from the value of a result
pub if_ok : {T E : Type 0} {P Q : T → Type 0} (r : Result T E) → ((x : T) → P x → Q x) → IfOk r P → IfOk r Q
if_ok (Ok x) f p = f x p
if_ok (Err e) f p = tt

-- what holds of the value that a call returned, if `map_err` returned it
pub mapped_ok : {T E D : Type 0} (r : Result T E) (s : Result T D) (P : T → Type 0) (Q : E → D → Type 0) (x : T) → IfOk r P → MatchResult r (λ y. s ≡ Ok y) (λ e. IsErrAnd s (Q e)) → s ≡ Ok x → P x
mapped_ok (Ok y) s P Q x p same is = subst P (let e : Ok y ≡ Ok x = sym same ∙ is in cc) p
mapped_ok (Err e) s P Q x p never is = absurd (subst (λ z. IsErrAnd z (Q e)) is never)
