-- What is written of a script that is read as it comes.
use Rattle.std.proofs.Common.{◌≡◌, ◌⊎◌, ◌≤◌, ◌<◌, ◌++◌, ◌∙◌, ℕ, List, length, take, Option, Some, None, Result, Ok, Err, IfOk, IfErr, ap, subst}
use Rattle.std.specs.Io.KnownBytes.{Consumes}
use Rattle.mvs_model.specs.declared.outcome.Outcome.{Outcome}
use Rattle.mvs_model.specs.Memory.{IsPrintingBefore}
use Rattle.mvs_model.specs.Runs.{IsAnswered, IsPrinting, IsPrintingFront}
use Rattle.mvs_job.specs.declared.run.RunFault.{RunFault}
use Rattle.mvs_job.specs.declared.run.RunFault.TheVariants.{Memory, Read, ReadTooLong}
use Rattle.mvs_job.specs.Exchanging.{Exchanges, IsRest}
use Rattle.page.specs.Pages.{IsPage, StopsPage}
use Rattle.mvsjob.specs.Streaming.{Writes, WritesPageOf, WritesPart}

pub writes_of : (left more before after : Option (List ℕ)) (P : List ℕ → List ℕ → List ℕ → Type 0) (Q : List ℕ → List ℕ → Type 0) → ((read script written : List ℕ) → P read script written → Q script written)
    → Exchanges left more before after P → Writes left before after Q
writes_of left more before after P Q f (read, rest, written, consumed, is, appended, p) = (read ++ rest, written, whole left more consumed is, appended, f read (read ++ rest) written p) where
  whole : (left more : Option (List ℕ)) → Consumes left more read → IsRest more rest → IsRest left (read ++ rest)
  whole None more consumed is = tt
  whole (Some xs) None consumed is = absurd consumed
  whole (Some xs) (Some ys) consumed is = consumed ∙ ap (λ t. read ++ t) is

module _ (left unread more before after : Option (List ℕ)) (same : left ≡ unread) where
  pub written_by : (P : Outcome → List ℕ → List ℕ → Type 0) (r : Result Outcome RunFault) → IfOk r (λ outcome. Exchanges left more before after (λ read script written. (length read ≤ 16777215) × P outcome script written)) → IfOk r (λ outcome. Writes unread before after (P outcome))
  written_by P (Ok outcome) h = subst (λ l. Writes l before after (P outcome)) same (writes_of left more before after (λ read script written. (length read ≤ 16777215) × P outcome script written) (P outcome) (λ read script written h. h.1) h)
  written_by P (Err fault) h = tt

  -- the same of what holds of the whole script
  pub written_whole : (P : Outcome → List ℕ → List ℕ → Type 0) (r : Result Outcome RunFault) → IfOk r (λ outcome. Exchanges left more before after (λ read script written. P outcome script written)) → IfOk r (λ outcome. Writes unread before after (P outcome))
  written_whole P (Ok outcome) h = subst (λ l. Writes l before after (P outcome)) same (writes_of left more before after (λ read script written. P outcome script written) (P outcome) (λ read script written h. h) h)
  written_whole P (Err fault) h = tt

  pub written_ok : (r : Result Outcome RunFault) → IfOk r (λ outcome. Exchanges left more before after (λ read script written. (length read ≤ 16777215) × IsPrinting script written outcome))
      → IfOk r (λ outcome. Writes unread before after (λ script written. IsPrinting script written outcome))
  written_ok r h = written_by (λ outcome script written. IsPrinting script written outcome) r h

  part : (P : List ℕ → List ℕ → List ℕ → Type 0) → Exchanges left more before after P → WritesPart unread before after P
  part P h = (more, subst (λ l. Exchanges l more before after P) same h)

  pub written_part : (P : RunFault → List ℕ → List ℕ → List ℕ → Type 0) (r : Result Outcome RunFault) → IfErr r (λ fault. Exchanges left more before after (P fault)) → IfErr r (λ fault. WritesPart unread before after (P fault))
  written_part P (Ok outcome) h = tt
  written_part P (Err fault) h = part (P fault) h

  abbrev IsCut : RunFault → List ℕ → List ℕ → List ℕ → Type 0
  IsCut fault consumed script written = (length consumed ≤ 16777216) × IsPrintingFront script written × (fault ≡ ReadTooLong → 16777215 < length consumed)

  pub written_front : (r : Result Outcome RunFault) → IfErr r (λ fault. Exchanges left more before after (IsCut fault)) → IfErr r (λ fault. WritesPart unread before after (IsCut fault))
  written_front r h = written_part IsCut r h

  abbrev IsAnsweredIn : List ℕ → List ℕ → List ℕ → Type 0
  IsAnsweredIn consumed script written = IsAnswered (take 16777215 consumed) written

  pub written_answers : (r : Result Outcome RunFault) → IfErr r (λ fault. (fault ≡ Read) ⊎ (fault ≡ ReadTooLong) → Exchanges left more before after IsAnsweredIn) → IfErr r (λ fault. (fault ≡ Read) ⊎ (fault ≡ ReadTooLong) → WritesPart unread before after IsAnsweredIn)
  written_answers (Ok outcome) h = tt
  written_answers (Err fault) h = λ e. part IsAnsweredIn (h e)

  pub written_before : (r : Result Outcome RunFault) → IfErr r (λ fault. fault ≡ Memory → Exchanges left more before after (λ read script written. IsPrintingBefore script written))
      → IfErr r (λ fault. fault ≡ Memory → Writes unread before after (λ script written. IsPrintingBefore script written))
  written_before (Ok outcome) h = tt
  written_before (Err fault) h = λ e. subst (λ l. Writes l before after (λ script written. IsPrintingBefore script written)) same (writes_of left more before after (λ read script written. IsPrintingBefore script written) (λ script written. IsPrintingBefore script written) (λ read script written p. p) (h e))

-- the page of a run, or the beginning of one
pub page_of : (unread before after : Option (List ℕ)) (frame : List ℕ) (ended : Result Outcome RunFault) → IfOk ended (λ outcome. Writes unread before after (λ script text. IsPage frame script text (Ok outcome)))
    → IfErr ended (λ fault. WritesPart unread before after (λ consumed script text. StopsPage frame consumed script text fault)) → WritesPageOf unread before after frame ended
page_of unread before after frame (Ok outcome) p q = p
page_of unread before after frame (Err fault) p q = q
