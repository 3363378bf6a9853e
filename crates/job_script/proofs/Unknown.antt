-- Operations that the table does not have.
use Rattle.std.proofs.Common.{◌≡◌, List, ℕ, [], ◌∷◌, refl, sym, ap, ◌∙◌, false, true, Bool}
use Rattle.std.specs.Prelude.{bytes_eq, filter, if◌then◌else◌}
use Rattle.std.specs.List.{AllByRecursion}
use Rattle.mvs_model.specs.Grammar.{table}
use Rattle.mvs_model.specs.Reading.{rows_of}
use Rattle.mvs_model.proofs.ReadingTaken.{bytes_same}
use Rattle.job_script.specs.declared.operations.Operation.{Operation}
use Rattle.job_script.specs.declared.operations.Operation.TheVariants as operation
use Rattle.job_script.specs.Operations.{operation_text}

-- where no element passes, none is kept
none_kept : {X : Type 0} (p : X → Bool) (xs : List X) → AllByRecursion (λ x. p x ≡ false) xs → filter p xs ≡ []
none_kept p [] all = refl
none_kept p (x ∷ xs) all = ap (λ b. if b then (x ∷ filter p xs) else filter p xs) all.0 ∙ none_kept p xs all.1

-- a word that passes is the text of the operation
pub named : (word : List ℕ) (o : Operation) → bytes_eq (operation_text o) word ≡ true → word ≡ operation_text o
named word o t = sym (bytes_same (operation_text o) word t)

-- a word that is none of the operations has no row
no_rows : (word : List ℕ) → ((o : Operation) → bytes_eq (operation_text o) word ≡ false) → rows_of word ≡ []
no_rows word none =
    none_kept (λ row. bytes_eq row.operation word) table
    (none operation.Region, (none operation.Getmain, (none operation.Getmain, (none operation.Getmain, (none operation.Getmain, (none operation.Getmain, (none operation.Storage, (none operation.Freemain, (none operation.Freemain, (none operation.Freemain, (none operation.Freemain, (none operation.Storage, (none operation.Cpool, (none operation.Cpool, (none operation.Cpool, (none operation.Cpool, (none operation.Attach, (none operation.Return, (none operation.Abend, (none operation.Put, (none operation.Show, (none operation.Move, (none operation.Where, (none operation.Report, tt))))))))))))))))))))))))

-- a word that is not the text of the one operation that it may be has no row
pub unnamed : (word : List ℕ) (likely : Operation) → ((o : Operation) → word ≡ operation_text o → likely ≡ o) → bytes_eq (operation_text likely) word ≡ false → rows_of word ≡ []
unnamed word likely only other =
    no_rows word (λ o. (elim (bytes_eq (operation_text o) word) as (λ b. bytes_eq (operation_text o) word ≡ b → b ≡ false) [
      | true ↦ λ t. absurd (let f : true ≡ false = sym t ∙ ap (λ o. bytes_eq (operation_text o) word) (sym (only o (named word o t))) ∙ other in cc)
      | false ↦ λ _. refl
    ]) refl)
