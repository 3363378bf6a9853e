-- Texts that are appended one after another.
use Rattle.std.proofs.Common.{◌≡◌, ◌∙◌, ℕ, List, ◌++◌, Result, ap, append_assoc}
use Rattle.std.specs.Prelude.{OnOk}
use Rattle.std.proofs.lemmas.Result.{on_ok_weaker}

pub four : {T E : Type 0} (result : Result T E) (r0 r1 r2 r3 r4 a b c d : List ℕ) → r1 ≡ r0 ++ a → r2 ≡ r1 ++ b → r3 ≡ r2 ++ c → OnOk result (r4 ≡ r3 ++ d) → OnOk result (r4 ≡ r0 ++ (((a ++ b) ++ c) ++ d))
four result r0 r1 r2 r3 r4 a b c d one two three last =
    on_ok_weaker result
    (λ (is : r4 ≡ r3 ++ d). is ∙ ap (λ x. x ++ d) (three ∙ ap (λ x. x ++ c) (two ∙ ap (λ x. x ++ b) one ∙ append_assoc r0 a b) ∙ append_assoc r0 (a ++ b) c) ∙ append_assoc r0 ((a ++ b) ++ c) d) last
