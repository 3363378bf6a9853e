-- The first line of a script, and its end.
use Rattle.std.proofs.Common.{◌≡◌, ◌≢◌, ℕ, ◌+◌, ◌<◌, ◌≤◌, List, [], ◌∷◌, ◌++◌, length, take, drop, get_or, add-one, arith, sym, ap, ◌∙◌, subst}
use Rattle.std.proofs.Math.Seq.{drop-cons}
use Rattle.std.proofs.lemmas.List.{take-append-drop, take_all, drop_all}
use Rattle.std.specs.List.{AllByRecursion}
use Rattle.mvs_model.specs.Lines.{lines_of}
use Rattle.mvs_job.proofs.Feeding.{all_before, lines_ended, lines_last}

pub line_before : (bytes : List ℕ) (end : ℕ) → end < length bytes → get_or bytes end 0 ≡ 10 → ((k : ℕ) → k < end → get_or bytes k 0 ≢ 10) → lines_of bytes ≡ take end bytes ∷ lines_of (drop (end + 1) bytes)
line_before bytes end h at none =
    let whole : take end bytes ++ (get_or bytes end 0 ∷ drop (end + 1) bytes) ≡ bytes = rw (add-one, ← drop-cons bytes end 0 h) (take-append-drop end bytes) in
    let cut : bytes ≡ take end bytes ++ 10 ∷ drop (end + 1) bytes = sym whole ∙ ap (λ b. take end bytes ++ b ∷ drop (end + 1) bytes) at in
    ap lines_of cut ∙ lines_ended (take end bytes) (drop (end + 1) bytes) (all_before bytes end none (omega arith))

only_line : (bytes : List ℕ) → 0 < length bytes → AllByRecursion (λ b. b ≢ 10) bytes → lines_of bytes ≡ bytes ∷ []
only_line [] some none = absurd (omega arith)
only_line (b ∷ bytes) some none = lines_last b bytes none

pub line_whole : (bytes : List ℕ) → 0 < length bytes → ((k : ℕ) → k < length bytes → get_or bytes k 0 ≢ 10) → lines_of bytes ≡ take (length bytes) bytes ∷ lines_of (drop (length bytes + 1) bytes)
line_whole bytes some none =
    let all : AllByRecursion (λ b. b ≢ 10) (take (length bytes) bytes) = all_before bytes (length bytes) none (omega arith) in
    let same : take (length bytes) bytes ≡ bytes = take_all (length bytes) bytes (omega arith) in
    let gone : drop (length bytes + 1) bytes ≡ [] = drop_all (length bytes + 1) bytes (omega arith) in
    only_line bytes some (subst (AllByRecursion (λ b. b ≢ 10)) same all) ∙ ap (λ x. x ∷ []) (sym same) ∙ ap (λ x. take (length bytes) bytes ∷ lines_of x) (sym gone)

-- after the last line
pub none_left : (script : List ℕ) (at : ℕ) → length script ≤ at → lines_of (drop at script) ≡ []
none_left script at h = ap lines_of (drop_all at script h)
