-- Documents that stay open, and one more.
use Rattle.std.proofs.Common.{◌≡◌, ◌≤◌, ◌<◌, ◌+◌, ℕ, zero, suc, Bool, not, List, [], ◌∷◌, ◌++◌, length, length-append, Result, Ok, Err, ap, arith, refl, subst, sym, ◌∙◌}
use Rattle.std.specs.Prelude.{IsErrAnd, MatchResult}
use Rattle.std.specs.List.{All, filter}
use Rattle.std.proofs.lemmas.List.Elements.{All-append, All-filter}
use Rattle.std.proofs.lemmas.List.Filters.{length-filter_both, sum_by-filter_both}
use Rattle.std.proofs.lemmas.List.Sums.{sum_by-append}
use Rattle.language_server.specs.Documents.{DocumentValue, IsAnalysed}
use Rattle.mvsjob_lsp.specs.Sessions.{IsSession, OpenValue, bytes_open}

pub kept : (p : OpenValue → Bool) (xs ys : List OpenValue) → ys ≡ filter p xs → IsSession xs → IsSession ys
kept p xs ys e s =
    let a : length (filter p xs) + length (filter (λ x. not (p x)) xs) ≡ length xs = length-filter_both p (λ x. not (p x)) (λ x. refl) xs in
    let b : bytes_open (filter p xs) + bytes_open (filter (λ x. not (p x)) xs) ≡ bytes_open xs = sum_by-filter_both p (λ x. not (p x)) (λ x. refl) (λ o. length o.document.text) xs in
    let m : length xs ≤ 100 = s.count in
    let n : bytes_open xs ≤ 8388608 = s.bytes in
    let count : length (filter p xs) ≤ 100 = omega (arith, a, m) in
    let bytes : bytes_open (filter p xs) ≤ 8388608 = omega (arith, b, n) in
    let is : IsSession (filter p xs) = record { analysed = All-filter p (λ o. IsAnalysed o.document.text o.document) xs s.analysed; count = count; bytes = bytes } in
    subst IsSession (sym e) is

only : (P : OpenValue → Type 0) (x : OpenValue) → P x → All P (x ∷ [])
only P x p zero d within = p
only P x p (suc k) d within = absurd (omega (arith, within))

pub one_more : (xs : List OpenValue) (x : OpenValue) (text : List ℕ) → IsSession xs → IsAnalysed text x.document → length xs < 100 → length text + bytes_open xs ≤ 8388608 → IsSession (xs ++ x ∷ [])
one_more xs x text s a n m =
    let same : x.document.text ≡ text = a.is_text in
    let size : length x.document.text ≡ length text = ap length same in
    let b : bytes_open (xs ++ x ∷ []) ≡ bytes_open xs + (0 + length x.document.text) = sum_by-append (λ o. length o.document.text) xs (x ∷ []) in
    let is : IsAnalysed x.document.text x.document = subst (λ t. IsAnalysed t x.document) (sym same) a in
    let count : length (xs ++ x ∷ []) ≤ 100 = simp length-append (omega (arith, n)) in
    let bytes : bytes_open (xs ++ x ∷ []) ≤ 8388608 = omega (arith, b, size, m) in
    record { analysed = All-append (λ o. IsAnalysed o.document.text o.document) xs (x ∷ []) s.analysed (only (λ o. IsAnalysed o.document.text o.document) x is); count = count; bytes = bytes }

abbrev pub opened : List ℕ → DocumentValue → OpenValue
opened uri d = record { uri = uri; document = d }

-- what a call returned, by what `map_err` made of that
pub mapped_ok : {T E D : Type 0} (r : Result T E) (s : Result T D) (Q : E → D → Type 0) (x : T) → MatchResult r (λ y. s ≡ Ok y) (λ e. IsErrAnd s (Q e)) → s ≡ Ok x → r ≡ Ok x
mapped_ok (Ok y) s Q x same is = ap (λ z. Ok z) (let e : Ok y ≡ Ok x = sym same ∙ is in cc)
mapped_ok (Err e) s Q x never is = absurd (subst (λ z. IsErrAnd z (Q e)) is never)
