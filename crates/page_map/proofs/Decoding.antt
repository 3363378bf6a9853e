-- Numbers of subpools, and the subpools of pages.
use Rattle.std.proofs.Common.{◌≡◌, ℕ, zero, suc, ◌+◌, ◌<◌, ◌≤◌, Bool, true, false, cond, List, ◌∷◌, length, get_or, map, set, replicate, Option, Some, None, is_some, ltb, refl, sym, ap, ◌∙◌, arith}
use Rattle.std.proofs.lemmas.Bool.{cases_lt, cases_eq}
use Rattle.std.proofs.lemmas.Bool.Decides.{nat_tests}
use Rattle.std.proofs.lemmas.Grind.{get_or_default_zero, common_steps}
use Rattle.std.proofs.lemmas.List.{map-set, length-map}
use Rattle.std.proofs.Math.ListN.{get_or-map}
use Rattle.mvs_model.specs.Finite.{has}
use Rattle.page_map.specs.Codes.{decoded, page_owners}
use Rattle.page_map.specs.Owners.{owner_of}

pub decoded_some : (n : ℕ) → n < 4098 → decoded n ≡ Some n
decoded_some n low = ap (λ b. cond b (Some n) None) (let t : ltb n 4098 ≡ true = grind (arith, nat_tests) in t)

pub decoded_none : (n : ℕ) → n ≡ 65535 → decoded n ≡ None
decoded_none n e = ap (λ b. cond b (Some n) None) (let t : ltb n 4098 ≡ false = grind (arith, nat_tests) in t)

-- the owner of a page by its number
pub owner_is : (codes : List ℕ) (p : ℕ) → owner_of (page_owners codes) p ≡ decoded (get_or codes p 65535)
owner_is codes p = ap (get_or (map decoded codes) p) (sym (decoded_none 65535 refl)) ∙ get_or-map decoded codes p 65535

pub length_is : (codes : List ℕ) → length (page_owners codes) ≡ length codes
length_is codes = length-map codes decoded

-- a page more that a test refuses
pub refused_more : (test : Option ℕ → Bool) (codes : List ℕ) (from page : ℕ) → ((p : ℕ) → from ≤ p → p < page → test (owner_of (page_owners codes) p) ≡ false) → page < length codes → test (decoded (get_or codes page 0)) ≡ false
    → (p : ℕ) → from ≤ p → p < page + 1 → test (owner_of (page_owners codes) p) ≡ false
refused_more test codes from page before within here p low high = grind (arith, nat_tests, owner_is, cases_eq, get_or_default_zero)

-- a write of one page's number
pub owner_set : (codes : List ℕ) (pages : List (Option ℕ)) (p n : ℕ) (o : Option ℕ) → page_owners codes ≡ pages → decoded n ≡ o → page_owners (set codes p n) ≡ set pages p o
owner_set codes pages p n o is e = map-set decoded codes p n ∙ ap (set (page_owners codes) p) e ∙ ap (λ xs. set xs p o) is

pub all_free : (n : ℕ) → page_owners (replicate n 65535) ≡ replicate n None
all_free zero = refl
all_free (suc n) = ap (λ o. o ∷ page_owners (replicate n 65535)) (decoded_none 65535 refl) ∙ ap (λ xs. None ∷ xs) (all_free n)

-- free pages have no subpool that passes
no_owner : (test : ℕ → Bool) (o : Option ℕ) → is_some o ≡ false → has test o ≡ false
no_owner test o h1 = grind (arith, common_steps)

pub refused_free : (test : ℕ → Bool) (codes : List ℕ) (from page to : ℕ) → ((p : ℕ) → from ≤ p → p < page → has test (owner_of (page_owners codes) p) ≡ false) → ((p : ℕ) → page ≤ p → p < to → is_some (owner_of (page_owners codes) p) ≡ false)
    → (p : ℕ) → from ≤ p → p < to → has test (owner_of (page_owners codes) p) ≡ false
refused_free test codes from page to before free p low high = grind (arith, nat_tests, no_owner, cases_lt)
