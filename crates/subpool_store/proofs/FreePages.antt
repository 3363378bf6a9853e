-- Pages that hold nothing.
use Rattle.std.proofs.Common.{◌≡◌, ℕ, zero, suc, ◌+◌, ◌*◌, ◌/◌, ◌<◌, ◌≤◌, Bool, cond, Option, Some, None, not, is_some, refl, sym, ap, ◌∙◌, arith}
use Rattle.mvs_model.specs.Finite.{count_below}
use Rattle.mvs_model.specs.Reports.{first_from}
use Rattle.mvs_model.specs.Storage.{IsPageOwner, IsStorage, Storage, holder}
use Rattle.mvs_model.proofs.SeenReports.{first_none, first_only}
use Rattle.subpool_store.specs.FreePages.{free_pages}

-- a page's owner is the subpool of its held doublewords
pub page_owned : (st : Storage) (a page : ℕ) (owner : Option ℕ) → IsStorage st → a / 4096 ≡ page → IsPageOwner st a owner → owner ≡ first_from (512 * page) 512 (holder st)
page_owned st a page None is at h = sym (first_none (512 * page) 512 (holder st) (λ d low high. h d (omega arith)))
page_owned st a page (Some s) is at (d, same, held) =
    sym (first_only (512 * page) 512 d (holder st) s (omega arith) (omega arith) held (λ e y low high f. is.pages e d y s (omega arith) f held))

same_count : (n : ℕ) (test other : ℕ → Bool) → ((p : ℕ) → p < n → test p ≡ other p) → count_below n test ≡ count_below n other
unfolding count_below
same_count zero test other same = refl
same_count (suc n) test other same = ap (λ b. cond b 1 0 + count_below n test) (same n (omega arith)) ∙ ap (λ k. cond (other n) 1 0 + k) (same_count n test other (λ p low. same p (omega arith)))

-- the pages that have no owner hold nothing
pub are_free : (st : Storage) (first count : ℕ) (owner : ℕ → Option ℕ) (free : ℕ) → IsStorage st → ((p : ℕ) → p < count → IsPageOwner st (4096 * (first + p)) (owner p)) → free ≡ count_below count (λ p. not (is_some (owner p))) → free ≡ free_pages st first count
are_free st first count owner free is each e =
    e ∙ same_count count (λ p. not (is_some (owner p))) (λ p. not (is_some (first_from (512 * (first + p)) 512 (holder st)))) (λ p low. ap (λ o. not (is_some o)) (page_owned st (4096 * (first + p)) (first + p) (owner p) is (omega arith) (each p low)))
