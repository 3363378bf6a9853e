-- The pages of each region that hold nothing, as pages of the storage of both.
use Rattle.std.proofs.Common.{◌≡◌, ◌+◌, ◌*◌, ◌/◌, ◌≤◌, ℕ, refl, subst, arith}
use Rattle.subpool_store.specs.FreePages.{free_pages}
use Rattle.subpool_store.specs.Joined.{IsStore, store_of}
use Rattle.subpool_store.specs.Region.{AreFree, OwnsPage, RegionState}
use Rattle.subpool_store.proofs.Both.{storage_of}
use Rattle.subpool_store.proofs.Choice.{owner_above, owner_below}
use Rattle.subpool_store.proofs.FreePages.{are_free}

module _ (b a : RegionState) (fill : ℕ) (both : IsStore b a) where
  pub free_below_is : (free : ℕ) → AreFree b free → free ≡ free_pages (store_of b a fill) 6 b.pages
  free_below_is free counted =
      let first : b.first ≡ 3072 = both.first_below in
      let few : b.pages ≤ 2048 = both.few_below in
      are_free (store_of b a fill) 6 b.pages counted.0 free (storage_of b a fill both)
      (λ p low.
      let at : b.first / 512 + p ≡ 4096 * (6 + p) / 4096 = omega arith in
      owner_below b a fill (store_of b a fill) both refl (4096 * (6 + p)) (counted.0 p) (omega arith) (subst (λ k. OwnsPage b k (counted.0 p)) at (counted.1 p low)))
      counted.2

  pub free_above_is : (free : ℕ) → AreFree a free → free ≡ free_pages (store_of b a fill) 4096 a.pages
  free_above_is free counted =
      let first : a.first ≡ 2097152 = both.first_above in
      let few : a.pages ≤ 8192 = both.few_above in
      are_free (store_of b a fill) 4096 a.pages counted.0 free (storage_of b a fill both)
      (λ p low.
      let at : a.first / 512 + p ≡ 4096 * (4096 + p) / 4096 = omega arith in
      owner_above b a fill (store_of b a fill) both refl (4096 * (4096 + p)) (counted.0 p) (omega arith) (omega arith) (subst (λ k. OwnsPage a k (counted.0 p)) at (counted.1 p low)))
      counted.2
