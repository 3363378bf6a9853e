-- The name that was set last of those that have an address in their places, found by a look at the names from the latest one on.
use Rattle.std.proofs.Common.{◌≡◌, ℕ, ◌<◌, ◌≤◌, ◌+◌, Bool, true, false, List, length, cond, Option, Some, None, inl, inr, refl, sym, ap, subst, ◌∙◌, arith}
use Rattle.std.specs.Prelude.{is_some, nat_eq}
use Rattle.std.specs.List.{Contains, slice_index_or}
use Rattle.std.specs.Option.{option_and_then}
use Rattle.std.specs.FinMap as map
use Rattle.std.proofs.lemmas.List.{get_or_default}
use Rattle.std.proofs.lemmas.Bool.{eqb-true, eq-eqb}
use Rattle.std.proofs.lemmas.Bool.Decides.{leb_tells}
use Rattle.mvs_model.specs.declared.name.Name.{Name}
use Rattle.mvs_model.specs.Job.{JobValue}
use Rattle.mvs_model.specs.Place.{PlaceValue}
use Rattle.mvs_model.specs.Storage.{has_address}
use Rattle.mvs_job.specs.declared.name_origins.NamedAddress.{NamedAddress}
use Rattle.mvs_job.specs.NamedAddress.{IsNaming, NameOrigins, naming_at}
use Rattle.mvs_job.specs.NameOrder.{HasLatest, IsInOrder, is_at, said_by}

module _ (job : JobValue) (set : NameOrigins) (a : ℕ) where
  -- what a name says that has the address in its place
  says_at : (name : Name) (p : PlaceValue) (number : ℕ) → map.get job.names name ≡ Some p → has_address p a ≡ true → naming_at job a (name, number) ≡ Some (record { addr = a; name = name; place = p; number = number })
  says_at name p number is has = rw (is, has) refl

  abbrev Has : NamedAddress → Name × ℕ → Type 0
  Has n e = (n.addr ≡ a) × (n.name ≡ e.0) × (n.number ≡ e.1) × (map.get job.names e.0 ≡ Some n.place) × (has_address n.place a ≡ true)

  says : (e : Name × ℕ) (n : NamedAddress) → naming_at job a e ≡ Some n → Has n e
  says e n h = at (map.get job.names e.0) refl h where
    here : (p : PlaceValue) → map.get job.names e.0 ≡ Some p → (b : Bool) → has_address p a ≡ b → cond b (Some (record { addr = a; name = e.0; place = p; number = e.1 })) None ≡ Some n → Has n e
    here p is false no_address k = absurd (let f : None ≡ Some n = k in cc)
    here p is true has k =
        let same : record { addr = a; name = e.0; place = p; number = e.1 } ≡ n = cc in
        subst (λ n. Has n e) same (refl, refl, refl, is, has)

    at : (o : Option PlaceValue) → map.get job.names e.0 ≡ o → option_and_then (λ p. cond (has_address p a) (Some (record { addr = a; name = e.0; place = p; number = e.1 })) None) o ≡ Some n → Has n e
    at None is k = absurd (let f : None ≡ Some n = k in cc)
    at (Some p) is k = here p is (has_address p a) refl k

  -- the same of the line that set a name last
  said : (e : Name × ℕ) (n : NamedAddress) → said_by job set a e ≡ Some n → Has n e × (map.get set e.0 ≡ Some e.1)
  said e n h = at (map.get set e.0) refl h where
    here : (latest : ℕ) → map.get set e.0 ≡ Some latest → (b : Bool) → nat_eq latest e.1 ≡ b → cond b (naming_at job a e) None ≡ Some n → Has n e × (map.get set e.0 ≡ Some e.1)
    here latest is false other k = absurd (let f : None ≡ Some n = k in cc)
    here latest is true same k = (says e n k, is ∙ ap (λ m. Some m) (eqb-true latest e.1 same))

    at : (o : Option ℕ) → map.get set e.0 ≡ o → cond (is_at e.1 o) (naming_at job a e) None ≡ Some n → Has n e × (map.get set e.0 ≡ Some e.1)
    at None is k = absurd (let f : None ≡ Some n = k in cc)
    at (Some latest) is k = here latest is (nat_eq latest e.1) refl k

  said_at : (name : Name) (p : PlaceValue) (number : ℕ) → map.get job.names name ≡ Some p → map.get set name ≡ Some number → has_address p a ≡ true → said_by job set a (name, number) ≡ Some (record { addr = a; name = name; place = p; number = number })
  said_at name p number is by has = rw (by, eq-eqb number) (says_at name p number is has)

  -- From this place on no name says anything of the address.
  abbrev pub Passed : List (Name × ℕ) → ℕ → Type 0
  Passed order at = (at ≤ length order) × ((k : ℕ) (d : Name × ℕ) → at ≤ k → k < length order → said_by job set a (slice_index_or order k d) ≡ None)

  module _ (order : List (Name × ℕ)) (latest : HasLatest set order) where
    -- a name that has the address stands before what is passed
    before : (at : ℕ) → Passed order at → (name : Name) (p : PlaceValue) (number : ℕ) → map.get job.names name ≡ Some p → map.get set name ≡ Some number → has_address p a ≡ true
        → (k : ℕ) × (k < at) × (k < length order) × (slice_index_or order k (name, number) ≡ (name, number))
    before at passed name p number is by has =
        let e : Name × ℕ = (name, number) in
        let here = latest name number by in
        let says : said_by job set a (slice_index_or order here.0 e) ≡ Some (record { addr = a; name = name; place = p; number = number }) = ap (said_by job set a) here.2 ∙ said_at name p number is by has in
        elim (leb_tells at here.0) [
          | inl above ↦ absurd (let f : None ≡ Some (record { addr = a; name = name; place = p; number = number }) = sym (passed.1 here.0 e above.1 here.1) ∙ says in cc)
          | inr below ↦ (here.0, below.1, here.1, here.2)
        ]

    pub none_has : Passed order 0 → IsNaming job set a None
    none_has passed name p number is has = let k = before 0 passed name p number is.0 is.1 has in omega (arith, k.1)

    latest_has : IsInOrder order → (at next : ℕ) (e : Name × ℕ) (n : NamedAddress) → next ≡ at + 1 → at < length order → slice_index_or order at e ≡ e → said_by job set a e ≡ Some n → Passed order next → IsNaming job set a (Some n)
    latest_has rises at next e n next_is within is says passed =
        let h = said e n says in
        let named : map.get job.names n.name ≡ Some n.place = ap (map.get job.names) h.0.1 ∙ h.0.3 in
        let by : map.get set n.name ≡ Some n.number = ap (map.get set) h.0.1 ∙ h.1 ∙ ap (λ m. Some m) (sym h.0.2) in
        (h.0.0, (named, by), h.0.4, λ name p number is_set has. no_later (before next passed name p number is_set.0 is_set.1 has)) where
          no_later : {name : Name} {number : ℕ} → (k : ℕ) × (k < next) × (k < length order) × (slice_index_or order k (name, number) ≡ (name, number)) → number ≤ n.number
          no_later {name} {number} (k, below, within_k, is_k) =
              let h = said e n says in
              let up : (slice_index_or order k (name, number)).1 ≤ (slice_index_or order at (name, number)).1 = rises k at (name, number) (omega (arith, below, next_is)) within in
              let one : (slice_index_or order k (name, number)).1 ≡ number = ap (λ e. e.1) is_k in
              let other : (slice_index_or order at (name, number)).1 ≡ n.number = ap (λ e. e.1) (get_or_default order at (name, number) e within ∙ is) ∙ sym h.0.2 in
              omega (arith, up, one, other)

    -- the latest name that says something of the address
    pub latest_is : IsInOrder order → (at next : ℕ) (e : Name × ℕ) (r : Option NamedAddress) → next ≡ at + 1 → at < length order → slice_index_or order at e ≡ e → r ≡ said_by job set a e → is_some r ≡ true → Passed order next → IsNaming job set a r
    latest_is rises at next e None next_is within is says some passed = absurd (let f : false ≡ true = some in cc)
    latest_is rises at next e (Some n) next_is within is says some passed = latest_has rises at next e n next_is within is (sym says) passed
