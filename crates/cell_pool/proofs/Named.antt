-- What is kept under a name.
use Rattle.std.proofs.Common.{◌≡◌, ◌≢◌, ℕ, zero, suc, ◌+◌, inl, inr, Bool, true, false, cond, List, [], ◌∷◌, Option, Some, None, refl, sym, ap, ◌∙◌, subst, arith}
use Rattle.std.specs.Prelude.{MatchOption, is_some, count_by, not}
use Rattle.std.proofs.lemmas.Bool.{cases_eq}
use Rattle.std.proofs.lemmas.List.Sums.{sum_by-cons}
use Rattle.std.specs.FinMap.{FinMap, get, get-empty, get-insert, len, len-empty, len-insert}
use Rattle.mvs_model.specs.declared.name.Name.{Name}
use Rattle.mvs_model.specs.Finite.{kept}
use Rattle.mvs_model.specs.Name.{name_cmp, same_name}
use Rattle.mvs_model.proofs.Orders.{name_cmp_total, same_name_is, same_name_self, names_differ, differs}
use Rattle.cell_pool.specs.Roots.{Root}
use Rattle.cell_pool.specs.Entries.{item_at, roots_of, IsDistinct}
use Rattle.cell_pool.specs.declared.entry.PoolEntry.{PoolEntry}

pub rest_distinct : (o : Option PoolEntry) (rest : List (Option PoolEntry)) → IsDistinct (o ∷ rest) → IsDistinct rest
rest_distinct o rest h j k x y ex ey e = let f : suc j ≡ suc k = h (suc j) (suc k) x y ex ey e in omega arith

-- what no entry has
pub unnamed : (slots : List (Option PoolEntry)) (name : Name) → ((k : ℕ) (x : PoolEntry) → item_at slots k ≡ Some x → x.name ≢ name) → get (roots_of slots) name ≡ None
unfolding roots_of
unnamed [] name h = get-empty name_cmp name
unnamed (None ∷ rest) name h = unnamed rest name (λ k x e. h (suc k) x e)
unnamed (Some y ∷ rest) name h =
    get-insert name_cmp_total (roots_of rest) y.name y.root name
    ∙ ap (λ b. cond b (Some y.root) (get (roots_of rest) name)) (names_differ name y.name (λ e. h 0 y refl (sym e)))
    ∙ unnamed rest name (λ k x e. h (suc k) x e)

-- what an entry has
pub named : (slots : List (Option PoolEntry)) (k : ℕ) (x : PoolEntry) → IsDistinct slots → item_at slots k ≡ Some x → get (roots_of slots) x.name ≡ Some x.root
unfolding roots_of
named [] k x h e = absurd (let f : ◌≡◌ {A = Option PoolEntry} None (Some x) = e in cc)
named (None ∷ rest) zero x h e = absurd (let f : ◌≡◌ {A = Option PoolEntry} None (Some x) = e in cc)
named (None ∷ rest) (suc k) x h e = named rest k x (rest_distinct None rest h) e
named (Some y ∷ rest) zero x h e =
    let same : y ≡ x = (let f : Some y ≡ Some x = e in cc) in
    subst (λ (z : PoolEntry). get (roots_of (Some y ∷ rest)) z.name ≡ Some z.root) same
    (get-insert name_cmp_total (roots_of rest) y.name y.root y.name ∙ ap (λ b. cond b (Some y.root) (get (roots_of rest) y.name)) (same_name_self y.name))
named (Some y ∷ rest) (suc k) x h e =
    get-insert name_cmp_total (roots_of rest) y.name y.root x.name
    ∙ ap (λ b. cond b (Some y.root) (get (roots_of rest) x.name)) (names_differ x.name y.name (λ f. let z : 0 ≡ suc k = h 0 (suc k) y x refl e (sym f) in absurd (omega arith)))
    ∙ named rest k x (rest_distinct (Some y) rest h) e

-- what a search by name finds is what the map has
pub find_is : (slots : List (Option PoolEntry)) (m : FinMap name_cmp Root) (name : Name) (v : Option Root) → roots_of slots ≡ m → IsDistinct slots
    → MatchOption v ((k : ℕ) (x : PoolEntry) → item_at slots k ≡ Some x → x.name ≢ name) (λ r. (k : ℕ) × (x : PoolEntry) × (item_at slots k ≡ Some x) × (x.name ≡ name) × (x.root ≡ r)) → v ≡ get m name
find_is slots m name None e distinct h = sym (ap (λ t. get t name) (sym e) ∙ unnamed slots name h)
find_is slots m name (Some r) e distinct h = sym (ap (λ t. get t name) (sym e) ∙ ap (get (roots_of slots)) (sym h.3) ∙ named slots h.0 h.1 distinct h.2 ∙ ap Some h.4)

-- what the map has some entry has
pub entry_of : (slots : List (Option PoolEntry)) (name : Name) (r : Root) → get (roots_of slots) name ≡ Some r → (k : ℕ) × (x : PoolEntry) × (item_at slots k ≡ Some x) × (x.name ≡ name) × (x.root ≡ r)
unfolding roots_of
entry_of [] name r e = let f : ◌≡◌ {A = Option Root} None (Some r) = sym (get-empty name_cmp name) ∙ e in absurd (cc)
entry_of (None ∷ rest) name r e = let f = entry_of rest name r e in (suc f.0, f.1, f.2, f.3, f.4)
entry_of (Some y ∷ rest) name r e = by (same_name name y.name) (same_name_is name y.name) (sym (get-insert name_cmp_total (roots_of rest) y.name y.root name) ∙ e) (entry_of rest name r) where
  by : (b : Bool) → (b ≡ true → name ≡ y.name) → cond b (Some y.root) (get (roots_of rest) name) ≡ Some r → (get (roots_of rest) name ≡ Some r → (k : ℕ) × (x : PoolEntry) × (item_at rest k ≡ Some x) × (x.name ≡ name) × (x.root ≡ r))
      → (k : ℕ) × (x : PoolEntry) × (item_at (Some y ∷ rest) k ≡ Some x) × (x.name ≡ name) × (x.root ≡ r)
  by true f g h = (0, y, refl, sym (f refl), (let k : Some y.root ≡ Some r = g in let q : y.root ≡ r = cc in q))
  by false f g h = let t = h g in (suc t.0, t.1, t.2, t.3, t.4)

-- a new entry
module _ (old new : List (Option PoolEntry)) (key : ℕ) (e : PoolEntry) (distinct : IsDistinct old) (vacant : item_at old key ≡ None) (changed : item_at new key ≡ Some e) (others : (k : ℕ) → k ≢ key → item_at new k ≡ item_at old k) (fresh : get (roots_of old) e.name ≡ None) where
  new_name : (k : ℕ) (x : PoolEntry) → item_at old k ≡ Some x → x.name ≡ e.name → ⊥
  new_name k x h f = let g : None ≡ Some x.root = sym fresh ∙ ap (get (roots_of old)) (sym f) ∙ named old k x distinct h in absurd (cc)

  at_key : (x : PoolEntry) (k : ℕ) → k ≡ key → item_at new k ≡ Some x → e ≡ x
  at_key x k s h = let f : Some e ≡ Some x = sym changed ∙ ap (item_at new) (sym s) ∙ h in cc

  pub distinct_more : IsDistinct new
  distinct_more j k x y hx hy same = elim (cases_eq j key) [
    | inl a ↦ elim (cases_eq k key) [
      | inl b ↦ a ∙ sym b
      | inr b ↦ absurd (new_name k y (sym (others k b) ∙ hy) (sym same ∙ ap (λ (z : PoolEntry). z.name) (sym (at_key x j a hx))))
    ]
    | inr a ↦ elim (cases_eq k key) [
      | inl b ↦ absurd (new_name j x (sym (others j a) ∙ hx) (same ∙ ap (λ (z : PoolEntry). z.name) (sym (at_key y k b hy))))
      | inr b ↦ distinct j k x y (sym (others j a) ∙ hx) (sym (others k b) ∙ hy) same
    ]
  ]

  pub named_more : (n : Name) → get (roots_of new) n ≡ cond (same_name n e.name) (Some e.root) (get (roots_of old) n)
  named_more n = by (same_name n e.name) refl where
    elsewhere : n ≢ e.name → (v : Option Root) → get (roots_of old) n ≡ v → get (roots_of new) n ≡ v
    elsewhere ne None f = unnamed new n (λ k x h s. elim (cases_eq k key) [
      | inl a ↦ ne (sym s ∙ ap (λ (z : PoolEntry). z.name) (sym (at_key x k a h)))
      | inr a ↦ let g : None ≡ Some x.root = sym f ∙ ap (get (roots_of old)) (sym s) ∙ named old k x distinct (sym (others k a) ∙ h) in absurd (cc)
    ])
    elsewhere ne (Some r) f =
        let t = entry_of old n r f in
        let other : t.0 ≢ key = (λ a. let g : None ≡ Some t.1 = sym vacant ∙ ap (item_at old) (sym a) ∙ t.2 in absurd (cc)) in
        ap (get (roots_of new)) (sym t.3) ∙ named new t.0 t.1 distinct_more (others t.0 other ∙ t.2) ∙ ap Some t.4

    by : (b : Bool) → same_name n e.name ≡ b → get (roots_of new) n ≡ cond b (Some e.root) (get (roots_of old) n)
    by true s = ap (get (roots_of new)) (same_name_is n e.name s) ∙ named new key e distinct_more changed
    by false s = elsewhere (differs n e.name s) (get (roots_of old) n) refl

-- how many entries there are
pub len_is : (slots : List (Option PoolEntry)) → IsDistinct slots → len (roots_of slots) ≡ count_by is_some slots
unfolding roots_of
len_is [] h = len-empty name_cmp Root
len_is (None ∷ rest) h = len_is rest (rest_distinct None rest h)
len_is (Some y ∷ rest) h =
    len-insert name_cmp_total (roots_of rest) y.name y.root
    ∙ ap (λ o. cond (is_some o) (len (roots_of rest)) (len (roots_of rest) + 1)) (unnamed rest y.name (λ k x e f. let z : 0 ≡ suc k = h 0 (suc k) y x refl e (sym f) in absurd (omega arith)))
    ∙ plus (len (roots_of rest)) (count_by is_some rest) (len_is rest (rest_distinct (Some y) rest h))
    ∙ sym (sum_by-cons (λ x. cond (is_some x) 1 0) (Some y) rest) where
      plus : (a b : ℕ) → a ≡ b → a + 1 ≡ 1 + b
      plus a b e = omega arith

-- an entry is changed, but not its name
module _ (old new : List (Option PoolEntry)) (key : ℕ) (e : PoolEntry) (r : Root) (distinct : IsDistinct old) (was : item_at old key ≡ Some e) (changed : item_at new key ≡ Some (record e { root = r })) (others : (k : ℕ) → k ≢ key → item_at new k ≡ item_at old k) where
  before : (k : ℕ) (x : PoolEntry) → item_at new k ≡ Some x → (y : PoolEntry) × (item_at old k ≡ Some y) × (y.name ≡ x.name)
  before k x h = elim (cases_eq k key) [
    | inl a ↦ let f : Some (record e { root = r }) ≡ Some x = sym changed ∙ ap (item_at new) (sym a) ∙ h in let g : record e { root = r } ≡ x = cc in (e, ap (item_at old) a ∙ was, ap (λ (z : PoolEntry). z.name) g)
    | inr a ↦ (x, sym (others k a) ∙ h, refl)
  ]

  pub distinct_same : IsDistinct new
  distinct_same j k x y hx hy same =
      let f = before j x hx in let g = before k y hy in
      distinct j k f.0 g.0 f.1 g.1 (f.2 ∙ same ∙ sym g.2)

  pub named_same : (n : Name) → get (roots_of new) n ≡ cond (same_name n e.name) (Some r) (get (roots_of old) n)
  named_same n = by (same_name n e.name) refl where
    elsewhere : n ≢ e.name → (v : Option Root) → get (roots_of old) n ≡ v → get (roots_of new) n ≡ v
    elsewhere ne None f = unnamed new n (λ k x h s.
        let b = before k x h in
        let g : None ≡ Some b.0.root = sym f ∙ ap (get (roots_of old)) (sym s ∙ sym b.2) ∙ named old k b.0 distinct b.1 in absurd (cc))
    elsewhere ne (Some q) f =
        let t = entry_of old n q f in
        let other : t.0 ≢ key = (λ a. let g : Some t.1 ≡ Some e = sym t.2 ∙ ap (item_at old) a ∙ was in let h : t.1 ≡ e = cc in ne (sym t.3 ∙ ap (λ (z : PoolEntry). z.name) h)) in
        ap (get (roots_of new)) (sym t.3) ∙ named new t.0 t.1 distinct_same (others t.0 other ∙ t.2) ∙ ap Some t.4

    by : (b : Bool) → same_name n e.name ≡ b → get (roots_of new) n ≡ cond b (Some r) (get (roots_of old) n)
    by true s = ap (get (roots_of new)) (same_name_is n e.name s) ∙ named new key (record e { root = r }) distinct_same changed
    by false s = elsewhere (differs n e.name s) (get (roots_of old) n) refl

-- the entries that fail a test are removed
module _ (old new : List (Option PoolEntry)) (test : Name → Root → Bool) (distinct : IsDistinct old) (each : (k : ℕ) → item_at new k ≡ kept (λ (x : PoolEntry). test x.name x.root) (item_at old k)) where
  was_there : (k : ℕ) (x : PoolEntry) → item_at new k ≡ Some x → (item_at old k ≡ Some x) × (test x.name x.root ≡ true)
  was_there k x e = at (item_at old k) refl (sym (each k) ∙ e) where
    by : (y : PoolEntry) (b : Bool) → test y.name y.root ≡ b → item_at old k ≡ Some y → cond b (Some y) None ≡ Some x → (item_at old k ≡ Some x) × (test x.name x.root ≡ true)
    by y true t f g = (f ∙ g, (let same : y ≡ x = cc in subst (λ (z : PoolEntry). test z.name z.root ≡ true) same t))
    by y false t f g = absurd (let h : ◌≡◌ {A = Option PoolEntry} None (Some x) = g in cc)

    at : (v : Option PoolEntry) → item_at old k ≡ v → kept (λ (y : PoolEntry). test y.name y.root) v ≡ Some x → (item_at old k ≡ Some x) × (test x.name x.root ≡ true)
    at None f g = absurd (let h : ◌≡◌ {A = Option PoolEntry} None (Some x) = g in cc)
    at (Some y) f g = by y (test y.name y.root) refl f g

  pub distinct_kept : IsDistinct new
  distinct_kept j k x y hx hy same = distinct j k x y (was_there j x hx).0 (was_there k y hy).0 same

  pub named_kept : (n : Name) → get (roots_of new) n ≡ kept (test n) (get (roots_of old) n)
  named_kept n = at (get (roots_of old) n) refl where
    none : ((k : ℕ) (x : PoolEntry) → item_at old k ≡ Some x → x.name ≡ n → test x.name x.root ≡ false) → get (roots_of new) n ≡ None
    none fails = unnamed new n (λ k x h s. let w = was_there k x h in let f : true ≡ false = sym w.1 ∙ fails k x w.0 s in absurd (cc))

    by : (r : Root) (b : Bool) → test n r ≡ b → get (roots_of old) n ≡ Some r → get (roots_of new) n ≡ cond b (Some r) None
    by r true t e =
        let f = entry_of old n r e in
        let stays : item_at new f.0 ≡ Some f.1 = each f.0 ∙ ap (kept (λ (x : PoolEntry). test x.name x.root)) f.2 ∙ (λ i. cond (test (f.3 i) (f.4 i)) (Some f.1) None) ∙ ap (λ b. cond b (Some f.1) None) t in
        ap (get (roots_of new)) (sym f.3) ∙ named new f.0 f.1 distinct_kept stays ∙ ap Some f.4
    by r false t e =
        none (λ k x h s.
        let f : Some x.root ≡ Some r = sym (named old k x distinct h) ∙ ap (get (roots_of old)) s ∙ e in
        let g : x.root ≡ r = cc in
        (λ i. test (s i) (g i)) ∙ t)

    at : (v : Option Root) → get (roots_of old) n ≡ v → get (roots_of new) n ≡ kept (test n) v
    at None e = none (λ k x h s. let f : None ≡ Some x.root = sym e ∙ ap (get (roots_of old)) (sym s) ∙ named old k x distinct h in absurd (cc))
    at (Some r) e = by r (test n r) refl e

-- one entry is removed: those of its name fail
module _ (old new : List (Option PoolEntry)) (key : ℕ) (e : PoolEntry) (distinct : IsDistinct old) (was : item_at old key ≡ Some e) (gone : item_at new key ≡ None) (others : (k : ℕ) → k ≢ key → item_at new k ≡ item_at old k) where
  each_else : (k : ℕ) → item_at new k ≡ kept (λ (x : PoolEntry). not (same_name x.name e.name)) (item_at old k)
  each_else k = elim (cases_eq k key) [
    | inl s ↦ ap (item_at new) s ∙ gone ∙ sym (ap (kept (λ (x : PoolEntry). not (same_name x.name e.name))) (ap (item_at old) s ∙ was) ∙ ap (λ b. cond (not b) (Some e) None) (same_name_self e.name))
    | inr ne ↦ others k ne ∙ elsewhere ne (item_at old k) refl
  ] where
    elsewhere : k ≢ key → (v : Option PoolEntry) → item_at old k ≡ v → v ≡ kept (λ (x : PoolEntry). not (same_name x.name e.name)) v
    elsewhere ne None f = refl
    elsewhere ne (Some x) f = sym (ap (λ b. cond (not b) (Some x) None) (names_differ x.name e.name (λ s. ne (distinct k key x e f was s))))

  pub distinct_gone : IsDistinct new
  distinct_gone = distinct_kept old new (λ n _. not (same_name n e.name)) distinct each_else

  pub named_gone : (n : Name) → get (roots_of new) n ≡ cond (same_name n e.name) None (get (roots_of old) n)
  named_gone n = named_kept old new (λ n _. not (same_name n e.name)) distinct each_else n ∙ turned (same_name n e.name) (get (roots_of old) n) where
    turned : (b : Bool) (v : Option Root) → kept (λ _. not b) v ≡ cond b None v
    turned true None = refl
    turned true (Some r) = refl
    turned false None = refl
    turned false (Some r) = refl
