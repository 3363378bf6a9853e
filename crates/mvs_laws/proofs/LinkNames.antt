-- Grants one after another, and the names that they set.
use Rattle.std.proofs.Common.{◌≡◌, ℕ, ◌+◌, ◌<◌, ◌≤◌, Bool, true, false, cond, List, [], ◌∷◌, map, Option, Some, arith, refl, sym, ap, ◌∙◌, subst, ◌==◌, option_map}
use Rattle.std.specs.FinMap.{FinMap, get, insert, get-insert}
use Rattle.std.proofs.lemmas.Bool.Decides.{nat_tests}
use Rattle.mvs_laws.proofs.Types.{Name, Below}
use Rattle.mvs_model.specs.Place.{PlaceValue, place_at, round8}
use Rattle.mvs_model.specs.Want.{WantValue, fixed_want}
use Rattle.mvs_model.specs.Name.{name_cmp, same_name}
use Rattle.mvs_model.specs.Owners.{Owners, SubpoolOf, Enters}
use Rattle.mvs_model.specs.State.{State}
use Rattle.mvs_model.specs.Changes.{GrantTo, ListGrant}
use Rattle.mvs_model.specs.Job.{JobValue}
use Rattle.mvs_model.specs.Resolving.{all_set}
use Rattle.mvs_laws.specs.Labels.{Labels, with_area, Grants, GrantsEach, all_named}
use Rattle.mvs_laws.specs.Tidy.{Link}
use Rattle.mvs_model.proofs.Orders.{name_cmp_total}
use Rattle.mvs_laws.proofs.LinkGrant.{Comes, link_area, link_area_base}
use Rattle.mvs_model.proofs.PartsFewer.{none_held}
use Rattle.mvs_model.proofs.Tests.{less_other, same_self}

-- the job in another state
abbrev pub at_state : JobValue → State → JobValue
at_state job st = record { state = st; names = job.names; abended = job.abended; former = job.former }

-- Labels that were there are as before.
abbrev pub Stays : (job new : JobValue) (m mid : Labels) → Link job m → Link new mid → Type 0
Stays job new m mid k later = (l : ℕ) → l < m.count → (later.base l ≡ k.base l) × (mid.len l ≡ m.len l)

-- The places are those of labels from one on, and there is one for each length.
abbrev pub Placed : (ℕ → ℕ) → (ℕ → ℕ) → ℕ → List ℕ → List PlaceValue → ℕ → Type 0
Placed base len count [] [] l = Unit {0}
Placed base len count [] (p ∷ ps) l = ⊥
Placed base len count (n ∷ ns) [] l = ⊥
Placed base len count (n ∷ ns) (p ∷ ps) l = (p ≡ place_at (base l) (len l)) × (l < count) × Placed base len count ns ps (l + 1)

-- one grant
pub grant_one : (job : JobValue) (m : Labels) (k : Link job m) (t : Name) (number n : ℕ) (want : WantValue) (p : PlaceValue) (new : State) → GrantTo job.state t number want p new → p.len ≡ n
    → (mid : Labels) × (later : Link (at_state job new) mid) × Grants m t number n mid × Stays job (at_state job new) m mid k later × (p ≡ place_at (later.base m.count) (mid.len m.count)) × (mid.count ≡ m.count + 1) × (mid.names ≡ m.names)
grant_one job m k t number n want p new g size = (
  record (with_area m g.subpool p.len) { owners = new.owners },
  link_area job (at_state job new) m k g.subpool p comes refl new.owners refl refl refl,
  record {
    subpool = g.subpool;
    owners = new.owners;
    is_subpool = subst (λ o. SubpoolOf o t number g.subpool) k.owners g.is_subpool;
    enters = subst (λ o. Enters o t number g.subpool new.owners) k.owners g.owners;
    is = ap (λ x. record (with_area m g.subpool x) { owners = new.owners }) size;
  },
  (λ l less. (base_is l ∙ ap (λ c. cond c p.addr (k.base l)) (less_other l m.count less), ap (λ c. cond c p.len (m.len l)) (less_other l m.count less))),
  ap (λ c. place_at (cond c p.addr (k.base m.count)) (cond c p.len (m.len m.count))) (sym (same_self m.count)) ∙ ap (λ b. place_at b (cond (m.count == m.count) p.len (m.len m.count))) (sym (base_is m.count)),
  refl,
  refl,
) where
  comes : Comes job g.subpool p new
  comes = record {
    addr = g.chosen.placed.1.on_doubleword;
    len = g.chosen.length.whole;
    free = λ d c. none_held (get job.state.held d) (g.chosen.placed.0.each d c).free;
    held = g.held;
    bytes = g.bytes;
    pools = g.pools ∙ k.pools;
    fill = ap (λ r. r.fill) g.regions;
  }

  base_is : (l : ℕ) → (link_area job (at_state job new) m k g.subpool p comes refl new.owners refl refl refl).base l ≡ cond (l == m.count) p.addr (k.base l)
  base_is l = link_area_base job (at_state job new) m k g.subpool p comes refl new.owners refl refl refl l

-- what each of the places wanted has at least and at most
abbrev pub AllFixed : List ℕ → List WantValue → Type 0
AllFixed [] [] = Unit {0}
AllFixed [] (w ∷ ws) = ⊥
AllFixed (n ∷ ns) [] = ⊥
AllFixed (n ∷ ns) (w ∷ ws) = (w.least ≡ round8 n) × (w.most ≡ round8 n) × AllFixed ns ws

pub fixed_all : (start : ℕ) (ns : List ℕ) → AllFixed ns (map (λ n. fixed_want n start Below) ns)
fixed_all start [] = tt
fixed_all start (n ∷ ns) = (refl, refl, fixed_all start ns)

-- several grants
pub grant_each : (t : Name) (number : ℕ) (ns : List ℕ) (wants : List WantValue) (ps : List PlaceValue) (new : State) (job : JobValue) (m : Labels) (k : Link job m) → AllFixed ns wants → ListGrant job.state t number wants ps new
    → (mid : Labels) × (later : Link (at_state job new) mid) × GrantsEach m t number ns mid × Stays job (at_state job new) m mid k later × Placed later.base mid.len mid.count ns ps m.count × (m.count ≤ mid.count) × (mid.names ≡ m.names)
grant_each t number [] [] [] new job m k f g = subst (λ st. (mid : Labels) × (later : Link (at_state job st) mid) × (mid ≡ m) × Stays job (at_state job st) m mid k later × Unit {0} × (m.count ≤ mid.count) × (mid.names ≡ m.names)) (sym g) (m, k, refl, (λ l less. (refl, refl)), tt, omega arith, refl)
grant_each t number [] [] (p ∷ ps) new job m k f g = absurd g
grant_each t number [] (w ∷ ws) ps new job m k f g = absurd f
grant_each t number (n ∷ ns) [] ps new job m k f g = absurd f
grant_each t number (n ∷ ns) (w ∷ ws) [] new job m k f g = absurd g
grant_each t number (n ∷ ns) (w ∷ ws) (p ∷ ps) new job m k f g =
    let size : p.len ≡ round8 n = (let low : w.least ≤ p.len = g.1.chosen.length.least in let high : p.len ≤ w.most = g.1.chosen.length.most in let a : w.least ≡ round8 n = f.0 in let b : w.most ≡ round8 n = f.1 in at w.least w.most p.len (round8 n) low high a b) in
    let one = grant_one job m k t number (round8 n) w p g.0 g.1 size in
    let rest = grant_each t number ns ws ps new (at_state job g.0) one.0 one.1 f.2 g.2 in
    let count : one.0.count ≡ m.count + 1 = one.5 in
    let more : one.0.count ≤ rest.0.count = rest.5 in (
      rest.0,
      rest.1,
      (one.0, one.2, rest.2),
      (λ l less. let below : l < one.0.count = omega (arith, less, count) in ((rest.3 l below).0 ∙ (one.3 l less).0, (rest.3 l below).1 ∙ (one.3 l less).1)),
      (
        one.4 ∙ (let here : m.count < one.0.count = omega (arith, count) in λ i. place_at (sym (rest.3 m.count here).0 i) (sym (rest.3 m.count here).1 i)),
        omega (arith, count, more),
        subst (λ l. Placed rest.1.base rest.0.len rest.0.count ns ps l) count rest.4,
      ),
      omega (arith, count, more),
      rest.6 ∙ one.6,
    ) where
      at : (a b c d : ℕ) → a ≤ c → c ≤ b → a ≡ d → b ≡ d → c ≡ d
      at a b c d low high e f = omega (arith, low, high, e, f)

-- Each name that is set has its label's place.
pub record Agrees (base len : ℕ → ℕ) (count : ℕ) (places : FinMap name_cmp PlaceValue) (names : FinMap name_cmp ℕ) : Type 0 where
  pub place : (name : Name) → get places name ≡ option_map (λ l. place_at (base l) (len l)) (get names name)
  pub low : (name : Name) (l : ℕ) → get names name ≡ Some l → l < count

agrees_one : (base len : ℕ → ℕ) (count : ℕ) (places : FinMap name_cmp PlaceValue) (names : FinMap name_cmp ℕ) (name : Name) (p : PlaceValue) (l : ℕ) → Agrees base len count places names → p ≡ place_at (base l) (len l) → l < count → Agrees base len count (insert places name p) (insert names name l)
agrees_one base len count places names name p l a e less = record {
  place = λ x. get-insert name_cmp_total places name p x ∙ (λ i. cond (same_name x name) (Some (e i)) (a.place x i)) ∙ at (same_name x name) (get names x) ∙ ap (option_map (λ l. place_at (base l) (len l))) (sym (get-insert name_cmp_total names name l x));
  low = λ x i f. by (same_name x name) (get names x) i (a.low x i) (sym (get-insert name_cmp_total names name l x) ∙ f);
} where
  at : (c : Bool) (v : Option ℕ) → cond c (Some (place_at (base l) (len l))) (option_map (λ l. place_at (base l) (len l)) v) ≡ option_map (λ l. place_at (base l) (len l)) (cond c (Some l) v)
  at true v = refl
  at false v = refl

  by : (c : Bool) (v : Option ℕ) (i : ℕ) → (v ≡ Some i → i < count) → cond c (Some l) v ≡ Some i → i < count
  by true v i h f = subst (λ x. x < count) (let z : l ≡ i = cc in z) less
  by false v i h f = h f

pub agrees_all : (base len : ℕ → ℕ) (count : ℕ) (areas : List Name) (ns : List ℕ) (ps : List PlaceValue) (l : ℕ) (places : FinMap name_cmp PlaceValue) (names : FinMap name_cmp ℕ) → Agrees base len count places names → Placed base len count ns ps l → Agrees base len count (all_set places areas ps) (all_named names areas ns l)
agrees_all base len count [] ns ps l places names a p = a
agrees_all base len count (x ∷ xs) [] [] l places names a p = a
agrees_all base len count (x ∷ xs) [] (q ∷ ps) l places names a p = absurd p
agrees_all base len count (x ∷ xs) (n ∷ ns) [] l places names a p = absurd p
agrees_all base len count (x ∷ xs) (n ∷ ns) (q ∷ ps) l places names a p = agrees_all base len count xs ns ps (l + 1) (insert places x q) (insert names x l) (agrees_one base len count places names x q l a p.0 p.1) p.2

-- other names
pub link_named : (job new : JobValue) (m : Labels) (k : Link job m) (names : FinMap name_cmp ℕ) → new.state ≡ job.state → new.abended ≡ job.abended → new.former ≡ job.former → Agrees k.base m.len m.count new.names names → Link new (record m { names = names })
link_named job new m k names same ended trailing a = grind (arith, nat_tests)

-- other owners, and the same storage
pub link_owners : (job new : JobValue) (m : Labels) (k : Link job m) (o : Owners) (a : Bool) → new.state.held ≡ job.state.held → new.state.bytes ≡ job.state.bytes → new.state.pools ≡ job.state.pools → new.state.regions ≡ job.state.regions → new.state.owners ≡ o → new.names ≡ job.names → new.abended ≡ a → new.former ≡ job.former → Link new (record m { owners = o; abended = a })
link_owners job new m k o a held bytes pools regions owners named ended trailing = grind (arith, nat_tests)
