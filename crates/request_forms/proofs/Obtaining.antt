-- What is obtained from a store is obtained from the machine.
use Rattle.std.proofs.Common.{◌≡◌, ℕ, Option, Some, None, refl, sym, ap, subst, ◌∙◌}
use Rattle.std.specs.Prelude.{MatchOption, IfSome}
use Rattle.mvs_model.specs.declared.name.Name.{Name}
use Rattle.mvs_model.specs.declared.code.Form.{Form}
use Rattle.mvs_model.specs.declared.want.Loc.{Loc}
use Rattle.mvs_model.specs.declared.want.Side.{Side}
use Rattle.mvs_model.specs.declared.want.Residence.{Residence}
use Rattle.mvs_model.specs.declared.want.Residence.TheVariants.{Below}
use Rattle.std.specs.Option.{option_map, unwrap_or}
use Rattle.std.specs.FinMap.{FinMap, get}
use Rattle.mvs_model.specs.Place.{PlaceValue}
use Rattle.mvs_model.specs.Want.{AskValue, WantValue, side_of, want_of}
use Rattle.mvs_model.specs.Storage.{Storage, holder, IsStorage, Chosen, NoPlace, Grant}
use Rattle.mvs_model.specs.Owners.{Owners, entry, effective_task, IsSpare, SubpoolOf, Binds, Enters}
use Rattle.mvs_model.specs.State as state
use Rattle.mvs_model.specs.State.{State}
use Rattle.mvs_model.specs.Name.{name_cmp}
use Rattle.mvs_model.specs.Codes.{family, form_side}
use Rattle.mvs_model.specs.Changes.{GrantTo, ShortOf}
use Rattle.mvs_model.specs.Requests.{side_for}
use Rattle.mvs_model.specs.Determined.{FollowsHint}
use Rattle.mvs_model.proofs.OneOwners.{one_subpool}
use Rattle.mvs_model.proofs.Seen.{no_place_seen, same_holder}
use Rattle.cell_pool.specs.Agree.{Agree}
use Rattle.cell_pool.specs.Roots.{Root, pools_of}
use Rattle.request_forms.specs.Machine.{machine_state}
use Rattle.request_forms.proofs.Pooling.{granted, grant_agrees}

-- the subpool that the task has, or would have
pub its_subpool : (o : Owners) (t : Name) (number s : ℕ) → entry o t number ≡ Some s → SubpoolOf o t number s
its_subpool o t number s e = subst (λ v. MatchOption v (IsSpare o s) (λ r. s ≡ r)) (sym e) refl

pub new_subpool : (o : Owners) (t : Name) (number s : ℕ) → entry o t number ≡ None → IsSpare o s → SubpoolOf o t number s
new_subpool o t number s e spare = subst (λ v. MatchOption v (IsSpare o s) (λ r. s ≡ r)) (sym e) spare

pub stays_entered : (o : Owners) (t : Name) (number s : ℕ) → entry o t number ≡ Some s → Enters o t number s o
stays_entered o t number s e = subst (λ v. MatchOption v (Binds o t number s o) (λ _. o ≡ o)) (sym e) refl

pub now_entered : (o : Owners) (t : Name) (number s : ℕ) (new : Owners) → entry o t number ≡ None → Binds o t number s new → Enters o t number s new
now_entered o t number s new e binds = subst (λ v. MatchOption v (Binds o t number s new) (λ _. new ≡ o)) (sym e) binds

-- an area of a subpool that the task has
pub area_of : (roots : FinMap name_cmp Root) (st new : Storage) (o : Owners) (t : Name) (number s : ℕ) (want : WantValue) (r : Option PlaceValue) → Agree roots st → IsStorage new → entry o t number ≡ Some s
    → MatchOption r (NoPlace st.regions (holder st) s want × (new ≡ st)) (λ p. Grant st s want p new)
    → MatchOption r (ShortOf (machine_state roots st o) t number want × (machine_state roots new o ≡ machine_state roots st o)) (λ p. GrantTo (machine_state roots st o) t number want p (machine_state roots new o))
area_of roots st new o t number s want None agree now e h = ((s, its_subpool o t number s e, no_place_seen st o (pools_of roots st) s want agree.parts.storage h.0), ap (λ x. machine_state roots x o) h.1)
area_of roots st new o t number s want (Some p) agree now e h = granted roots st new o o t number s want p agree now (its_subpool o t number s e) (stays_entered o t number s e) h

-- then the pools are as they were
pub area_agrees : (roots : FinMap name_cmp Root) (st new : Storage) (s : ℕ) (want : WantValue) (r : Option PlaceValue) → Agree roots st → IsStorage new → MatchOption r (NoPlace st.regions (holder st) s want × (new ≡ st)) (λ p. Grant st s want p new) → Agree roots new
area_agrees roots st new s want None agree now h = subst (Agree roots) (sym h.1) agree
area_agrees roots st new s want (Some p) agree now h = (grant_agrees roots st new s want p agree now h).0

-- shortage in a subpool that the task would have
pub short_of_new : (roots : FinMap name_cmp Root) (st : Storage) (o : Owners) (t : Name) (number s : ℕ) (want : WantValue) → Agree roots st → entry o t number ≡ None → IsSpare o s → NoPlace st.regions (holder st) s want → ShortOf (machine_state roots st o) t number want
short_of_new roots st o t number s want agree e spare none = (s, new_subpool o t number s e spare, no_place_seen st o (pools_of roots st) s want agree.parts.storage none)

-- an area of a new subpool
pub area_of_new : (roots : FinMap name_cmp Root) (st new : Storage) (o after : Owners) (t : Name) (number s : ℕ) (want : WantValue) (p : PlaceValue) → Agree roots st → IsStorage new → entry o t number ≡ None → IsSpare o s → Binds o t number s after → Grant st s want p new → GrantTo (machine_state roots st o) t number want p (machine_state roots new after)
area_of_new roots st new o after t number s want p agree now e spare binds g = granted roots st new o after t number s want p agree now (new_subpool o t number s e spare) (now_entered o t number s after e binds) g

-- what is wanted for a task that was found by its name, by where it resides
pub want_seen : (st : State) (t found : Name) (form : Form) (ask : AskValue) (r : Residence) (loc : Loc) (meant served : Side) (want : WantValue) → found ≡ t → option_map (λ task. task.residence) (get st.owners.tasks found) ≡ Some r
    → loc ≡ ask.loc → meant ≡ side_of loc r → served ≡ form_side (family form) meant → want ≡ want_of ask served → want ≡ want_of ask (side_for st t form ask.loc)
want_seen st t found form ask r loc meant served want named resides lies means serves wants =
    let where_it_resides : option_map (λ task. task.residence) (get st.owners.tasks t) ≡ Some r = ap (λ n. option_map (λ task. task.residence) (get st.owners.tasks n)) (sym named) ∙ resides in
    wants ∙ ap (want_of ask) (serves ∙ ap (form_side (family form)) (means ∙ ap (λ l. side_of l r) lies ∙ ap (λ v. side_of ask.loc (unwrap_or v Below)) (sym where_it_resides)))

-- a subpool is entered for a task that was found by its name
pub bound_keeper : (o : Owners) (t found : Name) (number s : ℕ) (new : Owners) → found ≡ t → Binds o (effective_task o found number) number s new → Binds o (effective_task o t number) number s new
bound_keeper o t found number s new named binds = subst (λ n. Binds o (effective_task o n number) number s new) named binds

-- an area takes the hinted address, where it takes it from the store
pub takes_correct : (roots : FinMap name_cmp Root) (st : Storage) (o : Owners) (t : Name) (number s : ℕ) (want : WantValue) (hints : Option ℕ) (p : PlaceValue) → Agree roots st → SubpoolOf o t number s
    → ((q : PlaceValue) → hints ≡ Some q.addr → Chosen st.regions (holder st) s want q → Some p ≡ Some q) → (a : ℕ) → hints ≡ Some a → FollowsHint (machine_state roots st o) t number want a p
takes_correct roots st o t number s want hints p agree sub takes a is q later g e =
    let same : g.subpool ≡ s = one_subpool o t number g.subpool s g.is_subpool sub in
    let chosen : Chosen st.regions (holder st) s want q = subst (λ h. Chosen st.regions h s want q) (same_holder st o (pools_of roots st) agree.parts.storage) (subst (λ u. Chosen st.regions (state.holder (machine_state roots st o)) u want q) same g.chosen) in
    let found : Some p ≡ Some q = takes q (is ∙ ap Some (sym e)) chosen in
    ap (λ r. (unwrap_or r p).addr) found ∙ e

pub area_takes : (roots : FinMap name_cmp Root) (st : Storage) (o : Owners) (t : Name) (number s : ℕ) (want : WantValue) (hints : Option ℕ) (r : Option PlaceValue) → Agree roots st → SubpoolOf o t number s
    → ((q : PlaceValue) → hints ≡ Some q.addr → Chosen st.regions (holder st) s want q → r ≡ Some q) → IfSome r (λ p. (a : ℕ) → hints ≡ Some a → FollowsHint (machine_state roots st o) t number want a p)
area_takes roots st o t number s want hints None agree sub takes = tt
area_takes roots st o t number s want hints (Some p) agree sub takes = takes_correct roots st o t number s want hints p agree sub takes
