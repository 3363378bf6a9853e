-- What is released from a store is released from the machine.
use Rattle.std.proofs.Common.{◌≡◌, ℕ, inl, inr, Bool, true, false, List, [], ◌∷◌, map, Option, Some, None, Result, Ok, Err, refl, sym, ap, subst, arith}
use Rattle.std.specs.Prelude.{not, is_some, MatchResult, ◌==◌, ◌&&◌}
use Rattle.std.specs.List.{list_all}
use Rattle.std.proofs.lemmas.Bool.Decides.{nat_tests}
use Rattle.mvs_model.specs.declared.name.Name.{Name}
use Rattle.mvs_model.specs.declared.code.Form.{Form}
use Rattle.mvs_model.specs.declared.request.Reply.TheVariants.{Rc0}
use Rattle.mvs_model.specs.Changes.{Disjoint, Frees}
use Rattle.mvs_model.specs.Place.{PlaceValue}
use Rattle.mvs_model.specs.Storage.{Storage, IsStorage, ReleaseAll}
use Rattle.mvs_model.specs.Owners.{Owners, subpool_meant}
use Rattle.mvs_model.specs.State.{State}
use Rattle.std.specs.FinMap.{FinMap, get}
use Rattle.mvs_model.specs.Name.{name_cmp}
use Rattle.mvs_model.specs.Finite.{Keeps}
use Rattle.cell_pool.specs.Agree.{Agree}
use Rattle.cell_pool.specs.Roots.{Root}
use Rattle.request_forms.specs.Machine.{machine_state}
use Rattle.mvs_model.specs.Subpool.{is_subpool_number}
use Rattle.mvs_model.specs.Causes.{HoldsEach, Passed, Refused, held_causes, places_causes}
use Rattle.mvs_model.specs.Steps.{Tries}
use Rattle.mvs_model.specs.declared.refusal.Refusal.{Refusal}
use Rattle.mvs_model.specs.declared.refusal.Refusal.TheVariants.{OffDoubleword}
use Rattle.mvs_model.specs.declared.request.Request.TheVariants.{ReleaseWhole}
use Rattle.request_forms.specs.Places.{TriesPlaces}
use Rattle.mvs_model.specs.Requests.{whole, on_doubleword, EmptiesEntry}
use Rattle.request_forms.proofs.Pooling.{emptied}
use Rattle.request_forms.proofs.Cases.{is_valid}

-- one place, which begins on a doubleword or does not
pub one_on_doubleword : (b : Bool) (p : PlaceValue) → on_doubleword p ≡ b → list_all on_doubleword (p ∷ []) ≡ b
one_on_doubleword true p e = ap (λ x. x && true) e
one_on_doubleword false p e = ap (λ x. x && true) e

-- a release, by its number and its places
module _ (old : State) (t : Name) (number : ℕ) (ps : List PlaceValue) where
  pub misplaced : is_subpool_number number ≡ true → list_all on_doubleword ps ≡ false → Refused (places_causes old t number ps) OffDoubleword
  misplaced l e = inr (is_valid number l, inl (ap not e, refl))

  pub tried : (v : Option ℕ) (new : State) (result : Result (Unit {0}) Refusal) → is_subpool_number number ≡ true → list_all on_doubleword ps ≡ true → v ≡ subpool_meant old.owners t number → TriesPlaces old v (map whole ps) result new
      → MatchResult result (λ _. Passed (places_causes old t number ps) × ((Rc0 ≡ Rc0) × Frees old (map whole ps) new)) (λ refusal. Refused (places_causes old t number ps) refusal × (new ≡ old))
  tried v new (Ok _) l e is h = ((is_valid number l, (ap not e, subst (λ w. Passed (held_causes (is_some w) (HoldsEach old w (map whole ps)) (Disjoint (map whole ps)))) is h.0)), (refl, h.1))
  tried v new (Err refusal) l e is h = (inr (is_valid number l, inr (ap not e, subst (λ w. Refused (held_causes (is_some w) (HoldsEach old w (map whole ps)) (Disjoint (map whole ps))) refusal) is h.0)), h.1)

-- a number that is not 0
pub not_zero : (n m : ℕ) → m ≡ n → (m ≡ 0 → ⊥) → (n == 0) ≡ false
not_zero n m e h = grind (arith, nat_tests)

-- a release of a whole subpool
pub done_whole : (old : State) (t : Name) (form : Form) (number : ℕ) (new : State) (s : Option ℕ) → is_subpool_number number ≡ true → (number == 0) ≡ false → s ≡ subpool_meant old.owners t number → EmptiesEntry old s new
    → Tries {A = Unit {0}} (λ _. Rc0) old t (ReleaseWhole form number) (Ok tt) new
done_whole old t form number new s l e is empties = ((is_valid number l, (e, tt)), (refl, subst (λ v. EmptiesEntry old v new) is empties))

-- what the task's subpool held is released, with its pools
pub emptied_entry : (roots fewer : FinMap name_cmp Root) (st new : Storage) (o : Owners) (s : ℕ) (v : Option ℕ) → Agree roots st → IsStorage new → v ≡ Some s → Keeps (get roots) (λ _ r. not (r.subpool == s)) (get fewer) → ReleaseAll st s new
    → EmptiesEntry (machine_state roots st o) v (machine_state fewer new o)
emptied_entry roots fewer st new o s v agree now e gone r = subst (λ w. EmptiesEntry (machine_state roots st o) w (machine_state fewer new o)) (sym e) (emptied roots fewer st new s agree now gone r o)

pub no_entry : (roots : FinMap name_cmp Root) (st : Storage) (o : Owners) (v : Option ℕ) → v ≡ None → EmptiesEntry (machine_state roots st o) v (machine_state roots st o)
no_entry roots st o v e = subst (λ w. EmptiesEntry (machine_state roots st o) w (machine_state roots st o)) (sym e) refl
