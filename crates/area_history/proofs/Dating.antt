-- What freed a doubleword, and when a task was attached, one change after another.
use Rattle.std.proofs.Common.{◌≡◌, ℕ, ◌+◌, ◌<◌, ◌≤◌, Bool, true, false, List, [], ◌∷◌, length, drop, Option, Some, None, get_or, refl, sym, ap, ◌∙◌, arith, suc, zero}
use Rattle.std.specs.Prelude.{unwrap_or, if◌then◌else◌}
use Rattle.std.specs.Option.{option_or}
use Rattle.std.proofs.Math.Seq.{drop-length}
use Rattle.mvs_model.specs.declared.name.Name.{Name}
use Rattle.area_history.specs.declared.events.StorageEvent.{StorageEvent}
use Rattle.area_history.specs.declared.findings.LastTwo.{LastTwo}
use Rattle.area_history.specs.declared.grant.AreaGrant.{AreaGrant}
use Rattle.area_history.specs.declared.grant.TaskStart.{TaskStart}
use Rattle.area_history.specs.Histories.{attach_of, fate, frees_area, last_attach, later_two, owner_since, two_after}
use Rattle.area_history.proofs.Tallying.{from_here}

pub all_dropped : {A : Type 0} (n : ℕ) (xs : List A) → length xs ≤ n → n ≤ length xs → drop n xs ≡ []
all_dropped n xs least most = ap (λ k. drop k xs) (let e : n ≡ length xs = omega (arith, least, most) in e) ∙ drop-length xs

module _ (d : ℕ) (g : AreaGrant) (owner : Name) (events rest all : List StorageEvent) (e : StorageEvent) where
  fate_by : (b : Bool) → frees_area d g owner e ≡ b → fate d g owner (e ∷ rest) ≡ (if b then Some e else fate d g (owner_since g owner e) rest)
  fate_by b is = ap (λ b. if b then Some e else fate d g (owner_since g owner e) rest) is

  -- it frees it
  pub fate_here : (first : Name) → events ≡ e ∷ rest → frees_area d g owner e ≡ true → fate d g owner events ≡ fate d g first all → Some e ≡ fate d g first all
  fate_here first cut frees same = sym (ap (fate d g owner) cut ∙ fate_by true frees) ∙ same

  -- it does not
  pub fate_later : (first : Name) → events ≡ e ∷ rest → frees_area d g owner e ≡ false → fate d g owner events ≡ fate d g first all → fate d g (owner_since g owner e) rest ≡ fate d g first all
  fate_later first cut frees same = sym (ap (fate d g owner) cut ∙ fate_by false frees) ∙ same

pub fate_never : (d : ℕ) (g : AreaGrant) (owner first : Name) (n : ℕ) (all : List StorageEvent) → length all ≤ n → n ≤ length all → fate d g owner (drop n all) ≡ fate d g first all → None ≡ fate d g first all
fate_never d g owner first n all least most same = sym (ap (fate d g owner) (all_dropped n all least most)) ∙ same

-- the last change that attached a task, if the later ones did not
pub attached_last : (t : Name) (events : List StorageEvent) (i : ℕ) (e : StorageEvent) (rest : List StorageEvent) (start : TaskStart) → drop i events ≡ e ∷ rest → attach_of t e ≡ Some start → last_attach t rest ≡ None → last_attach t events ≡ Some start
attached_last t [] i e rest start cut at none = absurd (let f : [] ≡ e ∷ rest = nothing i ∙ cut in cc) where
  nothing : (i : ℕ) → [] ≡ drop {A = StorageEvent} i []
  nothing zero = refl
  nothing (suc i) = refl
attached_last t (x ∷ events) zero e rest start cut at none = ap (last_attach t) cut ∙ ap (λ o. option_or o (attach_of t e)) none ∙ at
attached_last t (x ∷ events) (suc i) e rest start cut at none = ap (λ o. option_or o (attach_of t x)) (attached_last t events i e rest start cut at none)

-- one that did not attach it
pub attached_none : (t : Name) (e : StorageEvent) (events rest : List StorageEvent) → events ≡ e ∷ rest → attach_of t e ≡ None → last_attach t rest ≡ None → last_attach t events ≡ None
attached_none t e events rest cut at none = ap (last_attach t) cut ∙ ap (λ o. option_or o (attach_of t e)) none ∙ at

pub two_later : (d : ℕ) (two first : LastTwo) (grants rest all : List AreaGrant) (g : AreaGrant) → grants ≡ g ∷ rest → two_after d two grants ≡ two_after d first all → two_after d (later_two d two g) rest ≡ two_after d first all
two_later d two first grants rest all g cut same = sym (ap (two_after d two) cut) ∙ same

pub two_all : (d : ℕ) (two first : LastTwo) (n : ℕ) (all : List AreaGrant) → length all ≤ n → n ≤ length all → two_after d two (drop n all) ≡ two_after d first all → two ≡ two_after d first all
two_all d two first n all least most same = sym (ap (two_after d two) (all_dropped n all least most)) ∙ same
