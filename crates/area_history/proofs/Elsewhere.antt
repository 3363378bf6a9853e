-- A request that is too long for any region is refused, and its reason has the storage for a shorter one.
use Rattle.std.proofs.Common.{◌≡◌, ℕ, ◌+◌, ◌*◌, ◌/◌, ◌%◌, ◌^◌, ◌<◌, ◌≤◌, Bool, true, false, Option, Some, None, inl, inr, refl, sym, ap, subst, ◌∙◌, arith, if◌then◌else◌}
use Rattle.std.specs.Prelude.{◌⊎◌, nat_le}
use Rattle.std.proofs.lemmas.Grind.{common_steps}
use Rattle.mvs_model.specs.declared.code.Form.{Form}
use Rattle.mvs_model.specs.declared.code.Form.TheVariants.{Rc}
use Rattle.mvs_model.specs.declared.name.Name.{Name}
use Rattle.mvs_model.specs.declared.reason.FreeSpace.{FreeSpace}
use Rattle.mvs_model.specs.declared.reason.Reason.{Reason}
use Rattle.mvs_model.specs.declared.reason.Reason.TheVariants as reason
use Rattle.mvs_model.specs.declared.refusal.Refusal.{Refusal}
use Rattle.mvs_model.specs.declared.refusal.Refusal.TheVariants.{NotActive, InvalidNumber, Shortage}
use Rattle.mvs_model.specs.declared.refusal.Refusal.TheVariants as refusal
use Rattle.mvs_model.specs.declared.request.Request.{Request}
use Rattle.mvs_model.specs.declared.request.Request.TheVariants.{Obtain, Build}
use Rattle.mvs_model.specs.declared.want.Loc.{Loc}
use Rattle.mvs_model.specs.declared.want.Loc.TheVariants as loc
use Rattle.mvs_model.specs.declared.want.Side.{Side}
use Rattle.mvs_model.specs.declared.want.Side.TheVariants.{Either}
use Rattle.mvs_model.specs.Causes.{IsRefused}
use Rattle.mvs_model.specs.Numbers.{above_begins, below_begins, most_pages_above, most_pages_below, page_bytes}
use Rattle.mvs_model.specs.Owners.{effective_task}
use Rattle.mvs_model.specs.Place.{PlaceValue, place_at, round8}
use Rattle.mvs_model.specs.Pools.{part_length, part_want}
use Rattle.mvs_model.specs.Reasons.{AreaRoom, Explains, IsLongest, IsRoom, PartRoom, refusal_of, requested_code}
use Rattle.mvs_model.specs.Requests.{side_for}
use Rattle.mvs_model.specs.State.{State, holder}
use Rattle.mvs_model.specs.Storage.{InRegion, Meets, NoPlace, Places, Regions}
use Rattle.mvs_model.specs.View.{IsBounded}
use Rattle.mvs_model.specs.Want.{AskValue, WantValue, fixed_want, want_of}
use Rattle.mvs_model.proofs.OneOwners.{one_subpool}
use Rattle.mvs_model.proofs.StorageLaws.{shorter_place}
use Rattle.mvs_model.proofs.Tests.{true_false}
use Rattle.area_history.specs.Anywhere.{AnywhereServes, FitsAnywhere, LocAnyServes, LocAnyServesPools, PoolAnywhereServes, fitting, too_long, with_any}

-- ---- a request that is too long

-- no place is so long
none_long : (r : Regions) (h : ℕ → Option ℕ) (s : ℕ) (want : WantValue) → IsBounded r → want.least ≡ 2147483648 → NoPlace r h s want
none_long r h s want b is a p = at p.0.inside where
  at : InRegion r (place_at a want.least) → ⊥
  at (inl x) = let to : a + want.least ≤ below_begins + page_bytes * r.below = x.1 in let most : r.below ≤ most_pages_below = b.below in absurd (omega (arith, to, most, is))
  at (inr x) = let to : a + want.least ≤ above_begins + page_bytes * r.above = x.1 in let most : r.above ≤ most_pages_above = b.above in absurd (omega (arith, to, most, is))

module _ (st : State) (t : Name) (form : Form) (number : ℕ) (ask : AskValue) where
  -- it is refused as the shorter one
  pub refused_long : (w : WantValue) → IsBounded st.regions → IsRefused st t (Obtain form number ask) Shortage → IsRefused st t (Obtain form number (too_long w)) Shortage
  refused_long w b (inl h) = absurd (let e : ◌≡◌ {A = Refusal} Shortage NotActive = h.1 in cc)
  refused_long w b (inr (active, inl h)) = absurd (let e : ◌≡◌ {A = Refusal} Shortage InvalidNumber = h.1 in cc)
  refused_long w b (inr (active, inr (valid, inl h))) = inr (active, inr (valid, inl ((h.0.0, h.0.1, none_long st.regions (holder st) h.0.0 _ b refl), refl)))
  refused_long w b (inr (active, inr (valid, inr h))) = absurd h.1

-- so is the first part of a pool
module _ (st : State) (t name : Name) (number size primary secondary : ℕ) (l : Loc) where
  pub refused_pool : (form : Form) (w : WantValue) → IsBounded st.regions → IsRefused st t (Build name number size primary secondary l) refusal.NoPart → IsRefused st t (Obtain form number (too_long w)) Shortage
  refused_pool form w b (inl h) = absurd (let e : ◌≡◌ {A = Refusal} refusal.NoPart NotActive = h.1 in cc)
  refused_pool form w b (inr (active, inl h)) = absurd (let e : ◌≡◌ {A = Refusal} refusal.NoPart InvalidNumber = h.1 in cc)
  refused_pool form w b (inr (active, inr (valid, inl h))) = absurd (let e : ◌≡◌ {A = Refusal} refusal.NoPart refusal.PoolInUse = h.1 in cc)
  refused_pool form w b (inr (active, inr (valid, inr (unused, inl h)))) = absurd (let e : ◌≡◌ {A = Refusal} refusal.NoPart refusal.TooManyPools = h.1 in cc)
  refused_pool form w b (inr (active, inr (valid, inr (unused, inr (few, inl h))))) = inr (active, inr (valid, inl ((h.0.0, h.0.1, none_long st.regions (holder st) h.0.0 _ b refl), refl)))
  refused_pool form w b (inr (active, inr (valid, inr (unused, inr (few, inr h))))) = absurd h.1

-- ---- the storage for it

module _ (st : State) (s : ℕ) (l m k n start : ℕ) (within : Option ℕ) (side : Side) where
  abbrev one : WantValue
  one = record { least = l; most = m; start = start; within = within; side = side }

  abbrev other : WantValue
  other = record { least = k; most = n; start = start; within = within; side = side }

  meets_so : (p : PlaceValue) → Meets one p → Meets other p
  meets_so p h = record { on_doubleword = h.on_doubleword; start = h.start; within = h.within; side = h.side }

  meets_back : (p : PlaceValue) → Meets other p → Meets one p
  meets_back p h = record { on_doubleword = h.on_doubleword; start = h.start; within = h.within; side = h.side }

  placed_so : (x : ℕ) → (x ≡ 0) ⊎ ((a : ℕ) × Places st.regions (holder st) s one x a) → (x ≡ 0) ⊎ ((a : ℕ) × Places st.regions (holder st) s other x a)
  placed_so x (inl e) = inl e
  placed_so x (inr (a, p)) = inr (a, (p.0, meets_so (place_at a x) p.1))

  longest_so : (x : ℕ) → IsLongest st.regions (holder st) s one x → IsLongest st.regions (holder st) s other x
  longest_so x h = record { whole = h.whole; placed = placed_so x h.placed; greatest = λ y a w more p. h.greatest y a w more (p.0, meets_back (place_at a y) p.1) }

  -- the storage does not depend on the lengths
  pub room_so : (room : FreeSpace) → IsRoom st s one room → IsRoom st s other room
  room_so room h = record { longest = longest_so room.longest h.longest; runs = h.runs; below = h.below; above = h.above }

pub room_anywhere : (st : State) (t : Name) (form : Form) (number : ℕ) (ask : AskValue) (side : Side) (room : FreeSpace) → AreaRoom st t (Obtain form number (too_long (want_of ask side))) room → AreaRoom st t (Obtain form number (with_any ask)) room
room_anywhere st t form number ask side room (s, of, is) = (s, of, room_so st s _ _ _ _ ask.start ask.within _ room is)

pub pool_room : (st : State) (t name : Name) (number size primary secondary : ℕ) (side : Side) (room : FreeSpace) → AreaRoom st t (Obtain Rc number (too_long (fixed_want 8 3 side))) room → PartRoom st t (Build name number size primary secondary loc.Any) primary size room
pool_room st t name number size primary secondary side room (s, of, is) = (refl, refl, (s, of, room_so st s _ _ _ _ 3 None Either room is))

-- ---- its reason

-- what is found of it
pub fits_so : (st : State) (t : Name) (request : Request) (form : Form) (number : ℕ) (ask : AskValue) (side : Side) (want : WantValue) (room : FreeSpace) (least : ℕ) (found : Option ℕ) → request ≡ Obtain form number ask → want ≡ want_of ask side
    → Explains st t (Obtain form number (too_long want)) Shortage (reason.Shortage room) → least ≡ want.least → found ≡ fitting least room.longest → FitsAnywhere st t request found
fits_so st t request form number ask side want room least found is wanted explains first same =
    subst (λ r. FitsAnywhere st t r found) (sym is) (
      room,
      room_anywhere st t form number ask side room (subst (λ w. AreaRoom st t (Obtain form number (too_long w)) room) wanted explains.1),
      same ∙ ap (λ n. fitting n room.longest) (first ∙ ap (λ (w : WantValue). w.least) wanted),
    )

-- what is found of a pool
pub pool_fits_so : (st : State) (t : Name) (request : Request) (name : Name) (number size primary secondary : ℕ) (l : Loc) (side : Side) (want : WantValue) (room : FreeSpace) (least : ℕ) (found : Option ℕ) → request ≡ Build name number size primary secondary l → want ≡ fixed_want 8 3 side
    → Explains st t (Obtain Rc number (too_long want)) Shortage (reason.Shortage room) → least ≡ part_length size primary → found ≡ fitting least room.longest → FitsAnywhere st t request found
pool_fits_so st t request name number size primary secondary l side want room least found is wanted explains first same =
    subst (λ r. FitsAnywhere st t r found) (sym is) (
      room,
      pool_room st t name number size primary secondary side room (subst (λ w. AreaRoom st t (Obtain Rc number (too_long w)) room) wanted explains.1),
      same ∙ ap (λ n. fitting n room.longest) first,
    )

pub lacks_room : (request : Request) (why : Reason) → ((room : FreeSpace) → why ≡ reason.Shortage room → ⊥) → refusal_of request why ≡ Shortage → ⊥
lacks_room request (reason.Shortage room) other is = other room refl
lacks_room request reason.NotActive other is = absurd (let e : ◌≡◌ {A = Refusal} refusal.NotActive refusal.Shortage = is in cc)
lacks_room request reason.InvalidNumber other is = absurd (let e : ◌≡◌ {A = Refusal} refusal.InvalidNumber refusal.Shortage = is in cc)
lacks_room request (reason.NoMember k short) other is = absurd (let e : ◌≡◌ {A = Refusal} (refusal.Member k) refusal.Shortage = is in cc)
lacks_room request (reason.NoPart cells size room) other is = absurd (let e : ◌≡◌ {A = Refusal} refusal.NoPart refusal.Shortage = is in cc)
lacks_room request (reason.OffDoubleword a) other is = absurd (let e : ◌≡◌ {A = Refusal} refusal.OffDoubleword refusal.Shortage = is in cc)
lacks_room request (reason.NoSubpool task) other is = absurd (let e : ◌≡◌ {A = Refusal} refusal.NoSubpool refusal.Shortage = is in cc)
lacks_room request (reason.NotHeld a h o) other is = absurd (let e : ◌≡◌ {A = Refusal} refusal.NotHeld refusal.Shortage = is in cc)
lacks_room request (reason.Overlap x y a) other is = absurd (let e : ◌≡◌ {A = Refusal} refusal.Overlap refusal.Shortage = is in cc)
lacks_room request reason.WholeOfZero other is = absurd (let e : ◌≡◌ {A = Refusal} refusal.WholeOfZero refusal.Shortage = is in cc)
lacks_room request reason.PoolInUse other is = absurd (let e : ◌≡◌ {A = Refusal} refusal.PoolInUse refusal.Shortage = is in cc)
lacks_room request reason.TooManyPools other is = absurd (let e : ◌≡◌ {A = Refusal} refusal.TooManyPools refusal.Shortage = is in cc)
lacks_room request reason.NoPool other is = absurd (let e : ◌≡◌ {A = Refusal} refusal.NoPool refusal.Shortage = is in cc)
lacks_room request reason.NoFreeCell other is = absurd (let e : ◌≡◌ {A = Refusal} refusal.NoFreeCell refusal.Shortage = is in cc)
lacks_room request (reason.NoTakenCell spot) other is = absurd (let e : ◌≡◌ {A = Refusal} refusal.NoTakenCell refusal.Shortage = is in cc)
lacks_room request reason.TaskInUse other is = absurd (let e : ◌≡◌ {A = Refusal} refusal.TaskInUse refusal.Shortage = is in cc)
lacks_room request reason.TooManyTasks other is = absurd (let e : ◌≡◌ {A = Refusal} refusal.TooManyTasks refusal.Shortage = is in cc)
lacks_room request (reason.NotOwned n o) other is = absurd (let e : ◌≡◌ {A = Refusal} refusal.NotOwned refusal.Shortage = is in cc)
lacks_room request (reason.ActiveSubtask task) other is = absurd (let e : ◌≡◌ {A = Refusal} refusal.ActiveSubtask refusal.Shortage = is in cc)
lacks_room request reason.Asked other is = absurd (let e : ◌≡◌ {A = Refusal} (refusal.Asked (requested_code request)) refusal.Shortage = is in cc)
lacks_room request (reason.NoAccess a h) other is = absurd (let e : ◌≡◌ {A = Refusal} refusal.NoAccess refusal.Shortage = is in cc)

-- ---- the law

fits : (least n m : ℕ) → Some m ≡ fitting least n → (least ≤ n) × (m ≡ n)
fits least n m is = at (nat_le least n) refl is where
  at : (b : Bool) → nat_le least n ≡ b → Some m ≡ (if b then Some n else None) → (least ≤ n) × (m ≡ n)
  at true h e = (grind (arith, common_steps), let f : ◌≡◌ {A = Option ℕ} (Some m) (Some n) = e in cc)
  at false h e = absurd (let f : ◌≡◌ {A = Option ℕ} (Some m) None = e in cc)

fits_not : (least n : ℕ) → None ≡ fitting least n → n < least
fits_not least n is = at (nat_le least n) refl is where
  at : (b : Bool) → nat_le least n ≡ b → None ≡ (if b then Some n else None) → n < least
  at true h e = absurd (let f : ◌≡◌ {A = Option ℕ} None (Some n) = e in cc)
  at false h e = grind (arith, common_steps)

round8_whole : (n : ℕ) → round8 n % 8 ≡ 0
round8_whole n = omega arith

-- a place of the greatest length has one of the requested length
some_place : (st : State) (s n : ℕ) (want : WantValue) → 1 ≤ want.least → IsLongest st.regions (holder st) s want n → want.least ≤ n → NoPlace st.regions (holder st) s want → ⊥
some_place st s n want some is long none = at is.placed where
  at : (n ≡ 0) ⊎ ((a : ℕ) × Places st.regions (holder st) s want n a) → ⊥
  at (inl e) = absurd (omega (arith, e, long, some))
  at (inr (a, p)) = none a (shorter_place st.regions (holder st) s want want.least n a some long p)

module _ (st : State) (t : Name) (form : Form) (number : ℕ) (ask : AskValue) (some : 1 ≤ ask.least) where
  abbrev any : WantValue
  any = want_of (with_any ask) (side_for st t form loc.Any)

  least_some : 1 ≤ round8 ask.least
  least_some = omega (arith, some)

  serves_so : (n : ℕ) → IsRefused st t (Obtain form number ask) Shortage → FitsAnywhere st t (Obtain form number ask) (Some n) → (x : Refusal) → IsRefused st t (Obtain form number (with_any ask)) x → ⊥
  serves_so n (inl h) f x again = absurd (let e : ◌≡◌ {A = Refusal} Shortage NotActive = h.1 in cc)
  serves_so n (inr (active, inl h)) f x again = absurd (let e : ◌≡◌ {A = Refusal} Shortage InvalidNumber = h.1 in cc)
  serves_so n (inr (active, inr (valid, inr h))) f x again = absurd h.1
  serves_so n (inr (active, inr (valid, inl h))) (room, (s, of, is), found) x (inl again) = true_false (sym again.0 ∙ active)
  serves_so n (inr (active, inr (valid, inl h))) (room, (s, of, is), found) x (inr (a, inl again)) = true_false (sym again.0 ∙ valid)
  serves_so n (inr (active, inr (valid, inl h))) (room, (s, of, is), found) x (inr (a, inr (v, inl ((s', of', none), e)))) =
      some_place st s room.longest any least_some is.longest (fits (round8 ask.least) room.longest n found).0 (subst (λ r. NoPlace st.regions (holder st) r any) (sym (one_subpool st.owners (effective_task st.owners t number) number s s' of of')) none)
  serves_so n (inr (active, inr (valid, inl h))) (room, (s, of, is), found) x (inr (a, inr (v, inr again))) = absurd again.1

  lacks_so : IsRefused st t (Obtain form number ask) Shortage → FitsAnywhere st t (Obtain form number ask) None → IsRefused st t (Obtain form number (with_any ask)) Shortage
  lacks_so (inl h) f = absurd (let e : ◌≡◌ {A = Refusal} Shortage NotActive = h.1 in cc)
  lacks_so (inr (active, inl h)) f = absurd (let e : ◌≡◌ {A = Refusal} Shortage InvalidNumber = h.1 in cc)
  lacks_so (inr (active, inr (valid, inr h))) f = absurd h.1
  lacks_so (inr (active, inr (valid, inl h))) (room, (s, of, is), found) =
      inr (active, inr (valid, inl ((s, of, λ a p. is.longest.greatest (round8 ask.least) a (round8_whole ask.least) (fits_not (round8 ask.least) room.longest found) p), refl)))

pub loc_any_serves : LocAnyServes
loc_any_serves st t form number ask some refused = record { serves = λ n f x again. serves_so st t form number ask some n refused f x again; lacks = λ f. lacks_so st t form number ask some refused f }

-- ---- the law of pools

part_whole : (size count : ℕ) → part_length size count % 8 ≡ 0
part_whole size count = omega arith

part_some : (size count : ℕ) → 1 ≤ part_length size count
part_some size count = omega arith

module _ (st : State) (t name : Name) (number size primary secondary : ℕ) (l : Loc) where
  abbrev part : WantValue
  part = part_want size primary Either

  abbrev as_written : Request
  as_written = Build name number size primary secondary l

  abbrev with_loc_any : Request
  with_loc_any = Build name number size primary secondary loc.Any

  pool_serves : (n : ℕ) → IsRefused st t as_written refusal.NoPart → FitsAnywhere st t as_written (Some n) → (x : Refusal) → IsRefused st t with_loc_any x → ⊥
  pool_serves n (inl h) f x again = absurd (let e : ◌≡◌ {A = Refusal} refusal.NoPart NotActive = h.1 in cc)
  pool_serves n (inr (active, inl h)) f x again = absurd (let e : ◌≡◌ {A = Refusal} refusal.NoPart InvalidNumber = h.1 in cc)
  pool_serves n (inr (active, inr (valid, inl h))) f x again = absurd (let e : ◌≡◌ {A = Refusal} refusal.NoPart refusal.PoolInUse = h.1 in cc)
  pool_serves n (inr (active, inr (valid, inr (unused, inl h)))) f x again = absurd (let e : ◌≡◌ {A = Refusal} refusal.NoPart refusal.TooManyPools = h.1 in cc)
  pool_serves n (inr (active, inr (valid, inr (unused, inr (few, inr h))))) f x again = absurd h.1
  pool_serves n (inr (active, inr (valid, inr (unused, inr (few, inl h))))) f x (inl again) = true_false (sym again.0 ∙ active)
  pool_serves n (inr (active, inr (valid, inr (unused, inr (few, inl h))))) f x (inr (a, inl again)) = true_false (sym again.0 ∙ valid)
  pool_serves n (inr (active, inr (valid, inr (unused, inr (few, inl h))))) f x (inr (a, inr (v, inl again))) = true_false (sym again.0 ∙ unused)
  pool_serves n (inr (active, inr (valid, inr (unused, inr (few, inl h))))) f x (inr (a, inr (v, inr (u, inl again)))) = true_false (sym again.0 ∙ few)
  pool_serves n (inr (active, inr (valid, inr (unused, inr (few, inl h))))) (room, (cells, bytes, (s, of, is)), found) x (inr (a, inr (v, inr (u, inr (w, inl ((s', of', none), e)))))) =
      some_place st s room.longest part (part_some size primary) is.longest (fits (part_length size primary) room.longest n found).0 (subst (λ r. NoPlace st.regions (holder st) r part) (sym (one_subpool st.owners (effective_task st.owners t number) number s s' of of')) none)
  pool_serves n (inr (active, inr (valid, inr (unused, inr (few, inl h))))) f x (inr (a, inr (v, inr (u, inr (w, inr again))))) = absurd again.1

  pool_lacks : IsRefused st t as_written refusal.NoPart → FitsAnywhere st t as_written None → IsRefused st t with_loc_any refusal.NoPart
  pool_lacks (inl h) f = absurd (let e : ◌≡◌ {A = Refusal} refusal.NoPart NotActive = h.1 in cc)
  pool_lacks (inr (active, inl h)) f = absurd (let e : ◌≡◌ {A = Refusal} refusal.NoPart InvalidNumber = h.1 in cc)
  pool_lacks (inr (active, inr (valid, inl h))) f = absurd (let e : ◌≡◌ {A = Refusal} refusal.NoPart refusal.PoolInUse = h.1 in cc)
  pool_lacks (inr (active, inr (valid, inr (unused, inl h)))) f = absurd (let e : ◌≡◌ {A = Refusal} refusal.NoPart refusal.TooManyPools = h.1 in cc)
  pool_lacks (inr (active, inr (valid, inr (unused, inr (few, inr h))))) f = absurd h.1
  pool_lacks (inr (active, inr (valid, inr (unused, inr (few, inl h))))) (room, (cells, bytes, (s, of, is)), found) =
      inr (active, inr (valid, inr (unused, inr (few, inl ((s, of, λ a p. is.longest.greatest (part_length size primary) a (part_whole size primary) (fits_not (part_length size primary) room.longest found) p), refl)))))

pub loc_any_serves_pools : LocAnyServesPools
loc_any_serves_pools st t name number size primary secondary l refused = record {
  serves = λ n f x again. pool_serves st t name number size primary secondary l n refused f x again;
  lacks = λ f. pool_lacks st t name number size primary secondary l refused f;
}
