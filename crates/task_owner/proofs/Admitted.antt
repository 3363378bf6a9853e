-- All that the admission of a subtask ensures, of the value of `Tasks`.
use Rattle.std.proofs.Common.{◌≡◌, ◌≢◌, ℕ, ◌<◌, true, false, List, Option, Some, None, is_some, sym, ap, subst, ◌∙◌}
use Rattle.std.specs.Option.{option_map}
use Rattle.std.specs.FinMap.{get}
use Rattle.slab.specs.Slab.{Slab, get as slot}
use Rattle.mvs_model.specs.declared.name.Name.{Name}
use Rattle.mvs_model.specs.declared.want.Residence.{Residence}
use Rattle.mvs_model.specs.Gifts.{GiftsValue, gives}
use Rattle.mvs_model.specs.Owners.{is_active, gives_shared}
use Rattle.task_owner.specs.Tasks.{TasksValue, name_at, IsTask, name_of}
use Rattle.task_owner.specs.Seats.{item_at, number_of, entry_of, owner_name, directory, IsSound}
use Rattle.task_owner.specs.Handing.{Leaves, Admits, taken, passed_on}
use Rattle.task_owner.specs.declared.task_slot.TaskSlot.{TaskSlot}
use Rattle.task_owner.specs.declared.task_slot.Owned.{Owned}
use Rattle.task_owner.proofs.Having.{gives_low}
use Rattle.task_owner.proofs.Reading.{the_seat, name_is, a_task, found, view-entry, view-owner}
use Rattle.task_owner.proofs.Entering.{owns_given}
use Rattle.task_owner.proofs.Admitting.{admitted_sound, admits, named_here, nobody_before, others_named}

-- what callers learn, and that the fields are sound
pub record AdmitsAt (d : TasksValue) (t name : Name) (gifts : GiftsValue) (residence : Residence) (key : ℕ) (next : List (Option TaskSlot)) (left : List (Option Owned)) : Type 0 where
  pub sound : IsSound next left
  pub admits : Admits d.owners t name gifts residence (directory next left).owners
  pub named : name_at (directory next left) key ≡ Some name
  pub fresh : name_at d key ≡ None
  pub others : (k : ℕ) → k ≢ key → name_at (directory next left) k ≡ name_at d k

module _ (old now next : Slab TaskSlot) (owned left : List (Option Owned)) (d : TasksValue) (m id : ℕ) (e : directory old.slots owned ≡ d) (f : m ≡ id) (sound : IsSound old.slots owned) (active : IsTask d id)
    (name : Name) (gifts : GiftsValue) (residence : Residence) (numbers : List (Option ℕ)) (key : ℕ) (inactive : is_active d.owners name ≡ false) (owns : gives_shared d.owners (name_of d id) gifts ≡ false)
    (takes : (x : TaskSlot) → slot old m ≡ Some x → (n : ℕ) → n < 133 → item_at numbers n ≡ taken gifts x.numbers n)
    (left_here : (x : TaskSlot) → slot old m ≡ Some x → (y : TaskSlot) × (slot now m ≡ Some y) × Leaves gifts x y)
    (others : (k : ℕ) → k ≢ m → slot now k ≡ slot old k) (vacant : slot now key ≡ None)
    (here : slot next key ≡ Some (record { name = name; mother = Some m; residence = residence; numbers = numbers })) (rest : (k : ℕ) → k ≢ key → slot next k ≡ slot now k)
    (passed : (s : ℕ) → item_at left s ≡ passed_on gifts m key (item_at owned s)) where
  x : (x : TaskSlot) × (item_at old.slots m ≡ Some x)
  x = the_seat old.slots owned d m id e f active

  named : x.0.name ≡ name_of d id
  named = sym (name_is old.slots owned d m id e f sound x.0 x.1)

  new : (k : ℕ) (y : TaskSlot) → item_at old.slots k ≡ Some y → y.name ≢ name
  new k y h q = let g : true ≡ false = sym (ap is_some (a_task old.slots owned d k y e sound h)) ∙ ap (λ t. is_some (get d.owners.tasks t)) q ∙ inactive in cc

  given : gives_shared (directory old.slots owned).owners x.0.name gifts ≡ false
  given = ap (λ (v : TasksValue). gives_shared v.owners x.0.name gifts) e ∙ ap (λ t. gives_shared d.owners t gifts) named ∙ owns

  own : (n r : ℕ) (o : Owned) → gives gifts n ≡ true → number_of x.0 n ≡ Some r → item_at owned r ≡ Some o → o.owner ≡ m
  own n r o g h q =
      let z = sound.owners r o q in
      let there : get (directory old.slots owned).owners.owner r ≡ Some x.0.name =
      owns_given x.0.name gifts (directory old.slots owned).owners given n r (gives_low gifts n g) g (view-entry old.slots owned x.0.name n ∙ ap (λ v. entry_of v n) (found old.slots m x.0 sound.distinct x.1) ∙ h) in
      let same : Some z.0.name ≡ Some x.0.name = sym (view-owner old.slots owned r ∙ ap (owner_name old.slots) q ∙ ap (option_map (λ (v : TaskSlot). v.name)) z.1) ∙ there in
      let alike : z.0.name ≡ x.0.name = cc in
      sound.distinct o.owner m z.0 x.0 z.1 x.1 alike

  at_view : AdmitsAt (directory old.slots owned) x.0.name name gifts residence key next.slots left
  at_view = record {
    sound = admitted_sound old.slots now.slots next.slots owned left m key x.0 name residence numbers gifts sound x.1 (left_here x.0 x.1) others vacant here rest (takes x.0 x.1) passed new own;
    admits = admits old.slots now.slots next.slots owned left m key x.0 name residence numbers gifts sound x.1 (left_here x.0 x.1) others vacant here rest (takes x.0 x.1) passed new own;
    named = named_here old.slots now.slots next.slots owned left m key x.0 name residence numbers gifts sound x.1 (left_here x.0 x.1) others vacant here rest (takes x.0 x.1) passed new own;
    fresh = nobody_before old.slots now.slots next.slots owned left m key x.0 name residence numbers gifts sound x.1 (left_here x.0 x.1) others vacant here rest (takes x.0 x.1) passed new own;
    others = others_named old.slots now.slots next.slots owned left m key x.0 name residence numbers gifts sound x.1 (left_here x.0 x.1) others vacant here rest (takes x.0 x.1) passed new own;
  }

  pub admitted : AdmitsAt d (name_of d id) name gifts residence key next.slots left
  admitted = subst (λ t. AdmitsAt d t name gifts residence key next.slots left) named (subst (λ (v : TasksValue). AdmitsAt v x.0.name name gifts residence key next.slots left) e at_view)
