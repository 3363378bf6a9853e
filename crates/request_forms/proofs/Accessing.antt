-- What a request for bytes is answered.
use Rattle.std.proofs.Common.{inl, not, ◌≡◌, ℕ, ◌+◌, ◌-◌, ◌≤◌, Bool, true, false, cond, List, length, Option, Ok, Err, refl, sym, ap, subst, ◌∙◌}
use Rattle.std.specs.Prelude.{◌&&◌, ◌↔◌, IsTrue, MatchBool}
use Rattle.std.proofs.lemmas.Bool.{and_from}
use Rattle.mvs_model.specs.declared.name.Name.{Name}
use Rattle.std.specs.FinMap.{FinMap, get}
use Rattle.mvs_model.specs.declared.request.Reply.TheVariants.{Done}
use Rattle.mvs_model.specs.declared.request.Request.TheVariants.{Show, Put, Move}
use Rattle.mvs_model.specs.Place.{PlaceValue, place_at}
use Rattle.mvs_model.specs.Storage.{Storage, IsStorage, AllHeld, has_address}
use Rattle.mvs_model.specs.Owners.{Owners}
use Rattle.mvs_model.specs.Name.{name_cmp}
use Rattle.mvs_model.specs.View.{state_of}
use Rattle.cell_pool.specs.Agree.{Agree}
use Rattle.cell_pool.specs.Roots.{Root, pools_of}
use Rattle.cell_pool.proofs.Counted.{all_kept as parts_carry_pools}
use Rattle.cell_pool.proofs.Keeping.{write_keeps}
use Rattle.mvs_model.specs.Changes.{Granted, Writes}
use Rattle.mvs_model.specs.Requests.{all_granted, bytes_from, moved_from}
use Rattle.mvs_model.specs.Causes.{Passed, Refused, access_causes}
use Rattle.mvs_model.specs.Steps.{Tries}
use Rattle.mvs_model.specs.declared.refusal.Refusal.TheVariants.{NoAccess}
use Rattle.mvs_model.proofs.SeenAccess.{all_granted_is, granted_all, not_granted, granted_place, puts_seen, moves_seen}
use Rattle.subpool_store.specs.WrittenBytes.{Puts}
use Rattle.request_forms.specs.Access.{Copied}
use Rattle.request_forms.specs.Machine.{machine_state}
use Rattle.request_forms.proofs.Pooling.{stands}

-- an access that is not allowed is refused, and one that is allowed passes
denied : (allowed : Bool) → allowed ≡ false → Refused (access_causes allowed) NoAccess
denied allowed e = inl (ap not e, refl)

may : (allowed : Bool) → allowed ≡ true → Passed (access_causes allowed)
may allowed e = (ap not e, tt)

-- what a test of a place says
pub may_as : (P : PlaceValue → Type 0) (b : Bool) (p q : PlaceValue) → p ≡ q → (IsTrue b ↔ P p) → b ≡ true → P q
may_as P b p q e h is = subst P e (h.0 is)

pub not_as : (P : PlaceValue → Type 0) (b : Bool) (p q : PlaceValue) → p ≡ q → (IsTrue b ↔ P p) → b ≡ false → P q → ⊥
not_as P b p q e h is held = absurd (let f : b ≡ true = h.1 (subst P (sym e) held) in let g : true ≡ false = sym f ∙ is in cc)

module _ (roots : FinMap name_cmp Root) (st : Storage) (agree : Agree roots st) (o : Owners) where
  -- each doubleword of a place that may be accessed is held
  pub held_place : (p : PlaceValue) → 1 ≤ p.len → Granted (machine_state roots st o) p → AllHeld st p
  held_place p some h = granted_place st o (pools_of roots st) agree.parts.storage p some (stands roots st o agree) h

  -- what is written there leaves the pools as they are
  module _ (new : Storage) (p : PlaceValue) (value : ℕ → Option ℕ) (now : IsStorage new) (regions : new.regions ≡ st.regions) (held : new.held ≡ st.held) (bytes : (a : ℕ) → get new.bytes a ≡ cond (has_address p a) (value a) (get st.bytes a)) (may : Granted (machine_state roots st o) p) where
    pub write_agrees : Agree roots new × (pools_of roots new ≡ pools_of roots st)
    write_agrees = parts_carry_pools roots st new agree (write_keeps roots st new p value o agree now regions held bytes may)

  pub put_agrees : (new : Storage) (p : PlaceValue) (bytes : List ℕ) → Puts st p bytes new → Granted (machine_state roots st o) p → Agree roots new
  put_agrees new p bytes puts h = (write_agrees new p _ puts.storage puts.regions puts.held puts.bytes h).0

  pub copy_agrees : (new : Storage) (to from n : ℕ) → Copied st to from n new → Granted (machine_state roots st o) (place_at to n) → Agree roots new
  copy_agrees new to from n copied h = (write_agrees new (place_at to n) (λ x. get st.bytes (from + (x - to))) copied.storage copied.regions copied.held copied.bytes h).0

  -- bytes that are put over those of a place are written there
  put_written : (new : Storage) (p : PlaceValue) (bytes : List ℕ) → length bytes ≡ p.len → Granted (machine_state roots st o) p → Puts st p bytes new → Writes (machine_state roots st o) p (bytes_from p.addr bytes) (machine_state roots new o)
  put_written new p bytes len h puts = subst (λ n. Granted (machine_state roots st o) (place_at p.addr n) → Puts st (place_at p.addr n) bytes new → Writes (machine_state roots st o) (place_at p.addr n) (bytes_from p.addr bytes) (machine_state roots new o)) len
      (λ h puts. subst (λ pools. Writes (machine_state roots st o) (place_at p.addr (length bytes)) (bytes_from p.addr bytes) (state_of new o pools)) (sym (write_agrees new (place_at p.addr (length bytes)) _ puts.storage puts.regions puts.held puts.bytes h).1)
      (puts_seen st o (pools_of roots st) agree.parts.storage new p.addr bytes puts.storage h puts.regions puts.held puts.bytes)) h puts

  -- what a write tells
  pub write_events : (written : Bool) (new : Storage) (p : PlaceValue) (bytes : List ℕ) → length bytes ≡ p.len
      → MatchBool written (Granted (machine_state roots st o) p × Puts st p bytes new) ((Granted (machine_state roots st o) p → ⊥) × (new ≡ st))
      → MatchBool written (Granted (machine_state roots st o) p × Writes (machine_state roots st o) p (bytes_from p.addr bytes) (machine_state roots new o)) ((Granted (machine_state roots st o) p → ⊥) × (machine_state roots new o ≡ machine_state roots st o))
  write_events true new p bytes len (h, puts) = (h, put_written new p bytes len h puts)
  write_events false new p bytes len (none, same) = (none, ap (λ s. machine_state roots s o) same)

  module _ (t : Name) where
    pub show_denied : (from n : ℕ) → (Granted (machine_state roots st o) (place_at from n) → ⊥) → Tries {A = Unit {0}} (λ _. Done) (machine_state roots st o) t (Show from n) (Err NoAccess) (machine_state roots st o)
    show_denied from n none = (denied _ (not_granted st o (pools_of roots st) agree.parts.storage (place_at from n) none), refl)

    pub show_done : (from n : ℕ) → Granted (machine_state roots st o) (place_at from n) → Tries {A = Unit {0}} (λ _. Done) (machine_state roots st o) t (Show from n) (Ok tt) (machine_state roots st o)
    show_done from n h = (may _ (all_granted_is st o (pools_of roots st) agree.parts.storage (place_at from n) h), (refl, refl))

    pub put_denied : (to : ℕ) (bytes : List ℕ) → (Granted (machine_state roots st o) (place_at to (length bytes)) → ⊥) → Tries {A = Unit {0}} (λ _. Done) (machine_state roots st o) t (Put to bytes) (Err NoAccess) (machine_state roots st o)
    put_denied to bytes none =
        (denied _ (not_granted st o (pools_of roots st) agree.parts.storage (place_at to (length bytes)) none), refl)

    pub put_done : (new : Storage) (to : ℕ) (bytes : List ℕ) → Granted (machine_state roots st o) (place_at to (length bytes)) → Puts st (place_at to (length bytes)) bytes new → Tries {A = Unit {0}} (λ _. Done) (machine_state roots st o) t (Put to bytes) (Ok tt) (machine_state roots new o)
    put_done new to bytes h puts =
        (may _ (all_granted_is st o (pools_of roots st) agree.parts.storage (place_at to (length bytes)) h), (refl, put_written new (place_at to (length bytes)) bytes refl h puts))

    pub move_denied : (to from n : ℕ) → (Granted (machine_state roots st o) (place_at to n) × Granted (machine_state roots st o) (place_at from n) → ⊥) → Tries {A = Unit {0}} (λ _. Done) (machine_state roots st o) t (Move to from n) (Err NoAccess) (machine_state roots st o)
    move_denied to from n none = (
      denied _ (at (all_granted (machine_state roots st o) (place_at to n)) (all_granted (machine_state roots st o) (place_at from n))
          (λ e f. none (granted_all st o (pools_of roots st) agree.parts.storage (place_at to n) e, granted_all st o (pools_of roots st) agree.parts.storage (place_at from n) f))),
      refl,
    ) where
      at : (a b : Bool) → (a ≡ true → b ≡ true → ⊥) → (a && b) ≡ false
      at true true h = absurd (h refl refl)
      at true false h = refl
      at false b h = refl

    pub move_done : (new : Storage) (to from n : ℕ) → Granted (machine_state roots st o) (place_at to n) → Granted (machine_state roots st o) (place_at from n) → Copied st to from n new → Tries {A = Unit {0}} (λ _. Done) (machine_state roots st o) t (Move to from n) (Ok tt) (machine_state roots new o)
    move_done new to from n target source copied = (
      may _ (and_from _ _ (all_granted_is st o (pools_of roots st) agree.parts.storage (place_at to n) target) (all_granted_is st o (pools_of roots st) agree.parts.storage (place_at from n) source)),
      (
        refl,
        subst (λ pools. Writes (machine_state roots st o) (place_at to n) (moved_from (machine_state roots st o) to from) (state_of new o pools)) (sym (write_agrees new (place_at to n) (λ x. get st.bytes (from + (x - to))) copied.storage copied.regions copied.held copied.bytes target).1)
            (moves_seen st o (pools_of roots st) agree.parts.storage new to from n copied.storage target source copied.regions copied.held copied.bytes),
      ),
    )
