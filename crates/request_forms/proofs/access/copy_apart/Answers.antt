use Rattle.std.proofs.Common.{◌≡◌, ◌<◌, ℕ, ◌+◌, ap, subst, length, sym, ◌∙◌}
use Rattle.std.specs.Prelude.{slice_get}
use Rattle.std.specs.FinMap.{get}
use Rattle.mvs_model.specs.Place.{PlaceValue, place_at}
use Rattle.subpool_store.specs.WrittenBytes.{Puts, written}
use Rattle.request_forms.proofs.Copying.{copied_put}
use Rattle.request_forms.specs.Access.{Copied}
use Rattle.request_forms.proofs.access.copy_apart.Goals as goal

pub returns : goal.returns
returns c =
    let old = c.args.store.now.storage in let w = c.copy_from_slice.new.self in let is = c.copy_from_slice.ensures.after in
    let from_is = c.new.ensures in let to_is = c.new-2.ensures in
    let size = ap length is ∙ c.two-target.ensures.len.0 ∙ ap (λ (p : PlaceValue). p.len) from_is in
    let target = c.two-target.ensures.written w (size ∙ sym (ap (λ (p : PlaceValue). p.len) to_is)) in
    subst (λ (p : PlaceValue). Copied old c.args.to c.args.from c.args.len (written old p w)) (sym to_is)
    (copied_put old c.args.to c.args.from c.args.len w (written old (place_at c.args.to c.args.len) w) size
    (λ k low. ap (λ l. slice_get l k) is ∙ subst (λ (p : PlaceValue). slice_get c.two-target.result.0.now k ≡ get old.bytes (p.addr + k)) from_is (c.two-target.ensures.source_bytes k (subst (λ (n : ℕ). k < n) (sym (ap (λ (p : PlaceValue). p.len) from_is)) low)))
    (subst (λ (p : PlaceValue). Puts old p w (written old p w)) to_is target))
