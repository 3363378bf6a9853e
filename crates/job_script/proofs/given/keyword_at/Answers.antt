use Rattle.std.proofs.Common.{◌≡◌, Some, map, sym, ◌∙◌}
use Rattle.std.specs.Prelude.{bytes_eq}
use Rattle.mvs_model.proofs.ReadingTaken.{bytes_same}
use Rattle.job_script.specs.Rows.{key_text, as_keyword}
use Rattle.job_script.specs.Places.{place_by}
use Rattle.job_script.proofs.KeyPlaces.{place_passes}
use Rattle.job_script.proofs.Taking.{row_place, place_kind, place_none, place_is}
use Rattle.job_script.proofs.given.keyword_at.Goals as goal

pub returns-in_err-place : goal.returns-in_err-place
returns-in_err-place c =
    rw c.from_residual.ensures (place_none (λ k. bytes_eq k.key c.args.key.now) (map as_keyword c.args.keywords.now) (sym (row_place c.args.keywords.now c.args.key.now) ∙ sym c.in_err-place.ensures.place))

pub returns : goal.returns
returns c =
    let kws = c.args.keywords.now in
    let text = c.args.key.now in
    let there : place_by (λ k. bytes_eq k.key text) (map as_keyword kws) ≡ Some c.in_ok-place.place = sym (row_place kws text) ∙ sym c.in_ok-place.ensures.place in
    let found : place_by (λ k. bytes_eq (key_text k.key) text) kws ≡ Some c.in_ok-place.place = sym (place_is (λ k. bytes_eq (key_text k.key) text) kws) ∙ sym c.in_ok-place.ensures.place in
    record {
      is = bytes_same _ text (place_passes (λ k. bytes_eq (key_text k.key) text) kws c.in_ok-place.place found _);
      kind_is = place_kind kws text c.in_ok-place.place there c.in_ok-place.ensures.within _;
    }
