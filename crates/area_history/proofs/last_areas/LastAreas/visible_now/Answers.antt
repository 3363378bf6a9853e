use Rattle.std.proofs.Common.{◌≡◌, ◌+◌, ◌<◌, ◌≤◌, ◌++◌, ◌∷◌, length, drop, get_or, suc, sym, ap, subst, ◌∙◌, arith}
use Rattle.std.proofs.lemmas.Option.{slice_get-get_or}
use Rattle.std.proofs.Math.Seq.{drop-cons}
use Rattle.area_history.specs.LastAreas.{AreVisible}
use Rattle.area_history.proofs.Visibly.{kept_next, number_within}
use Rattle.area_history.proofs.last_areas.LastAreas.visible_now.Goals as goal

pub bounds-grants-number : goal.bounds-grants-number
bounds-grants-number c =
    let last = number_within c.args.self.now c.args.grants.now c.as_slice-numbers.result.now c.areas.done c.requires c.as_slice-numbers.ensures.value c.areas-test.true in
    let most = c.requires.count in
    omega (arith, last, most)

pub bounds-grants-number-in-areas : goal.bounds-grants-number-in-areas
bounds-grants-number-in-areas c =
    let last = number_within c.args.self.now c.args.grants.now c.as_slice-numbers.result.now c.areas.done c.requires c.as_slice-numbers.ensures.value c.areas-test.true in
    let most = c.requires.count in
    omega (arith, last, most)

pub keep_visible-requires : goal.keep_visible-requires
keep_visible-requires c =
    let last = number_within c.args.self.now c.args.grants.now c.as_slice-numbers.result.now c.areas.done c.requires c.as_slice-numbers.ensures.value c.areas-test.true in
    omega (arith, last)

pub areas-preserved : goal.areas-preserved
areas-preserved c =
    let last = c.args.self.now in
    let grants = c.args.grants.now in
    let numbers = c.as_slice-numbers.result.now in
    let done = c.areas.done in
    let less = c.areas-test.true in
    let n = get_or numbers done 0 in
    let x = c.index-grants-number.result in
    let small = number_within last grants numbers done c.requires c.as_slice-numbers.ensures.value less in
    let most = c.requires.count in
    let here : n < length grants = omega (arith, small, most) in
    let cut : drop done numbers ≡ n ∷ drop (done + 1) numbers = drop-cons numbers done 0 less ∙ ap (λ k. n ∷ drop k numbers) (let e : suc done ≡ done + 1 = omega arith in e) in
    record {
      within = omega (arith, less);
      kept = kept_next last grants c.areas.kept.items c.keep_visible.new.kept.items n (drop (done + 1) numbers) last.count (get_or grants n x) (slice_get-get_or grants n x here) (subst (λ l. AreVisible last grants 0 (c.areas.kept.items ++ l) last.count) cut c.areas.invariant.kept) c.in_ok-keep_visible.ensures;
    }
