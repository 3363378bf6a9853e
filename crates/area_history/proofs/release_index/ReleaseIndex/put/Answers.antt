use Rattle.std.proofs.Common.{◌≡◌, ◌+◌, ◌/◌, true, refl, sym, ap, subst, ◌∙◌}
use Rattle.area_history.specs.ReleaseIndex.{later_releases, releases_at}
use Rattle.area_history.specs.declared.release_index.LastReleases.{LastReleases}
use Rattle.area_history.proofs.Releasing.{releases_next}
use Rattle.area_history.proofs.Marking.{none_next, not_yet, same_of}
use Rattle.area_history.proofs.release_index.ReleaseIndex.put.Goals as goal

pub loop-k-init : goal.loop-k-init
loop-k-init c = record {
  releases = λ d. ap (λ b. later_releases b c.args.number (releases_at c.args.self.now d)) (sym (none_next (c.get.result / 8) d));
  room = λ d. refl;
  count = refl;
  kept = refl;
}

pub loop-k-preserved : goal.loop-k-preserved
loop-k-preserved c =
    let first = c.get.result / 8 in
    let start = c.args.self.now in
    let old = c.loop-k.invariant in
    let n = c.loop-k.k in
    let new = c.put_one.new.self in
    let number = c.args.number in
    let before : releases_at c.loop-k.self (first + n) ≡ releases_at start (first + n) = old.releases (first + n) ∙ ap (λ b. later_releases b number (releases_at start (first + n))) (not_yet first n) in
    let here : releases_at new (first + n) ≡ later_releases true number (releases_at start (first + n)) = c.put_one.ensures.at ∙ ap (λ (last : LastReleases). later_releases true number last) before in
    record {
      releases = λ d. releases_next first n d number (releases_at start d) (releases_at c.loop-k.self d) (releases_at new d) (old.releases d) (λ e. subst (λ k. releases_at new k ≡ later_releases true number (releases_at start k)) (sym (same_of d (first + n) e)) here) (λ e. c.put_one.ensures.others d e);
      room = λ d. c.put_one.ensures.room d ∙ old.room d;
      count = c.put_one.ensures.count ∙ old.count;
      kept = c.put_one.ensures.kept ∙ old.kept;
    }
