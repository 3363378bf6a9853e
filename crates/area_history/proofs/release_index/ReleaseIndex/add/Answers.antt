use Rattle.std.proofs.Common.{◌≡◌, ◌+◌, ℕ, true, refl, sym, ap, subst, ◌∙◌}
use Rattle.area_history.specs.Leaking.{value_at}
use Rattle.area_history.specs.ReleaseIndex.{has_code, no_releases, later_releases, releases, releases_at}
use Rattle.area_history.proofs.Releasing.{change_added, index_kept, item_here, none_released, of_result, release_concerns}
use Rattle.area_history.proofs.release_index.ReleaseIndex.add.Goals as goal

pub returns-in-Released-clause-index : goal.returns-in-Released-clause-index
returns-in-Released-clause-index c =
    let old = c.args.self.now in
    let new = c.add_release.new.self in
    let events = c.args.events.now in
    let x = c.index-events-self.result in
    let made = c.add_release.ensures in
    let is = c.in-Released.is in
    of_result c.add_release.result
    (λ e. change_added events old.count x (item_here events old.count x c.requires.next c.index-events-self.is) old new refl c.requires.index c.requires.next (made.count e) (λ code h. subst (λ o. has_code o code ≡ true) (sym made.kept) h) (λ owner n con. release_concerns x _ owner n _ is con)
    (λ d. made.releases e d ∙ ap (λ h. later_releases (releases d h) (old.count + 1) (releases_at old d)) (sym is)))
    (λ e. index_kept old new events c.requires.index (made.same_count e) (λ code h. subst (λ o. has_code o code ≡ true) (sym made.kept) h) (made.same e))

pub returns-in-Emptied-clause-index : goal.returns-in-Emptied-clause-index
returns-in-Emptied-clause-index c =
    let old = c.args.self.now in
    let new = c.add_other.new.self in
    let events = c.args.events.now in
    let x = c.index-events-self.result in
    let made = c.add_other.ensures in
    let same : (d : ℕ) → releases_at new d ≡ releases_at old d = λ d. ap (λ v. value_at v no_releases d) made.releases in
    of_result c.add_other.result
    (λ e. change_added events old.count x (item_here events old.count x c.requires.next c.index-events-self.is) old new refl c.requires.index c.requires.next (made.count e) made.kept (made.added e)
    (λ d. same d ∙ ap (λ b. later_releases b (old.count + 1) (releases_at old d)) (sym (none_released d _ c.in-Emptied.is))))
    (λ e. index_kept old new events c.requires.index (made.same_count e) made.kept same)
