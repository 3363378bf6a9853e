use Rattle.std.proofs.Common.{◌≡◌, ◌∷◌, ◌++◌, [], Bool, true, false, List, sym, subst, ◌∙◌, if◌then◌else◌}
use Rattle.std.specs.Prelude.{is_ok}
use Rattle.area_history.specs.declared.grant.AreaGrant.{AreaGrant}
use Rattle.area_history.specs.LastAreas.{IsIndexOf}
use Rattle.area_history.specs.Leaking.{Fit, HasRoom}
use Rattle.area_history.proofs.Indexing.{index_more}
use Rattle.area_history.proofs.Tallying.{fit_longer, fit_more}
use Rattle.area_history.proofs.history.AreaHistory.push.Goals as goal

pub invariant_of-self-2 : goal.invariant_of-self-2
invariant_of-self-2 c =
    let grants = c.self.inside.grants.items in
    let g = c.args.grant.now in
    let marks = c.grow.new.self in
    let index = c.self.inside.last_areas in
    let room : HasRoom marks g.place = c.in_ok-grow.ensures.room in
    let fit : Fit marks grants = fit_longer c.self.inside.marks marks grants c.grow.ensures.kept c.self.invariant.1 in
    let both = either (λ l. Fit marks l × IsIndexOf index l) (is_ok c.push.result) (grants ++ g ∷ []) grants (fit_more marks grants g fit room, index_more index grants (g ∷ []) c.self.invariant.2) (fit, c.self.invariant.2) in
    let kept = subst (λ l. Fit marks l × IsIndexOf index l) (sym c.push.ensures.items) both in
    ((λ d. c.grow.ensures.values d ∙ c.self.invariant.0 d), kept.0, kept.1)
  where
    either : (P : List AreaGrant → Type 0) (b : Bool) (more less : List AreaGrant) → P more → P less → P (if b then more else less)
    either P true more less h k = h
    either P false more less h k = k
