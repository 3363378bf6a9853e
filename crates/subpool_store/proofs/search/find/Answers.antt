use Rattle.std.proofs.Common.{◌≡◌, ◌≤◌, length, ◌∙◌, None, refl, sym, subst}
use Rattle.mvs_model.specs.Place.{PlaceValue}
use Rattle.subpool_store.specs.PageWalk.{looked_at}
use Rattle.subpool_store.specs.Search.{may_take, CandidatesAfterBest, Beats, IsCandidate}
use Rattle.subpool_store.proofs.Begun.{counted_some, counted_within, least_length}
use Rattle.subpool_store.proofs.Scan.{best_anywhere, best_after, best_found, best_of_all}
use Rattle.subpool_store.proofs.search.find.Goals as goal

pub runs-init : goal.runs-init
runs-init c =
    let test = may_take c.args.memory.now.held c.args.pages.now c.args.subpool in record {
      walk = c.new-walk.ensures.walk;
      found = tt;
      trailing = subst (CandidatesAfterBest test c.args.first c.args.want.now None) (sym c.new-walk.ensures.start) (best_anywhere test c.args.first c.args.want.now c.only_length-only.ensures.wanted.some);
    }

pub runs-preserved : goal.runs-preserved
runs-preserved c =
    let test = may_take c.args.memory.now.held c.args.pages.now c.args.subpool in
    let k = c.in-Some.ensures.run in
    let e = c.preferred-best.ensures in record {
      walk = c.next_run.ensures.walk;
      found = best_found test c.args.first c.least_doublewords-least.result c.args.want.now _ _ _ _ c.run_place.result c.runs.best c.preferred-best.result c.best_in.result k c.run_place.ensures.addr c.run_place.ensures.len c.best_in.ensures e.either c.runs.invariant.found;
      trailing = best_after test c.args.first c.least_doublewords-least.result c.args.want.now _ _ _ _ c.run_place.result c.runs.best c.preferred-best.result c.best_in.result k c.only_length-only.ensures.wanted.some c.least_doublewords-least.ensures.least c.run_place.ensures.addr c.run_place.ensures.len c.best_in.ensures e.one e.other c.runs.invariant.trailing;
    }

pub returns-clause-longest : goal.returns-clause-longest
returns-clause-longest c =
    let test = may_take c.args.memory.now.held c.args.pages.now c.args.subpool in
    subst (λ b. (q : PlaceValue) → IsCandidate test c.args.first c.args.want.now q → Beats b q.len) (sym c.new-2.ensures.place)
    (best_of_all test c.args.first c.least_doublewords-least.result c.args.want.now c.runs.best _ c.least_doublewords-least.ensures.least c.in_default.ensures.run c.runs.invariant.trailing)

pub returns-then-is_final-clause-counted : goal.returns-then-is_final-clause-counted
returns-then-is_final-clause-counted c =
    let m = c.args.memory.now in let pages = c.args.pages.now in let s = c.args.subpool in let w = c.next_run.new.self in let walk = c.next_run.ensures.walk in
    let steps : c.new.result.steps ≡ looked_at m pages s w.end = c.new.ensures.steps ∙ walk.counted in record {
      some = λ some. subst (λ n. 1 ≤ n) (sym steps) (counted_some m pages s w.end c.requires.exact.sizes walk.within some);
      at_most = subst (λ n. n ≤ looked_at m pages s (length m.held)) (sym steps) (counted_within m pages s w.end c.requires.exact.sizes walk.within);
      all = λ none. absurd (subst (λ p. Beats p c.args.want.now.least) (sym c.new.ensures.place ∙ none) (c.if-is_final.ensures.longest refl c.args.want.now.least (least_length c.args.want.now c.only_length-only.ensures.wanted)));
    }
