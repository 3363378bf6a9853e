use Rattle.std.proofs.Common.{◌≡◌, ◌+◌, ◌/◌, ◌&&◌, ◌||◌, ◌==◌, ◌≤◌, ℕ, Bool, not, true, false, cond, refl, sym, ap, ◌∙◌, arith}
use Rattle.std.specs.Prelude.{nat_le, nat_lt}
use Rattle.mvs_model.specs.Finite.{count_below}
use Rattle.area_history.specs.Leaking.{is_marked}
use Rattle.area_history.proofs.Marking.{count_next, count_none, is_next, marks_next, none_next, not_yet, same_of}
use Rattle.area_history.proofs.marks.ByDoubleword+bool.take.Goals as goal

pub loop-k-init : goal.loop-k-init
loop-k-init g c = record {
  few = omega arith;
  counted = count_none (λ k. g.P.Holdings.plain c.args.step.now (c.get.result / 8 + k) && not (is_marked c.args.self.now (c.get.result / 8 + k)));
  marks = λ d. ap (λ b. b || is_marked c.args.self.now d) (sym (none_next (c.get.result / 8) d));
  room = λ d. refl;
}

pub loop-k-preserved : goal.loop-k-preserved
loop-k-preserved g c =
    let first = c.get.result / 8 in
    let start = c.args.self.now in
    let test : ℕ → Bool = λ k. g.P.Holdings.plain c.args.step.now (first + k) && not (is_marked start (first + k)) in
    let old = c.loop-k.invariant in
    let n = c.loop-k.k in
    let here : is_marked c.loop-k.self (first + n) ≡ is_marked start (first + n) = old.marks (first + n) ∙ ap (λ b. b || is_marked start (first + n)) (not_yet first n) in
    let one : c.take_one-left.result ≡ cond (test n) 1 0 = c.take_one-left.ensures.count ∙ ap (λ b. cond (g.P.Holdings.plain c.args.step.now (first + n) && not b) 1 0) here in
    record {
      few = omega (arith, old.few, c.take_one-left.ensures.most);
      counted = count_next n c.loop-k.left c.take_one-left.result test old.counted one;
      marks = λ d. marks_next first n d (is_marked start d) (is_marked c.loop-k.self d) (is_marked c.take_one-left.new.self d) (old.marks d) (λ e. ap (λ k. is_marked c.take_one-left.new.self k) (same_of d (first + n) e) ∙ c.take_one-left.ensures.at) (λ e. c.take_one-left.ensures.others d e);
      room = λ d. c.take_one-left.ensures.room d ∙ old.room d;
    }
