use Rattle.std.proofs.Common.{◌≡◌, ◌+◌, ◌/◌, ◌==◌, ◌&&◌, ℕ, true, false, refl, sym, ap, subst, ◌∙◌}
use Rattle.std.specs.Prelude.{nat_le, nat_lt}
use Rattle.area_history.specs.LastAreas.{is_last, is_whole, numbers_at}
use Rattle.area_history.specs.declared.last_areas.LastNumbers.{LastNumbers}
use Rattle.area_history.proofs.Indexing.{put_if, put_next}
use Rattle.area_history.proofs.Marking.{none_next, not_yet, same_of}
use Rattle.area_history.proofs.Visibly.{and_both, next_last, none_has, swapped}
use Rattle.area_history.proofs.last_areas.LastAreas.put.Goals as goal

pub loop-k-init : goal.loop-k-init
loop-k-init c = record {
  numbers = λ d. ap (λ b. put_if b c.args.number (numbers_at c.args.self.now d)) (sym (none_next (c.get.result / 8) d));
  room = λ d. refl;
  whole = λ n h. (h, λ d e. none_has (c.get.result / 8) d e);
  count = refl;
  len = refl;
  visible = refl;
}

pub loop-k-preserved : goal.loop-k-preserved
loop-k-preserved c =
    let first = c.get.result / 8 in
    let start = c.args.self.now in
    let old = c.loop-k.invariant in
    let n_here = c.loop-k.k in
    let new = c.put_one.new.self in
    let number = c.args.number in
    let before : numbers_at c.loop-k.self (first + n_here) ≡ numbers_at start (first + n_here) = old.numbers (first + n_here) ∙ ap (λ b. put_if b number (numbers_at start (first + n_here))) (not_yet first n_here) in
    let here : numbers_at new (first + n_here) ≡ put_if true number (numbers_at start (first + n_here)) = c.put_one.ensures.at ∙ ap (λ (two : LastNumbers). put_if true number two) before in
    record {
      numbers = λ d. put_next first n_here d number (numbers_at start d) (numbers_at c.loop-k.self d) (numbers_at new d) (old.numbers d) (λ e. subst (λ k. numbers_at new k ≡ put_if true number (numbers_at start k)) (sym (same_of d (first + n_here) e)) here) (λ e. c.put_one.ensures.others d e);
      room = λ d. c.put_one.ensures.room d ∙ old.room d;
      whole = λ n h.
          let both = and_both (is_whole c.loop-k.self n) (n + 1 == (numbers_at c.loop-k.self (first + n_here)).latest) (sym (c.put_one.ensures.whole n) ∙ h) in
          let was = old.whole n both.0 in
          (was.0, λ d e. next_last first n_here d (is_last start n) (ap (λ (two : LastNumbers). two.latest == n + 1) (sym before) ∙ swapped n (numbers_at c.loop-k.self (first + n_here)).latest both.1) was.1 e);
      count = c.put_one.ensures.count ∙ old.count;
      len = c.put_one.ensures.len ∙ old.len;
      visible = c.put_one.ensures.visible ∙ old.visible;
    }
