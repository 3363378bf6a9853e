use Rattle.std.proofs.Common.{Decides as Tests, ◌≡◌, ◌≤◌, ◌+◌, ◌-◌, ◌++◌, ap, arith, drop, length, refl, subst, sym, take, ◌∙◌, Some, None, [], true}
use Rattle.std.proofs.lemmas.List.{take_rest}
use Rattle.std.proofs.lemmas.Slice.Eq.{slice_eq-Decides}
use Rattle.judge.specs.Deciding.{InBounds, IsFollowed}
use Rattle.judge.proofs.Decided.{Follows, followed_same, follows_first, follows_next, follows_no_more, follows_open, follows_to_end, none_decided, same_test, some_decided}
use Rattle.judge.proofs.following.follow.Goals as goal

pub lines-init : goal.lines-init
lines-init c = record {
  follows = follows_first c.args.script.now c.args.output.now c.args.walk.now c.requires.first;
  within = omega arith;
  done = omega arith;
  number = let e : c.args.walk.now.number ≡ 1 = ap (λ w. w.number) c.requires.first in omega (arith, e);
  bounds = subst (λ w. InBounds w.step) (sym c.requires.first) tt;
  empty = c.new-empty.ensures.items;
}

pub returns-in_default : goal.returns-in_default
returns-in_default c =
    let d = none_decided _ _ _ c.in_default.is c.in_ok-decided.ensures.decided in
    followed_same c.args.script.now c.args.output.now c.decide.new.walk c.lines.at c.lines.at _ _ true true None None _ _ refl c.in_ok-joined.ensures refl refl c.number-line_number.ensures
    (follows_open c.args.script.now c.args.output.now _ _ [] c.lines.at c.lines.done 0 c.lines.walk c.decide.new.walk (take_rest c.args.script.now c.lines.at) (take_rest c.args.output.now c.lines.done) c.lines.invariant.follows d.0 d.1 (omega (arith, c.lines-test.true)) (omega (arith, c.lines.invariant.number)))

pub returns-then-not-follows : goal.returns-then-not-follows
returns-then-not-follows c =
    let d = some_decided _ _ _ c.in-Some.decided c.in-Some.is c.in_ok-decided.ensures.decided in
    let n = some_decided _ _ _ c.in-Some.decided c.in-Some.is c.in_ok-decided.ensures.taken in
    let p = c.in_ok-followed.ensures in
    let f = c.in_ok-followed.followed in
    let at : c.lines.at + c.in-Some.decided.taken ≤ length c.args.script.now + 1 = let t = n.1 in omega (arith, t, c.lines-test.true) in
    let trailing = c.within-rest.ensures.least at in
    followed_same c.args.script.now c.args.output.now c.decide.new.walk _ f.at _ f.text.items _ f.passes _ f.ended _ f.open_line p.0 p.1 p.2 p.3 (p.4 ∙ c.number-line_number.ensures)
    (follows_no_more c.args.script.now c.args.output.now _ _ c.in-Some.decided.served.text.items c.lines.at c.lines.done c.in-Some.decided.taken c.lines.walk c.decide.new.walk (take_rest c.args.script.now c.lines.at) (take_rest c.args.output.now c.lines.done) c.lines.invariant.follows
    c.within-rest.result c.within-rest.ensures.rest c.within-rest.ensures.most (let t = n.2 in omega (arith, t, trailing, c.lines.invariant.number))
    c.in-Some.decided.served.continues c.in-Some.decided.served.passes c.in-Some.decided.is_open (sym c.follows-follows.ensures ∙ c.if-not-follows.true) d)

pub lines-preserved : goal.lines-preserved
lines-preserved c =
    let d = some_decided _ _ _ c.in-Some.decided c.in-Some.is c.in_ok-decided.ensures.decided in
    let n = some_decided _ _ _ c.in-Some.decided c.in-Some.is c.in_ok-decided.ensures.taken in
    let f = follows_next c.args.script.now c.args.output.now _ _ c.in-Some.decided.served.text.items c.lines.at c.lines.done c.in-Some.decided.taken c.lines.walk c.decide.new.walk (take_rest c.args.script.now c.lines.at) (take_rest c.args.output.now c.lines.done) c.lines.invariant.follows
    c.in-Some.decided.served.continues c.in-Some.decided.served.passes c.in-Some.decided.is_open (sym c.follows-follows.ensures ∙ c.if-not-follows.false) d in
    let len : length c.as_slice.result.now ≡ length c.in-Some.decided.served.text.items = ap length c.as_slice.ensures.value in
    record {
      follows = subst (λ n. Follows c.args.script.now c.args.output.now (c.lines.at + c.in-Some.decided.taken) (c.lines.done + n) c.decide.new.walk) (sym len) f.0;
      within = let t = n.1 in omega (arith, t, c.lines-test.true);
      done = let t = f.1 in omega (arith, t, len, c.lines.invariant.done);
      number = let t = n.2 in omega (arith, t, c.lines.invariant.number);
      bounds = c.in_ok-decided.ensures.bounds;
      empty = c.emptied-empty.ensures;
    }

pub returns : goal.returns
returns c =
    subst (λ text. IsFollowed c.args.script.now c.args.output.now c.lines.walk 0 text c.eq.result (Some c.in_ok-outcome.outcome) 0) (sym (c.in_ok-joined-2.ensures ∙ ap (λ x. take c.lines.done c.args.output.now ++ x) c.deref.ensures.value))
    (follows_to_end c.args.script.now c.args.output.now c.lines.at c.lines.done c.lines.walk c.in_ok-outcome.last.items c.in_ok-outcome.outcome c.eq.result (omega (arith, c.lines-test.false)) c.lines.invariant.follows c.in_ok-outcome.ensures
    (subst (λ x. Tests c.eq.result (x ≡ c.in_ok-outcome.last.items)) (take_rest c.args.output.now c.lines.done) (subst (λ x. Tests c.eq.result (take (length c.args.output.now - c.lines.done) (drop c.lines.done c.args.output.now) ≡ x)) c.as_slice-2.ensures.value (slice_eq-Decides same_test _ _ c.eq.result c.eq.ensures))) 0 0)
