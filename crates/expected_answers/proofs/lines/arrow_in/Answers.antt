use Rattle.std.proofs.Common.{arith, sym, ◌∙◌}
use Rattle.std.proofs.lemmas.List.{take_rest}
use Rattle.expected_answers.proofs.Arrows.{found_arrow, inside, no_arrow, other_byte}
use Rattle.expected_answers.proofs.lines.arrow_in.Goals as goal

pub heads-init : goal.heads-init
heads-init c = record {
  within = omega arith;
  none = λ k h o. absurd (omega (arith, h));
}

pub heads-preserved : goal.heads-preserved
heads-preserved c = record {
  within = let h = inside c.args.line.now _ c.heads.from (take_rest c.args.line.now c.heads.from) c.heads.invariant.within c.heads.invariant.none c.in-Some.place c.in-Some.ensures in omega (arith, h);
  none = other_byte c.args.line.now _ c.heads.from (take_rest c.args.line.now c.heads.from) c.heads.invariant.within c.heads.invariant.none c.in-Some.place c.in-Some.ensures (sym c.ends_arrow.ensures.value ∙ c.if-ends_arrow.false);
}

pub returns-then-ends_arrow : goal.returns-then-ends_arrow
returns-then-ends_arrow c = found_arrow c.args.line.now _ c.heads.from (take_rest c.args.line.now c.heads.from) c.heads.invariant.within c.heads.invariant.none c.in-Some.place c.in-Some.ensures (sym c.ends_arrow.ensures.value ∙ c.if-ends_arrow.true) (c.ends_arrow.ensures.front c.if-ends_arrow.true)

pub returns : goal.returns
returns c = no_arrow c.args.line.now _ c.heads.from (take_rest c.args.line.now c.heads.from) c.heads.invariant.within c.heads.invariant.none c.in_default.ensures
