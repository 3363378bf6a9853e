use Rattle.std.proofs.Common.{[], false, ◌∷◌, ◌+◌, ap, arith, drop, length, length-drop, subst, sym, take, ◌∙◌}
use Rattle.std.proofs.lemmas.List.{drop-drop}
use Rattle.mvs_model.specs.Lines.{lines_of}
use Rattle.judge.specs.Judging.{IsOpen}
use Rattle.judge.specs.Deciding.{InBounds, IsFoundFirst, IsServed}
use Rattle.judge.proofs.Asked.{open_other}
use Rattle.judge.proofs.Decided.{closed_asked, decides_before, none_decided, some_decided}
use Rattle.judge.proofs.Parsed.{found_before, found_read, list_before, same_before, some_line}
use Rattle.judge.proofs.deciding.decide.Goals as goal

pub returns-in-Several-clause-decided : goal.returns-in-Several-clause-decided
returns-in-Several-clause-decided c =
    let w1 = c.parse-parsed.new.self in
    let line = take c.line_end-end.result c.args.script.now in
    let other = c.in-Several.ensures line c.parse-parsed.ensures.reading in (
      (ap (λ w. w.number) c.parse-parsed.ensures.rest, ap (λ w. w.step) c.parse-parsed.ensures.rest),
      subst (λ w. IsOpen w.number w.step (lines_of c.args.script.now) c.args.left.now) c.parse-parsed.ensures.rest
          (subst (λ lines. IsOpen w1.number w1.step lines c.args.left.now) (sym c.line_end-end.ensures.lines) (open_other w1.number w1.step line (lines_of (drop (c.line_end-end.result + 1) c.args.script.now)) c.args.left.now other)),
    )

pub returns-in_ok-served-in-Closed-clause-decided : goal.returns-in_ok-served-in-Closed-clause-decided
returns-in_ok-served-in-Closed-clause-decided c =
    let w1 = c.parse-parsed.new.self in
    let l = take c.line_end-end.result c.args.script.now in
    let reading = c.parse-parsed.ensures.reading in
    let closed = c.in-Closed.ensures l reading in
    let s = c.in_ok-served-in-Closed.served in
    let e = c.in_ok-served-in-Closed.ensures in
    let taken = c.line_end-end.result + 1 in
    found_read c.args.script.now c.args.left.now c.args.walk.now w1.read taken s.text.items s.continues s.passes false c.decide_line.new.walk
    (subst (λ w. IsFoundFirst c.args.script.now c.args.left.now w taken s.text.items s.continues s.passes false c.decide_line.new.walk) c.parse-parsed.ensures.rest (
      l ∷ [],
      c.line_end-end.ensures.lines,
      e.served l reading,
      decides_before (l ∷ []) _ c.args.left.now w1 s.text.items s.continues s.passes c.decide_line.new.walk (e.decided l reading closed),
      λ on. closed_asked w1 c.decide_line.new.walk l s.text.items _ closed (subst (λ b. IsServed (l ∷ []) w1 s.text.items b c.decide_line.new.walk) on (e.served l reading)),
    ))

pub returns-in_ok-served-in-Closed-clause-bounds : goal.returns-in_ok-served-in-Closed-clause-bounds
returns-in_ok-served-in-Closed-clause-bounds c = c.in_ok-served-in-Closed.ensures.bounds (take c.line_end-end.result c.args.script.now) c.parse-parsed.ensures.reading (subst (λ w. InBounds w.step) (sym c.parse-parsed.ensures.rest) c.requires.bounds)

pub returns-in-Areas-clause-decided : goal.returns-in-Areas-clause-decided
returns-in-Areas-clause-decided c = list_before c.args.script.now c.args.left.now (lines_of c.args.script.now) c.args.walk.now c.parse-parsed.new.self c.decide_areas.new.walk c.decide_areas.result c.parse-parsed.ensures.rest c.decide_areas.ensures.decided

pub returns-in_default-clause-decided : goal.returns-in_default-clause-decided
returns-in_default-clause-decided c =
    let w1 = c.parse-parsed.new.self in
    let l = take c.line_end-end.result c.args.script.now in
    let reading = c.parse-parsed.ensures.reading in
    let d = none_decided _ _ _ c.in_default.is (c.in_ok-second-in-Area.ensures.decided l reading (c.in-Area.ensures l reading)) in (
      same_before c.args.walk.now w1 c.decide_shown.new.walk c.parse-parsed.ensures.rest d.0,
      subst (λ w. IsOpen w.number w.step (lines_of c.args.script.now) c.args.left.now) c.parse-parsed.ensures.rest
          (subst (λ lines. IsOpen w1.number w1.step lines c.args.left.now) (sym (c.line_end-end.ensures.lines ∙ ap (λ x. l ∷ lines_of x) (sym c.text_after-rest.ensures))) d.1),
    )

pub returns-in_default-clause-bounds : goal.returns-in_default-clause-bounds
returns-in_default-clause-bounds c = c.in_ok-second-in-Area.ensures.bounds (take c.line_end-end.result c.args.script.now) c.parse-parsed.ensures.reading

pub returns-in-Some-clause-decided : goal.returns-in-Some-clause-decided
returns-in-Some-clause-decided c =
    let w1 = c.parse-parsed.new.self in
    let l = take c.line_end-end.result c.args.script.now in
    let trailing = c.text_after-rest.result.now in
    let q = take c.in-Some.second trailing in
    let s = c.in-Some.served in
    let reading = c.parse-parsed.ensures.reading in
    let d = some_decided _ _ _ (c.in-Some.second, c.in-Some.served) c.in-Some.is (c.in_ok-second-in-Area.ensures.decided l reading (c.in-Area.ensures l reading)) in
    let taken = c.line_end-end.result + 1 + (c.in-Some.second + 1) in
    found_before c.args.script.now c.args.left.now c.args.walk.now w1 taken s.text.items s.continues s.passes false c.decide_shown.new.walk c.parse-parsed.ensures.rest (
      l ∷ q ∷ [],
      c.line_end-end.ensures.lines ∙ ap (λ x. l ∷ lines_of x) (sym c.text_after-rest.ensures) ∙ ap (λ lines. l ∷ lines) d.0
          ∙ ap (λ x. l ∷ q ∷ lines_of (drop (c.in-Some.second + 1) x)) c.text_after-rest.ensures ∙ ap (λ x. l ∷ q ∷ lines_of x) (drop-drop (c.in-Some.second + 1) (c.line_end-end.result + 1) c.args.script.now),
      d.1,
      decides_before (l ∷ q ∷ []) _ c.args.left.now w1 s.text.items s.continues s.passes c.decide_shown.new.walk d.2,
      λ _. d.3 _,
    )

pub returns-in-Some-clause-taken : goal.returns-in-Some-clause-taken
returns-in-Some-clause-taken c =
    let l = take c.line_end-end.result c.args.script.now in
    let reading = c.parse-parsed.ensures.reading in
    let d = some_decided _ _ _ (c.in-Some.second, c.in-Some.served) c.in-Some.is (c.in_ok-second-in-Area.ensures.decided l reading (c.in-Area.ensures l reading)) in
    let n = some_decided _ _ _ (c.in-Some.second, c.in-Some.served) c.in-Some.is c.in_ok-second-in-Area.ensures.taken in
    let some = some_line c.text_after-rest.result.now _ _ d.0 in
    let long = ap length c.text_after-rest.ensures ∙ length-drop (c.line_end-end.result + 1) c.args.script.now in
    let number = ap (λ w. w.number) c.parse-parsed.ensures.rest in
    let last = n.1 in
    let within = n.0 in
    (omega arith, omega (arith, within, some, long), omega (arith, last, number))

pub returns-in-Some-clause-bounds : goal.returns-in-Some-clause-bounds
returns-in-Some-clause-bounds c = c.in_ok-second-in-Area.ensures.bounds (take c.line_end-end.result c.args.script.now) c.parse-parsed.ensures.reading
