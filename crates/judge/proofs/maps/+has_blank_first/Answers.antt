use Rattle.std.proofs.Common.{[], ◌∷◌, ◌≡◌, ap, arith, ◌∙◌}
use Rattle.judge.proofs.maps.+has_blank_first.Goals as goal

pub returns-then-first-eq32 : goal.returns-then-first-eq32
returns-then-first-eq32 t c = λ e.
    let is : c.in-Some.first.now ≡ 32 = let h = c.if-first-eq32.true in omega (arith, h) in
    ([], c.in-Some.rest.now, tt, (c.in-Some.ensures.cases.0 ∙ ap (λ b. b ∷ c.in-Some.rest.now) is))

pub returns-then-first-ne10 : goal.returns-then-first-ne10
returns-then-first-ne10 t c = λ e.
    let r = c.has_blank_first.ensures e in
    ((c.in-Some.first.now ∷ r.0), r.1, ((λ same. let h = c.if-first-ne10.true in absurd (omega (arith, h, same))), r.2), (c.in-Some.ensures.cases.0 ∙ ap (λ rest. c.in-Some.first.now ∷ rest) r.3))
