use Rattle.mvs_model.specs.Changes.{Misses}
use Rattle.mvs_model.specs.Requests.{whole}
use Rattle.request_forms.proofs.Split.{first_and_others, others}
use Rattle.request_forms.proofs.Places.{refuted, decided, fails_first, passes_first}
use Rattle.request_forms.proofs.release.+misses_each.Goals as goal

pub returns-then-not-are_apart : goal.returns-then-not-are_apart
returns-then-not-are_apart t c =
    fails_first (Misses (whole c.args.place)) whole c.args.others.now (others c.args.others.now) c.other-item.result (first_and_others c.args.others.now c.other-item.result c.in-len1-up.len_at_least c.other-item.is)
    (refuted {P = Misses (whole c.args.place) (whole c.other-item.result)} c.are_apart.result c.if-not-are_apart.true c.are_apart.ensures)

pub returns : goal.returns
returns t c =
    passes_first (Misses (whole c.args.place)) whole c.args.others.now (others c.args.others.now) c.other-item.result c.misses_each.result (first_and_others c.args.others.now c.other-item.result c.in-len1-up.len_at_least c.other-item.is)
    (decided {P = Misses (whole c.args.place) (whole c.other-item.result)} c.are_apart.result c.if-not-are_apart.false c.are_apart.ensures) c.misses_each.ensures
