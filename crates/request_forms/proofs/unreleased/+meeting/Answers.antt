use Rattle.request_forms.proofs.Split.{first_and_others, others}
use Rattle.request_forms.proofs.Firsts.{met_later}
use Rattle.request_forms.proofs.unreleased.+meeting.Goals as goal

pub returns : goal.returns
returns t c =
    met_later c.args.place c.args.others.now (others c.args.others.now) c.other-item.result c.meeting.result (first_and_others c.args.others.now c.other-item.result c.in-len1-up.len_at_least c.other-item.is) c.in_default-common.ensures c.meeting.ensures
