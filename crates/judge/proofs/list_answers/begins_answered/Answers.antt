use Rattle.mvs_model.specs.Determined.{one_page}
use Rattle.judge.proofs.Answering.{answered_no, answered_yes}
use Rattle.judge.proofs.list_answers.begins_answered.Goals as goal

pub returns-clause-yes : goal.returns-clause-yes
returns-clause-yes c =
    let st = one_page c.args.task.now in
    answered_yes c.args.line_number c.args.task.now c.args.text.now c.in_ok-granted.granted c.in_ok-refused.refused c.in_ok-of_e.of_e c.in_ok-of_r.of_r c.in_ok-located.located (c.in_ok-granted.ensures st) (c.in_ok-refused.ensures st) c.in_ok-of_e.ensures c.in_ok-of_r.ensures c.in_ok-located.ensures

pub returns-clause-no : goal.returns-clause-no
returns-clause-no c =
    let st = one_page c.args.task.now in
    answered_no c.args.line_number c.args.task.now c.args.text.now c.in_ok-granted.granted c.in_ok-refused.refused c.in_ok-of_e.of_e c.in_ok-of_r.of_r c.in_ok-located.located (c.in_ok-granted.ensures st) (c.in_ok-refused.ensures st) c.in_ok-of_e.ensures c.in_ok-of_r.ensures c.in_ok-located.ensures
