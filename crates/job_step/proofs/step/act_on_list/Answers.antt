use Rattle.mvs_model.specs.declared.request.Reply.TheVariants.{Listed}
use Rattle.request_forms.specs.Machine.{task_name}
use Rattle.job_step.proofs.StepCases.{areas_left, area_values, replied}
use Rattle.job_step.proofs.step.act_on_list.Goals as goal

pub returns-clause-answer : goal.returns-clause-answer
returns-clause-answer c = replied Listed c.args.machine.now.state (task_name c.args.machine.now c.args.t) c.args.request.now c.obtain_list.result c.obtain_list.new.self.state c.reply_areas.new.reply c.reply_areas.result (rw c.in-ObtainList.is (c.obtain_list.ensures.answer c.in-ObtainList.form)) c.reply_areas.ensures.replies

pub returns-clause-hints : goal.returns-clause-hints
returns-clause-hints c = rw c.in-ObtainList.is (area_values c.args.hints.now c.args.machine.now.state (task_name c.args.machine.now c.args.t) c.in-ObtainList.form c.in-ObtainList.number c.in-ObtainList.lengths c.in-ObtainList.start c.obtain_list.result c.reply_areas.new.reply c.reply_areas.result c.obtain_list.new.self.state c.reply_areas.ensures.replies c.obtain_list.ensures.hints)

pub returns-clause-left : goal.returns-clause-left
returns-clause-left c = rw c.in-ObtainList.is
    (areas_left c.args.machine.now.state (task_name c.args.machine.now c.args.t) c.in-ObtainList.form c.in-ObtainList.number c.in-ObtainList.lengths c.in-ObtainList.start c.obtain_list.result c.reply_areas.new.reply c.reply_areas.result _ c.reply_areas.ensures.replies (λ k. c.obtain_list.ensures.left c.in-ObtainList.form k))
