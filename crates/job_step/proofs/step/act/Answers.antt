use Rattle.std.proofs.Common.{inl, refl, subst}
use Rattle.std.specs.Prelude.{IfOk}
use Rattle.request_forms.specs.Taking.{TakesArea}
use Rattle.mvs_model.specs.declared.request.Reply.TheVariants.{Attached, Cell, Done, Ended, Obtained, Rc0}
use Rattle.request_forms.specs.Machine.{task_name}
use Rattle.job_step.proofs.StepCases.{area_step, cell_step, plan_tried, pool_step, replied}
use Rattle.job_step.proofs.step.act.Goals as goal

pub returns-in-Obtain-clause-answer : goal.returns-in-Obtain-clause-answer
returns-in-Obtain-clause-answer c = replied Obtained c.args.machine.now.state (task_name c.args.machine.now c.args.t) c.args.request.now c.obtain.result c.obtain.new.self.state c.reply_area.new.reply c.reply_area.result (rw c.in-Obtain.is c.obtain.ensures.answer) c.reply_area.ensures.replies

pub returns-in-Release-clause-answer : goal.returns-in-Release-clause-answer
returns-in-Release-clause-answer c = replied (λ _. Rc0) c.args.machine.now.state (task_name c.args.machine.now c.args.t) c.args.request.now c.release.result c.release.new.self.state c.reply_zero.new.reply c.reply_zero.result (rw c.in-Release.is (c.release.ensures c.in-Release.form)) c.reply_zero.ensures.replies

pub returns-in-ReleaseList-clause-answer : goal.returns-in-ReleaseList-clause-answer
returns-in-ReleaseList-clause-answer c = replied (λ _. Rc0) c.args.machine.now.state (task_name c.args.machine.now c.args.t) c.args.request.now c.release_list.result c.release_list.new.self.state c.reply_zero-in-ReleaseList.new.reply c.reply_zero-in-ReleaseList.result (rw c.in-ReleaseList.is (c.release_list.ensures c.in-ReleaseList.form)) c.reply_zero-in-ReleaseList.ensures.replies

pub returns-in-ReleaseWhole-clause-answer : goal.returns-in-ReleaseWhole-clause-answer
returns-in-ReleaseWhole-clause-answer c = replied (λ _. Rc0) c.args.machine.now.state (task_name c.args.machine.now c.args.t) c.args.request.now c.release_whole.result c.release_whole.new.self.state c.reply_zero-in-ReleaseWhole.new.reply c.reply_zero-in-ReleaseWhole.result (rw c.in-ReleaseWhole.is (c.release_whole.ensures c.in-ReleaseWhole.form)) c.reply_zero-in-ReleaseWhole.ensures.replies

pub returns-in-Build-clause-answer : goal.returns-in-Build-clause-answer
returns-in-Build-clause-answer c = replied (λ _. Rc0) c.args.machine.now.state (task_name c.args.machine.now c.args.t) c.args.request.now c.build.result c.build.new.self.state c.reply_zero-in-Build.new.reply c.reply_zero-in-Build.result (rw c.in-Build.is (plan_tried c.args.machine.now.state c.build.new.self.state (task_name c.args.machine.now c.args.t) c.in-Build.pool c.in-Build.number c.in-Build.size c.in-Build.primary c.in-Build.secondary c.in-Build.loc c.plan-plan.result c.build.result c.plan-plan.ensures c.build.ensures.answer)) c.reply_zero-in-Build.ensures.replies

pub returns-in-Get-clause-answer : goal.returns-in-Get-clause-answer
returns-in-Get-clause-answer c = replied Cell c.args.machine.now.state (task_name c.args.machine.now c.args.t) c.args.request.now c.get.result c.get.new.self.state c.reply_cell.new.reply c.reply_cell.result (rw c.in-Get.is (c.get.ensures.answer (task_name c.args.machine.now c.args.t))) c.reply_cell.ensures.replies

pub returns-in-Free-clause-answer : goal.returns-in-Free-clause-answer
returns-in-Free-clause-answer c = replied (λ _. Rc0) c.args.machine.now.state (task_name c.args.machine.now c.args.t) c.args.request.now c.free.result c.free.new.self.state c.reply_zero-in-Free.new.reply c.reply_zero-in-Free.result (rw c.in-Free.is (c.free.ensures (task_name c.args.machine.now c.args.t))) c.reply_zero-in-Free.ensures.replies

pub returns-in-Delete-clause-answer : goal.returns-in-Delete-clause-answer
returns-in-Delete-clause-answer c = replied (λ _. Rc0) c.args.machine.now.state (task_name c.args.machine.now c.args.t) c.args.request.now c.delete.result c.delete.new.self.state c.reply_zero-in-Delete.new.reply c.reply_zero-in-Delete.result (rw c.in-Delete.is (c.delete.ensures (task_name c.args.machine.now c.args.t))) c.reply_zero-in-Delete.ensures.replies

pub returns-in-Attach-clause-answer : goal.returns-in-Attach-clause-answer
returns-in-Attach-clause-answer c = replied (λ _. Attached) c.args.machine.now.state (task_name c.args.machine.now c.args.t) c.args.request.now c.attach.result c.attach.new.self.state c.reply_attached.new.reply c.reply_attached.result (rw c.in-Attach.is c.attach.ensures) c.reply_attached.ensures.replies

pub returns-in-Return-clause-answer : goal.returns-in-Return-clause-answer
returns-in-Return-clause-answer c = replied (λ _. Ended) c.args.machine.now.state (task_name c.args.machine.now c.args.t) c.args.request.now c.finish.result c.finish.new.self.state c.reply_ended.new.reply c.reply_ended.result (rw c.in-Return.is c.finish.ensures) c.reply_ended.ensures.replies

pub returns-in-Show-clause-answer : goal.returns-in-Show-clause-answer
returns-in-Show-clause-answer c = replied (λ _. Done) c.args.machine.now.state (task_name c.args.machine.now c.args.t) c.args.request.now c.show.result c.args.machine.now.state c.reply_done.new.reply c.reply_done.result (rw c.in-Show.is (c.show.ensures (task_name c.args.machine.now c.args.t))) c.reply_done.ensures.replies

pub returns-in-Put-clause-answer : goal.returns-in-Put-clause-answer
returns-in-Put-clause-answer c = replied (λ _. Done) c.args.machine.now.state (task_name c.args.machine.now c.args.t) c.args.request.now c.put.result c.put.new.self.state c.reply_done-in-Put.new.reply c.reply_done-in-Put.result (rw c.in-Put.is (c.put.ensures (task_name c.args.machine.now c.args.t))) c.reply_done-in-Put.ensures.replies

pub returns-in-Move-clause-answer : goal.returns-in-Move-clause-answer
returns-in-Move-clause-answer c = replied (λ _. Done) c.args.machine.now.state (task_name c.args.machine.now c.args.t) c.args.request.now c.move_bytes.result c.move_bytes.new.self.state c.reply_done-in-Move.new.reply c.reply_done-in-Move.result (rw c.in-Move.is (c.move_bytes.ensures (task_name c.args.machine.now c.args.t))) c.reply_done-in-Move.ensures.replies

pub returns-in-Abend-clause-answer : goal.returns-in-Abend-clause-answer
returns-in-Abend-clause-answer c = rw (c.in-Abend.is, c.get-in-Abend.ensures.value) (inl (refl, refl), refl)

pub returns-in-Obtain-clause-hints : goal.returns-in-Obtain-clause-hints
returns-in-Obtain-clause-hints c = rw c.in-Obtain.is (area_step c.args.hints.now c.args.machine.now.state (task_name c.args.machine.now c.args.t) c.in-Obtain.form c.in-Obtain.number c.in-Obtain.ask c.obtain.result c.reply_area.new.reply c.reply_area.result c.obtain.new.self.state c.reply_area.ensures.replies (subst (λ first. IfOk c.obtain.result (TakesArea c.args.machine.now.state (task_name c.args.machine.now c.args.t) c.in-Obtain.form c.in-Obtain.number c.in-Obtain.ask first)) c.first_hint.ensures c.obtain.ensures.hints))

pub returns-in-Build-clause-hints : goal.returns-in-Build-clause-hints
returns-in-Build-clause-hints c = rw c.in-Build.is
    (pool_step c.args.hints.now c.args.machine.now.state (task_name c.args.machine.now c.args.t) c.in-Build.pool c.in-Build.number c.in-Build.size c.in-Build.primary c.in-Build.secondary c.in-Build.loc c.build.result c.reply_zero-in-Build.new.reply c.reply_zero-in-Build.result c.build.new.self.state c.reply_zero-in-Build.ensures.replies
    (rw (c.plan-plan.ensures, c.first_hint-in-Build.ensures) at c.build.ensures.hints))

pub returns-in-Get-clause-hints : goal.returns-in-Get-clause-hints
returns-in-Get-clause-hints c = rw c.in-Get.is
    (cell_step c.args.hints.now c.args.machine.now.state (task_name c.args.machine.now c.args.t) c.in-Get.pool c.in-Get.conditional c.get.result c.reply_cell.new.reply c.reply_cell.result c.get.new.self.state c.reply_cell.ensures.replies c.get.ensures.hints)
