use Rattle.mvsjob.proofs.queries.write_after_request.Goals as goal

pub returns-in-Obtain : goal.returns-in-Obtain
returns-in-Obtain g c = rw (c.in-Obtain.is) c.write_question.ensures

pub returns-in-Get : goal.returns-in-Get
returns-in-Get g c = rw (c.in-Get.is) c.write_question-in-Get.ensures
