use Rattle.std.proofs.Common.{arith}
use Rattle.subpool_store.proofs.FreePages.{page_owned}
use Rattle.request_forms.proofs.report.page_owner.Goals as goal

pub returns : goal.returns
returns c = page_owned c.args.store.now.storage c.new.result c.args.page c.page_owner.result c.requires.storage (omega (arith, c.new.ensures)) c.page_owner.ensures
