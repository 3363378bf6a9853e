use Rattle.std.proofs.Common.{◌*◌}
use Rattle.request_forms.specs.Reports.{NoneBegins, page_holder}
use Rattle.request_forms.proofs.report.first_start.Given as goal

abbrev pub invariant-loop-page : goal.invariant-loop-page
invariant-loop-page l = NoneBegins (page_holder l.store.storage) l.first (4096 * l.fn.from) l.page
