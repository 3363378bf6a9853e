use Rattle.std.proofs.Common.{◌≡◌, ap, length, replicate, rules, ◌∙◌}
use Rattle.std.proofs.lemmas.List.{length-replicate}
use Rattle.subpool_store.proofs.Cursors.{blank_clear}
use Rattle.subpool_store.proofs.memory.Memory.new.Goals as goal

pub returns-clause-clear : goal.returns-clause-clear
returns-clause-clear c =
    let none : c.in_ok-heads.heads.items ≡ replicate c.args.pages 4294967295 = search rules in
    blank_clear c.in_ok-region.region c.in_ok-heads.heads.items c.args.pages c.in_ok-region.ensures.blank (ap length none ∙ length-replicate c.args.pages _)
