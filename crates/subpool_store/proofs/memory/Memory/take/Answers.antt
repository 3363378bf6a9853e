use Rattle.std.proofs.Common.{◌≡◌, ◌/◌, ◌∙◌, ap, arith}
use Rattle.region_raw.specs.Pages.{is_open}
use Rattle.subpool_store.proofs.Filled.{filled_has, filled_keeps}
use Rattle.subpool_store.proofs.memory.Memory.take.Goals as goal

pub overflow_mul-from : goal.overflow_mul-from
overflow_mul-from c = record { fits = omega (arith, c.requires.some, c.requires.last, c.requires.few) }

pub returns-clause-keeps : goal.returns-clause-keeps
returns-clause-keeps c =
    filled_keeps c.args.self.now.held c.args.self.now.bytes c.take_in.new.self.bytes c.fill.new.self.bytes _ _ c.args.from c.args.to _ c.take_in.ensures.keeps c.fill.ensures.writes (omega arith) (omega (arith, c.requires.some)) c.requires.free

pub returns-clause-filled : goal.returns-clause-filled
returns-clause-filled c =
    filled_has c.args.self.now.held c.args.self.now.bytes c.take_in.new.self.bytes c.fill.new.self.bytes _ _ c.args.from c.args.to _ c.take_in.ensures.keeps c.fill.ensures.writes (omega arith) (omega (arith, c.requires.some)) (λ k low high.
    let page : k / 4096 ≡ c.args.page = omega (arith, low, high, c.requires.first, c.requires.last) in
    ap (is_open c.args.self.now.bytes) page ∙ c.requires.there)
