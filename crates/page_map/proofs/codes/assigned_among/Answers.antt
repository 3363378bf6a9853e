use Rattle.std.proofs.Common.{is_some, arith}
use Rattle.page_map.specs.Several.{is_below_free}
use Rattle.page_map.proofs.Marks.{below_is, none_among, some_among}
use Rattle.page_map.proofs.codes.assigned_among.Goals as goal

pub returns-then-assigned-eq0 : goal.returns-then-assigned-eq0
returns-then-assigned-eq0 c =
    let a = c.args in
    none_among is_some is_below_free below_is a.codes.now c.requires.codes a.from 16 _ c.requires.within c.assigned_bits-assigned.ensures c.if-assigned-eq0.true

pub returns-else-assigned-eq0 : goal.returns-else-assigned-eq0
returns-else-assigned-eq0 c =
    let a = c.args in
    some_among is_some is_below_free below_is a.codes.now c.requires.codes a.from 16 _ c.requires.within c.assigned_bits-assigned.ensures (omega arith) c.if-assigned-eq0.false
