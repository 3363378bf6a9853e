use Rattle.page_map.specs.Owners.{is_usable}
use Rattle.page_map.specs.Several.{is_marked}
use Rattle.page_map.proofs.Marks.{marked_is, none_among, some_among}
use Rattle.page_map.proofs.codes.usable_among.Goals as goal

pub returns-then-usable-eq0 : goal.returns-then-usable-eq0
returns-then-usable-eq0 g c =
    let a = c.args in
    none_among (is_usable a.own) (is_marked a.own) (λ n h. marked_is a.own n h c.requires.own) a.codes.now c.requires.codes a.from _ _ c.requires.within c.usable_bits-usable.ensures c.if-usable-eq0.true

pub returns-else-usable-eq0 : goal.returns-else-usable-eq0
returns-else-usable-eq0 g c =
    let a = c.args in
    some_among (is_usable a.own) (is_marked a.own) (λ n h. marked_is a.own n h c.requires.own) a.codes.now c.requires.codes a.from _ _ c.requires.within c.usable_bits-usable.ensures c.requires.few c.if-usable-eq0.false
