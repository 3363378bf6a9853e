use Rattle.std.proofs.Common.{◌≡◌, ◌+◌, ◌*◌, ◌/◌, ◌<◌, ◌∙◌, ap, subst, arith}
use Rattle.cell_pool.specs.Layout.{byte_of, count_at}
use Rattle.cell_pool.specs.Roots.{part_addr}
use Rattle.cell_pool.proofs.Walking.{low_at, words_held, few_at, held_in}
use Rattle.cell_pool.proofs.Opening.{open_met, is_met, next_met, fewer}
use Rattle.cell_pool.proofs.open.find_free.Goals as goal

pub walk-init : goal.walk-init
walk-init c = open_met c.args.store.now.storage c.args.root.now c.requires.counted _ c.open_part-part.ensures

pub read_header-header-requires-clause-low : goal.read_header-header-requires-clause-low
read_header-header-requires-clause-low c =
    let w = c.walk.invariant in
    low_at c.args.store.now.storage c.args.root.now c.requires.chain w.number (is_met c.args.store.now.storage c.args.root.now c.requires.counted c.requires.free c.walk.step c.walk.part w) c.walk.part w.addr

pub read_header-header-requires-clause-held : goal.read_header-header-requires-clause-held
read_header-header-requires-clause-held c =
    let w = c.walk.invariant in
    words_held c.args.store.now.storage c.args.root.now c.requires.chain w.number (is_met c.args.store.now.storage c.args.root.now c.requires.counted c.requires.free c.walk.step c.walk.part w) c.walk.part w.addr

pub first_free-requires-clause-low : goal.first_free-requires-clause-low
first_free-requires-clause-low c =
    let w = c.walk.invariant in
    let e = w.addr in
    let l = c.requires.chain.low w.number (is_met c.args.store.now.storage c.args.root.now c.requires.counted c.requires.free c.walk.step c.walk.part w) in
    omega arith

pub first_free-requires-clause-few : goal.first_free-requires-clause-few
first_free-requires-clause-few c =
    let w = c.walk.invariant in
    few_at c.args.store.now.storage c.args.root.now c.requires.chain w.number (is_met c.args.store.now.storage c.args.root.now c.requires.counted c.requires.free c.walk.step c.walk.part w) c.walk.part w.addr _ c.read_header-header.ensures.count

pub first_free-requires-clause-held : goal.first_free-requires-clause-held
first_free-requires-clause-held c =
    let w = c.walk.invariant in
    let e = w.addr in
    let count_is : c.read_header-header.result.count ≡ count_at (byte_of c.args.store.now.storage) (part_addr (byte_of c.args.store.now.storage) c.args.root.now.first w.number) = c.read_header-header.ensures.count ∙ ap (count_at (byte_of c.args.store.now.storage)) e in
    held_in c.args.store.now.storage c.args.root.now c.requires.chain w.number (is_met c.args.store.now.storage c.args.root.now c.requires.counted c.requires.free c.walk.step c.walk.part w) (c.walk.part + 16) (8 * ((c.read_header-header.result.count + 63) / 64)) (omega arith) (omega arith) (omega arith)

pub first_free-requires-clause-free : goal.first_free-requires-clause-free
first_free-requires-clause-free c =
    let w = c.walk.invariant in
    fewer c.args.store.now.storage c.args.root.now c.requires.chain w.number (is_met c.args.store.now.storage c.args.root.now c.requires.counted c.requires.free c.walk.step c.walk.part w) c.walk.part w.addr _ _ c.read_header-header.ensures.count c.read_header-header.ensures.taken (omega arith)

pub returns-then-header-clause-free : goal.returns-then-header-clause-free
returns-then-header-clause-free c =
    let w = c.walk.invariant in
    record {
      number = w.number;
      is_part = is_met c.args.store.now.storage c.args.root.now c.requires.counted c.requires.free c.walk.step c.walk.part w;
      addr = w.addr;
      is_cell = subst (λ n. c.first_free.result < n) c.read_header-header.ensures.count c.first_free.ensures.within;
      clear = c.first_free.ensures.clear;
      of_taken = c.read_header-header.ensures.taken;
      open_number = w.number;
      is_open = is_met c.args.store.now.storage c.args.root.now c.requires.counted c.requires.free c.walk.step c.walk.part w;
      open_addr = w.addr;
      full = w.full;
    }

pub unreachable-requires : goal.unreachable-requires
unreachable-requires c =
    let w = c.walk.invariant in
    let l = is_met c.args.store.now.storage c.args.root.now c.requires.counted c.requires.free c.walk.step c.walk.part w in
    let m = w.later in
    absurd (omega arith)

pub walk-preserved : goal.walk-preserved
walk-preserved c = next_met c.args.store.now.storage c.args.root.now c.requires.counted c.requires.free c.walk.step c.walk.part _ _ _ c.walk.invariant c.read_header-header.ensures.next c.read_header-header.ensures.count c.read_header-header.ensures.taken (omega arith)
