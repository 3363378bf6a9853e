use Rattle.std.proofs.Common.{refl, sym, ap, ◌∙◌, Some, get_or, length, take}
use Rattle.region_raw.proofs.Parts.{kept, length-part, borrows, part_is, part_reads, part_writes, run_of}
use Rattle.region_raw.proofs.region.Region.part_mut.Goals as goal

pub part_mut-requires : goal.part_mut-requires
part_mut-requires c = run_of c.self.inside.count c.self.inside.block c.self.invariant c.args.self.now c.self.view_is c.args.at c.args.n c.requires

pub invariant_of-self-lent : goal.invariant_of-self-lent
invariant_of-self-lent c = λ w. kept c.self.inside.count c.self.inside.block c.self.invariant c.args.self.now c.self.view_is c.args.at (take c.args.n w)

pub returns : goal.returns
returns c =
    let is = c.part_mut.ensures.value ∙ part_is c.self.inside.count c.self.inside.block c.self.invariant c.args.self.now c.self.view_is c.args.at c.args.n in (
      (refl, λ w. borrows c.self.inside.count c.self.inside.block c.self.invariant c.args.self.now c.self.view_is c.args.at (take c.args.n w)),
      record {
        writes_back = tt;
        writes = part_writes c.self.inside.count c.self.inside.block c.self.invariant c.args.self.now c.self.view_is c.args.at;
        value = is;
        len = ap length is ∙ length-part c.self.inside.count c.self.inside.block c.self.invariant c.args.self.now c.self.view_is c.args.at c.args.n c.requires;
        bytes = λ k low. part_reads c.self.inside.count c.self.inside.block c.self.invariant c.args.self.now c.self.view_is c.args.at c.args.n c.requires k low ∙ ap (λ l. Some (get_or l k 0)) (sym is);
      },
    )
