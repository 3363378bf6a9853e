use Rattle.std.proofs.Common.{sym, ap, ◌∙◌, Some, get_or, length}
use Rattle.region_raw.proofs.Parts.{length-part, part_is, part_reads, run_of}
use Rattle.region_raw.proofs.region.Region.part.Goals as goal

pub part-requires : goal.part-requires
part-requires c = run_of c.self.inside.count c.self.inside.block c.self.invariant c.args.self.now c.self.view_is c.args.at c.args.n c.requires

pub returns : goal.returns
returns c =
    let is = c.part.ensures ∙ part_is c.self.inside.count c.self.inside.block c.self.invariant c.args.self.now c.self.view_is c.args.at c.args.n in
    record {
      value = is;
      len = ap length is ∙ length-part c.self.inside.count c.self.inside.block c.self.invariant c.args.self.now c.self.view_is c.args.at c.args.n c.requires;
      bytes = λ k low. part_reads c.self.inside.count c.self.inside.block c.self.invariant c.args.self.now c.self.view_is c.args.at c.args.n c.requires k low ∙ ap (λ l. Some (get_or l k 0)) (sym is);
    }
