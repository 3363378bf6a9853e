use Rattle.std.proofs.Common.{refl, sym, ap, ◌∙◌, Some, get_or, length, take}
use Rattle.region_raw.proofs.Parts.{kept, length-part, borrows, part_is, part_reads, part_writes, run_of}
use Rattle.region_raw.proofs.region.Region.two_parts.Goals as goal

pub two_parts-requires-clause-source : goal.two_parts-requires-clause-source
two_parts-requires-clause-source c = run_of c.self.inside.count c.self.inside.block c.self.invariant c.args.self.now c.self.view_is c.args.from c.args.n c.requires.source

pub two_parts-requires-clause-target : goal.two_parts-requires-clause-target
two_parts-requires-clause-target c = run_of c.self.inside.count c.self.inside.block c.self.invariant c.args.self.now c.self.view_is c.args.to c.args.n c.requires.target

pub invariant_of-self-lent : goal.invariant_of-self-lent
invariant_of-self-lent c = λ w. kept c.self.inside.count c.self.inside.block c.self.invariant c.args.self.now c.self.view_is c.args.to (take c.args.n w)

pub returns : goal.returns
returns c =
    let first = c.two_parts.ensures.read ∙ part_is c.self.inside.count c.self.inside.block c.self.invariant c.args.self.now c.self.view_is c.args.from c.args.n in
    let second = c.two_parts.ensures.written ∙ part_is c.self.inside.count c.self.inside.block c.self.invariant c.args.self.now c.self.view_is c.args.to c.args.n in (
      (refl, λ w. borrows c.self.inside.count c.self.inside.block c.self.invariant c.args.self.now c.self.view_is c.args.to (take c.args.n w)),
      record {
        writes_back = tt;
        writes = part_writes c.self.inside.count c.self.inside.block c.self.invariant c.args.self.now c.self.view_is c.args.to;
        read = first;
        written = second;
        len = (ap length first ∙ length-part c.self.inside.count c.self.inside.block c.self.invariant c.args.self.now c.self.view_is c.args.from c.args.n c.requires.source, ap length second ∙ length-part c.self.inside.count c.self.inside.block c.self.invariant c.args.self.now c.self.view_is c.args.to c.args.n c.requires.target);
        source_bytes = λ k low. part_reads c.self.inside.count c.self.inside.block c.self.invariant c.args.self.now c.self.view_is c.args.from c.args.n c.requires.source k low ∙ ap (λ l. Some (get_or l k 0)) (sym first);
        target_bytes = λ k low. part_reads c.self.inside.count c.self.inside.block c.self.invariant c.args.self.now c.self.view_is c.args.to c.args.n c.requires.target k low ∙ ap (λ l. Some (get_or l k 0)) (sym second);
      },
    )
