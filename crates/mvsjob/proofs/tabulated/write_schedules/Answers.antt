use Rattle.std.proofs.Common.{◌∙◌, ap, inl, subst}
use Rattle.std.specs.Io.KnownBytes.{Appends}
use Rattle.schedules.specs.Reports.{verdict_of}
use Rattle.mvsjob.specs.declared.ending.ExitReason.TheVariants.{Explored}
use Rattle.mvsjob.proofs.tabulated.write_schedules.Goals as goal

pub returns : goal.returns
returns g c =
    let explored = c.in-Ok.explored in
    inl (
      c.in_ok-table.table.items,
      subst (Appends (g.W.Write.contents c.args.writer.now.inner) (g.W.Write.contents c.write_all.new.writer.inner)) c.deref.ensures.value c.in_ok-write_all.ensures.bytes,
      record {
        explored = explored;
        lines = c.in-Ok.ensures.lines;
        addresses = c.in-Ok.ensures.addresses;
        steps = c.in-Ok.ensures.steps;
        table_is = c.in_ok-table.ensures;
        ending = c.of.ensures.ending ∙ ap Explored (c.verdict_of.ensures ∙ ap verdict_of c.deref-2.ensures.value);
        reported = c.of.ensures.faulty;
      },
    )
