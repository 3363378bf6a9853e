use Rattle.line_text.proofs.print.print_region.Goals as goal

pub returns : goal.returns
returns g c = rw (← c.name.ensures) (rw (c.as_slice.ensures, c.push_region.ensures.text, c.new-said.ensures) at c.print_line.ensures)
