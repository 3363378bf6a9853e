use Rattle.area_history.proofs.history_texts.print_anywhere_line.Goals as goal

pub returns : goal.returns
returns g c = rw (c.as_slice.ensures, c.end_line.ensures, c.push_anywhere.ensures.text, c.push_str.ensures.text, c.new-text.ensures) at c.write_all.ensures
