use Rattle.std.proofs.Common.{◌≡◌, ◌∙◌, ap, length, refl, sym, take}
use Rattle.std.specs.Prelude.{None, Some, slice_get, slice_index}
use Rattle.std.proofs.lemmas.Option.{slice_get_past, slice_get_read}
use Rattle.schedules.specs.Next.{number_of}
use Rattle.schedules.specs.Refusals.{is_line_active}
use Rattle.schedules.proofs.Refused.{inactive, some_at}
use Rattle.schedules.proofs.order.why_not.Goals as goal

pub returns-in_default-get : goal.returns-in_default-get
returns-in_default-get c =
    let lines = c.args.lines.now in
    let k = slice_index c.args.left.now c.in-Some.place in
    let none : slice_get lines k ≡ None = slice_get_past lines k c.in_default-get.ensures.lookup.3 in
    (c.in-Some.place, c.in-Some.ensures.0, c.in-Some.ensures.1, ap (is_line_active c.args.walk.now.step) none)

pub returns-in-Some-first_of : goal.returns-in-Some-first_of
returns-in-Some-first_of c =
    let lines = c.args.lines.now in
    let k = slice_index c.args.left.now c.in-Some.place in
    let l = c.in-Some-get.line.now in
    let found : slice_get lines k ≡ Some l = slice_get_read lines (length lines) k l refl c.in-Some-get.ensures.lookup.3.0 (c.in-Some-get.ensures.lookup.3.1 l) in
    (l, c.in-Some.place, c.in-Some.ensures.0, found, ap number_of (sym found) ∙ c.in-Some.ensures.1, c.in-Some-first_of.ensures)

pub returns-in-None : goal.returns-in-None
returns-in-None c =
    let lines = c.args.lines.now in
    let left = c.args.left.now in
    let place = c.in-Some.place in
    let k = slice_index left place in
    let l = c.in-Some-get.line.now in
    let found : slice_get lines k ≡ Some l = slice_get_read lines (length lines) k l refl c.in-Some-get.ensures.lookup.3.0 (c.in-Some-get.ensures.lookup.3.1 l) in
    let n = slice_index c.args.order.now c.args.at in
    let cannot = c.requires.none n (some_at c.args.order.now c.args.at c.requires.at) place c.in-Some.ensures.0 in
    (place, c.in-Some.ensures.0, c.in-Some.ensures.1, inactive lines c.args.walk.now.step (take place left) k n l found c.in-Some.ensures.1 cannot c.in-None.ensures)
