use Rattle.std.proofs.Common.{◌≡◌, ◌-◌, ◌+◌, ◌<◌, length, take, drop, sym, ap, subst, ◌∙◌, arith}
use Rattle.std.proofs.lemmas.List.{length-drop}
use Rattle.std.proofs.Math.Seq.{take-length}
use Rattle.area_history.specs.Histories.{fate}
use Rattle.area_history.specs.ReleaseIndex.{IsAmong}
use Rattle.area_history.proofs.Releasing.{item_here, none_before, number_frees, number_passes}
use Rattle.area_history.proofs.events.fate_among.Goals as goal

pub returns-then-end-number : goal.returns-then-end-number
returns-then-end-number c =
    let d = c.args.doubleword in
    let g = c.args.grant.now in
    let events = c.args.events.now in
    let end = c.args.end in
    let after = c.changes.invariant.after in
    let beyond = c.if-end-number.true in
    let rest : take (length events - end) (drop end events) ≡ drop end events = ap (λ k. take k (drop end events)) (sym (length-drop end events)) ∙ take-length (drop end events) in
    c.fate_from.ensures
    ∙ ap (fate d g c.changes.owner) rest
    ∙ none_before d g c.changes.owner events c.changes.from end c.changes.invariant.among c.requires.within (λ i e get f t. c.next-number.ensures.none events c.requires.index i e get f (omega (arith, t, beyond)) (c.requires.known i (omega (arith, f, after)) t))

pub returns-then-frees_area : goal.returns-then-frees_area
returns-then-frees_area c =
    let d = c.args.doubleword in
    let g = c.args.grant.now in
    let events = c.args.events.now in
    let end = c.args.end in
    let n = c.next-number.result in
    let x = c.index-events-number.result in
    let after = c.changes.invariant.after in
    let within = c.requires.within in
    let before : n < end = (let h = c.if-end-number.false in omega (arith, h)) in
    number_frees d g c.changes.owner events c.changes.from end c.changes.invariant.among n x c.next-number.ensures.from before (item_here events n x (omega (arith, before, within)) c.index-events-number.is) (λ i e get f t. c.next-number.ensures.none events c.requires.index i e get f t (c.requires.known i (omega (arith, f, after)) (omega (arith, t, before)))) (sym c.frees_area.ensures ∙ c.if-frees_area.true)

pub changes-preserved : goal.changes-preserved
changes-preserved c =
    let d = c.args.doubleword in
    let g = c.args.grant.now in
    let events = c.args.events.now in
    let end = c.args.end in
    let n = c.next-number.result in
    let x = c.index-events-number.result in
    let after = c.changes.invariant.after in
    let from = c.next-number.ensures.from in
    let within = c.requires.within in
    let before : n < end = (let h = c.if-end-number.false in omega (arith, h)) in
    record {
      after = omega (arith, after, from);
      among =
          subst (λ o. IsAmong d g o events (n + 1) end) (sym c.owner_since-owner.ensures)
          (number_passes d g c.changes.owner events c.changes.from end c.changes.invariant.among n x from before (item_here events n x (omega (arith, before, within)) c.index-events-number.is) (λ i e get f t. c.next-number.ensures.none events c.requires.index i e get f t (c.requires.known i (omega (arith, f, after)) (omega (arith, t, before)))) (sym c.frees_area.ensures ∙ c.if-frees_area.false));
    }
