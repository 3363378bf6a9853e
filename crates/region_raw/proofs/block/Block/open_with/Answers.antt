use Rattle.std.proofs.Common.{◌+◌, ◌<◌, ◌≤◌, ◌≡◌, ℕ, List, Option, map, length, get_or, drop, slice_set, Some, None, sym, ap, ◌∙◌, subst, arith, get_or-drop}
use Rattle.std.proofs.Math.Seq.{paste}
use Rattle.std.proofs.lemmas.List.{length-map, get_or-map}
use Rattle.std.proofs.lemmas.List.Edits.{paste_more, drop-paste, length-paste}
use Rattle.region_raw.proofs.Runs.{get-blank}
use Rattle.region_raw.specs.Rows.{IsBlankRun}
use Rattle.region_raw.proofs.block.Block.open_with.Goals as goal

-- what is not yet written is as before
after : (cs : List (Option ℕ)) (at : ℕ) (ws : List (Option ℕ)) (i : ℕ) → at ≤ length cs → i ≤ length ws → get_or (paste cs at ws i) (at + i) None ≡ get_or cs (at + i) None
after cs at ws i in_row in_values =
    let sum : (at + i) + 0 ≡ at + i = omega arith in
    ap (λ k. get_or (paste cs at ws i) k None) (sym sum) ∙ sym (get_or-drop (at + i) (paste cs at ws i) 0 None)
    ∙ ap (λ l. get_or l 0 None) (drop-paste cs at ws i in_row in_values)
    ∙ get_or-drop (at + i) cs 0 None ∙ ap (λ k. get_or cs k None) sum

pub write-requires-clause-inside : goal.write-requires-clause-inside
write-requires-clause-inside c =
    let cs = c.self.inside.bytes.bytes in let ws = c.args.bytes.now in
    let blank = subst (λ l. IsBlankRun l c.args.at (length ws)) (sym c.self.view_is) c.requires.blank in
    let more : c.loop-i.i < length ws = c.loop-i-test.true in
    omega (arith, blank.0, ap length c.loop-i.invariant.bytes, length-paste cs c.args.at (map Some ws) c.loop-i.i (omega (arith, blank.0)) (omega (arith, length-map ws Some)))

pub write-requires-clause-blank : goal.write-requires-clause-blank
write-requires-clause-blank c =
    let cs = c.self.inside.bytes.bytes in let ws = c.args.bytes.now in let at = c.args.at in let i = c.loop-i.i in
    let blank = subst (λ l. IsBlankRun l at (length ws)) (sym c.self.view_is) c.requires.blank in
    let more : i < length ws = c.loop-i-test.true in
    ap (λ l. get_or l (at + i) None) c.loop-i.invariant.bytes
    ∙ after cs at (map Some ws) i (omega (arith, blank.0)) (omega (arith, length-map ws Some))
    ∙ get-blank cs at (length ws) i blank.1 more

pub loop-i-preserved : goal.loop-i-preserved
loop-i-preserved c =
    let cs = c.self.inside.bytes.bytes in let ws = c.args.bytes.now in let at = c.args.at in let i = c.loop-i.i in
    let inv = c.loop-i.invariant in
    let blank = subst (λ l. IsBlankRun l at (length ws)) (sym c.self.view_is) c.requires.blank in
    let more : i < length ws = c.loop-i-test.true in
    record {
      place = c.write.ensures.place ∙ inv.place;
      start = inv.start;
      right = inv.right;
      len = inv.len;
      bytes = c.write.ensures.bytes
          ∙ (λ j. slice_set (inv.bytes j) (at + i) (sym (get_or-map Some ws i 0 None more) j))
          ∙ paste_more cs at (map Some ws) i None (omega (arith, blank.0)) (omega (arith, length-map ws Some));
    }
