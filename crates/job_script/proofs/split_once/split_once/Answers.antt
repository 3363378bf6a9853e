use Rattle.std.proofs.Common.{◌≡◌, ◌+◌, ◌-◌, ◌<◌, ◌∷◌, length, drop, take, arith, ap, sym, ◌∙◌, length-drop}
use Rattle.std.specs.Prelude.{◌==◌}
use Rattle.std.specs.List.{before_first, after_first, slice_split}
use Rattle.std.proofs.lemmas.List.{take_rest}
use Rattle.job_script.proofs.Cut.{no_cut, cut_at}
use Rattle.job_script.proofs.split_once.split_once.Goals as goal

pub returns-in-None : goal.returns-in-None
returns-in-None c =
    let n = no_cut (λ b. b == c.args.byte) c.args.text.now (sym c.in-None.ensures) in
    record { before = sym n.before; after = (n.none, n.after); parts = n.parts; less = tt }

pub returns-in-Some : goal.returns-in-Some
returns-in-Some c =
    let text = c.args.text.now in
    let k = c.in-Some.end + 1 in
    let n = cut_at (λ b. b == c.args.byte) text c.in-Some.end (sym c.in-Some.ensures) in
    let before : take c.in-Some.end text ≡ before_first (λ b. b == c.args.byte) text = ap (λ n. take n text) n.place in
    let rest : take (length text - k) (drop k text) ≡ after_first (λ b. b == c.args.byte) text = take_rest text k ∙ ap (λ n. drop (n + 1) text) n.place in
    let short : length (take (length text - k) (drop k text)) ≡ length text - k = ap length (take_rest text k) ∙ length-drop k text in
    let within : c.in-Some.end < length text = n.within in
    record {
      before = before;
      after = (n.some, rest);
      parts = n.parts ∙ (λ i. sym before i ∷ slice_split (λ b. b == c.args.byte) (sym rest i));
      less = omega arith;
    }
