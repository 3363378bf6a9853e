use Rattle.std.proofs.Common.{◌≡◌, ◌+◌, ◌-◌, ◌∷◌, length, drop, take, ap, sym, ◌∙◌}
use Rattle.std.specs.List.{before_first, after_first, slice_split}
use Rattle.std.proofs.lemmas.List.{take_rest}
use Rattle.job_script.proofs.Cut.{no_cut, cut_at}
use Rattle.language_server.specs.Names.{ends_name}
use Rattle.language_server.proofs.names.split_name.Goals as goal

pub returns-in-None-clause-parts : goal.returns-in-None-clause-parts
returns-in-None-clause-parts c = (no_cut ends_name c.args.text.now (sym c.in-None.ensures)).parts

pub returns-in-Some-clause-parts : goal.returns-in-Some-clause-parts
returns-in-Some-clause-parts c =
    let text = c.args.text.now in
    let k = c.in-Some.end + 1 in
    let n = cut_at ends_name text c.in-Some.end (sym c.in-Some.ensures) in
    let before : take c.in-Some.end text ≡ before_first ends_name text = ap (λ n. take n text) n.place in
    let rest : take (length text - k) (drop k text) ≡ after_first ends_name text = take_rest text k ∙ ap (λ n. drop (n + 1) text) n.place in
    n.parts ∙ (λ i. sym before i ∷ slice_split ends_name (sym rest i))
