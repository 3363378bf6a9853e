use Rattle.std.proofs.Common.{◌∙◌, ap, sym, map, string_bytes, codes}
use Rattle.std.proofs.lemmas.Result.{err_from_is_err_and}
use Rattle.clap.specs.Words.{fault_of, first_value, found_of, is_simple_and_free, kind_of, takes}
use Rattle.mvsjob.proofs.Assigning.{value_found, command_is_free, kinds_found}
use Rattle.mvsjob.proofs.Given.{mode_of, output_of}
use Rattle.mvsjob.specs.CommandLine.{assigned}
use Rattle.mvsjob.proofs.command_line.settings.Goals as goal

pub returns-in_err-matches-clause-refused : goal.returns-in_err-matches-clause-refused
returns-in_err-matches-clause-refused c =
    let p = err_from_is_err_and c.from_residual-in_err-matches.result c.from_residual-in_err-matches.ensures.1 in
    let made = c.in_ok-command.ensures in
    rw (p.1) (λ taken. ap kind_of p.2 ∙ c.in_err-matches.ensures.passes (ap (λ a. takes a (map string_bytes c.args.words.now)) made.2 ∙ taken made.0 made.1))

pub returns-in_err-matches-clause-kinds : goal.returns-in_err-matches-clause-kinds
returns-in_err-matches-clause-kinds c =
    let p = err_from_is_err_and c.from_residual-in_err-matches.result c.from_residual-in_err-matches.ensures.1 in
    let made = c.in_ok-command.ensures in
    let words = map string_bytes c.args.words.now in
    let found = c.in_err-matches.ensures.kinds (ap is_simple_and_free made.2 ∙ command_is_free made.0) in
    rw (p.1, p.2) (kinds_found words made.0 _ made.1 made.2 _ found)

pub returns-clause-valid : goal.returns-clause-valid
returns-clause-valid c =
    let made = c.in_ok-command.ensures in
    let words = map string_bytes c.args.words.now in
    (made.0, made.1, ap (λ a. fault_of a words) (sym made.2) ∙ c.in_ok-matches.ensures.kinds (ap is_simple_and_free made.2 ∙ command_is_free made.0))

pub returns-clause-ok : goal.returns-clause-ok
returns-clause-ok c =
    let made = c.in_ok-command.ensures in
    let found = value_found _ (map string_bytes c.args.words.now) made.0 c.in_ok-matches.matches made.2 c.in_ok-matches.ensures.matches in
    let given = assigned made.0 (map string_bytes c.args.words.now) in
    let first = first_value (found_of c.in_ok-matches.matches) in (
      made.0,
      made.1,
      record {
        file = rw (← found (codes "FILE")) c.file.ensures;
        place = rw (← found (codes "place")) c.placement.ensures;
        judged = rw (← found (codes "judge")) c.judged.ensures;
        second = rw (← found (codes "with")) c.get_str.ensures;
        code = rw (← found (codes "code")) c.coded.ensures;
        mode = mode_of first given found _ c.mode.ensures;
        output = output_of first given found _ c.output.ensures;
        explains = rw (← found (codes "explain")) c.is_set.ensures;
        leaks = rw (← found (codes "leaks")) c.is_set-2.ensures;
        strict = rw (← found (codes "strict")) c.is_set-3.ensures;
        interactive = rw (← found (codes "interactive")) c.is_set-4.ensures;
        color = rw (← found (codes "color")) c.color.ensures;
        format = rw (← found (codes "format")) c.format.ensures;
        hidden = rw (← found (codes "hide")) c.is_set-5.ensures;
        schedule = rw (← found (codes "schedule")) c.get_str-2.ensures;
        second_schedule = rw (← found (codes "with-schedule")) c.get_str-3.ensures;
        most = rw (← found (codes "most")) c.most_schedules.ensures;
        ignores = rw (← found (codes "ignore-addresses")) c.is_set-6.ensures;
      },
    )
