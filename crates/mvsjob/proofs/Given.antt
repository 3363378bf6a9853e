-- What the words of a command line say depends on what each option is given.
use Rattle.std.proofs.Common.{◌≡◌, ◌≢◌, ◌∙◌, ◌↔◌, sym, subst, Bool, true, List, Option, Some, None, codes, IsTrue}
use Rattle.clap.specs.Words.{Text}
use Rattle.mvsjob.specs.declared.options.Mode.{Mode}
use Rattle.mvsjob.specs.declared.options.Recipe.{Recipe}
use Rattle.mvsjob.specs.declared.options.RunOutput.{RunOutput}
use Rattle.mvsjob.specs.CommandLine.{IsMode, IsOutput, IsProfile, IsRecipe, IsScriptMode, IsSet, IsUnset}

-- two readings of the words give each option the same
abbrev pub AreSame : (Text → Option Text) → (Text → Option Text) → Type 0
AreSame given other = (name : Text) → given name ≡ other name

unset : (given other : Text → Option Text) → AreSame given other → (name : Text) → IsUnset other name → IsUnset given name
unset given other same name un = λ e. un (sym (same name) ∙ e)

recipe_of : (given other : Text → Option Text) → AreSame given other → (r : Recipe) → IsRecipe given r → IsRecipe other r
recipe_of given other same r is =
    record {
      seed = λ text n e. is.seed text n (same (codes "random") ∙ e);
      count = λ text n e. is.count text n (same (codes "lines") ∙ e);
      usual = λ e. is.usual (same (codes "lines") ∙ e);
      made = subst (λ said. IsProfile said r.profile) (same (codes "profile")) is.made;
    }

script_mode_of : (given other : Text → Option Text) → AreSame given other → (m : Mode) → IsScriptMode given m → IsScriptMode other m
script_mode_of given other same m is =
    let no = unset given other same in
    record {
      makes = λ seed e. let made = is.makes seed (same (codes "random") ∙ e) in (made.0, made.1, recipe_of given other same made.0 made.2);
      judges = λ output a b. is.judges output (same (codes "random") ∙ a) (same (codes "judge") ∙ b);
      checks = λ a b c. is.checks (same (codes "random") ∙ a) (same (codes "judge") ∙ b) (same (codes "check") ∙ c);
      blanks = λ a b c d. is.blanks (same (codes "random") ∙ a) (same (codes "judge") ∙ b) (no (codes "check") c) (same (codes "blank") ∙ d);
      asks = λ a b c d e. is.asks (same (codes "random") ∙ a) (same (codes "judge") ∙ b) (no (codes "check") c) (no (codes "blank") d) (same (codes "ask") ∙ e);
      assembles = λ a b c d e f. is.assembles (same (codes "random") ∙ a) (same (codes "judge") ∙ b) (no (codes "check") c) (no (codes "blank") d) (no (codes "ask") e) (same (codes "assemble") ∙ f);
      explores = λ a b c d e f g. is.explores (same (codes "random") ∙ a) (same (codes "judge") ∙ b) (no (codes "check") c) (no (codes "blank") d) (no (codes "ask") e) (no (codes "assemble") f) (same (codes "schedules") ∙ g);
      runs = λ a b c d e f g. is.runs (same (codes "random") ∙ a) (same (codes "judge") ∙ b) (no (codes "check") c) (no (codes "blank") d) (no (codes "ask") e) (no (codes "assemble") f) (no (codes "schedules") g);
    }

pub mode_of : (given other : Text → Option Text) → AreSame given other → (m : Mode) → IsMode given m → IsMode other m
mode_of given other same m is =
    record {
      coded = λ name e. is.coded name (same (codes "code") ∙ e);
      ruled = λ text n a b. is.ruled text n (same (codes "code") ∙ a) (same (codes "rule") ∙ b);
      scripted = λ a b. script_mode_of given other same m (is.scripted (same (codes "code") ∙ a) (same (codes "rule") ∙ b));
    }

pub output_of : (given other : Text → Option Text) → AreSame given other → (o : RunOutput) → IsOutput given o → IsOutput other o
output_of given other same o is =
    let no = unset given other same in
    record {
      opened = λ a b. is.opened (same (codes "page") ∙ a) (same (codes "open") ∙ b);
      page = λ a b. is.page (same (codes "page") ∙ a) (no (codes "open") b);
      json = λ a b. is.json (no (codes "page") a) (same (codes "json") ∙ b);
      replies = λ a b. is.replies (no (codes "page") a) (no (codes "json") b);
    }
