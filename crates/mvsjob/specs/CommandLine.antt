-- What the words of the command line say, the program's name first. (this project's choice)
use Rattle.std.specs.Prelude.{◌≡◌, ◌≢◌, ◌↔◌, ◌<◌, ◌≤◌, ◌^◌, ℕ, Bool, IsTrue, List, [], ◌∷◌, codes, map, Option, Some, None, true, false, option_map}
use Rattle.std.specs.Option.{unwrap_or}
use Rattle.clap.specs.Words.{App, Kinds, Text, fault_of, first_of, matches_of, new_app, new_rule, takes, with_rule}
use Rattle.clap.specs.Simple.{on_top}
use Rattle.clap.specs.Walk.{Rule}
use Rattle.clap.specs.declared.builder.action.ArgAction.TheVariants.{SetTrue}
use Rattle.clap.specs.declared.builder.value_parser.ValueParser.{ValueParser}
use Rattle.clap.specs.declared.builder.value_parser.ValueParser.TheVariants.{Names, NonEmptyString, Unsigned}
use Rattle.expected_answers.specs.declared.report.Format.{Format}
use Rattle.expected_answers.specs.declared.report.Format.TheVariants as form
use Rattle.mvsjob.specs.declared.options.Color.{Color}
use Rattle.mvs_model.specs.declared.want.Placement.TheVariants.{High}
use Rattle.mvsjob.specs.declared.options.Recipe.{Recipe}
use Rattle.mvsjob.specs.declared.options.RunOutput.{RunOutput}
use Rattle.mvsjob.specs.declared.options.RunOutput.TheVariants.{Replies, Json, Page, PageFile}
use Rattle.mvsjob.specs.declared.options.Settings.{Settings}
use Rattle.random_script.specs.declared.Profile.{Profile}
use Rattle.reference.specs.Texts.{names}
use Rattle.random_script.specs.declared.Profile.TheVariants.{Tasks, Pools, Tidy, Faults, Lists, Boundaries, Whole, All, Storage}
use Rattle.mvsjob.specs.declared.options.Color.TheVariants.{Auto, Always, Never}
use Rattle.std.specs.Str.Parse.{IsNumeral, digits_value, without_leading_plus}
use Rattle.mvsjob.specs.declared.options.Mode.{Mode}
use Rattle.mvsjob.specs.declared.options.Mode.TheVariants.{Run, Check, Judge, Blank, Ask, Assemble, Schedules, Random, Code, Rule as RuleOf}

-- A value has to be one of these.
abbrev pub IsOneOf : List Text → ValueParser → Type 0
IsOneOf values (Names names) = map (λ name. name.now) names.now ≡ values
IsOneOf values _ = ⊥

-- how the values of `--place`, `--format`, `--profile`, `--color` and `--code` are read
pub record Parsers : Type 0 where
  pub place : ValueParser
  pub format : ValueParser
  pub profile : ValueParser
  pub color : ValueParser
  pub code : ValueParser

-- the values of `--place`
abbrev pub places : List Text
places = codes "low" ∷ codes "high" ∷ []

-- the values of `--format`
abbrev pub formats : List Text
formats = codes "text" ∷ codes "tap" ∷ codes "junit" ∷ []

-- the values of `--profile`
abbrev pub profiles : List Text
profiles = codes "storage" ∷ codes "tasks" ∷ codes "pools" ∷ codes "tidy" ∷ codes "faults" ∷ codes "lists" ∷ codes "boundaries" ∷ codes "whole" ∷ codes "all" ∷ []

-- the values of `--color`
abbrev pub colors : List Text
colors = codes "auto" ∷ codes "always" ∷ codes "never" ∷ []

pub record AreParsers (ps : Parsers) : Type 0 where
  pub place : IsOneOf places ps.place
  pub format : IsOneOf formats ps.format
  pub profile : IsOneOf profiles ps.profile
  pub color : IsOneOf colors ps.color
  pub code : IsOneOf names ps.code

-- an option without a value
abbrev pub flag_rule : Text → Rule
flag_rule name = record (new_rule name) { long = Some name; action = Some SetTrue }

-- an option with a value, for which the help has one name
abbrev pub value_rule : Text → ValueParser → Rule
value_rule name parser = record (new_rule name) { long = Some name; parser = Some parser; value_names = 1 }

-- a command that has a version, for which `-V` and `--version` ask
abbrev pub versioned : App → App
versioned a = on_top (λ s. record s { has_version = true }) a

-- the command with the options that compare answers
abbrev pub checking_app : App → App
checking_app a = with_rule (with_rule a (flag_rule (codes "check"))) (flag_rule (codes "hide"))

-- with what else is done with a script and its answers
abbrev pub answers_app : App → App
answers_app a = with_rule (with_rule a (flag_rule (codes "blank"))) (flag_rule (codes "assemble"))

-- with what is asked of the output of another program
abbrev pub judging_app : App → App
judging_app a = with_rule (with_rule a (value_rule (codes "judge") NonEmptyString)) (flag_rule (codes "ask"))

-- and with a random script: its seed and its lines
abbrev pub random_app : App → App
random_app a = with_rule (with_rule a (value_rule (codes "random") (Unsigned 0 18446744073709551615))) (value_rule (codes "lines") (Unsigned 1 1000000))

-- and with the options for the output of a run
abbrev pub output_app : App → App
output_app a =
    with_rule (with_rule (with_rule (with_rule (with_rule (with_rule (with_rule a (flag_rule (codes "explain"))) (flag_rule (codes "leaks"))) (flag_rule (codes "json"))) (flag_rule (codes "page")))
    (flag_rule (codes "open"))) (flag_rule (codes "strict"))) (flag_rule (codes "interactive"))

-- and with the option for the text of a rule
abbrev pub rule_app : App → App
rule_app a = with_rule a (value_rule (codes "rule") (Unsigned 1 74))

-- and with the option for the script of a second run
abbrev pub second_app : App → App
second_app a = with_rule a (value_rule (codes "with") NonEmptyString)

-- and with the options for the schedules of a script
abbrev pub schedules_app : App → App
schedules_app a =
    with_rule (with_rule (with_rule (with_rule (with_rule a (flag_rule (codes "schedules"))) (value_rule (codes "schedule") NonEmptyString)) (value_rule (codes "with-schedule") NonEmptyString))
    (value_rule (codes "most") (Unsigned 1 1000000000))) (flag_rule (codes "ignore-addresses"))

-- the program's command: a word and twenty-seven options, which may all be left out, and a version
abbrev pub command : Parsers → App
command ps =
    schedules_app (second_app (rule_app (with_rule (with_rule (output_app (with_rule (random_app (judging_app (answers_app (with_rule (checking_app
    (with_rule (with_rule (versioned (new_app (codes "mvsjob"))) (new_rule (codes "FILE"))) (value_rule (codes "place") ps.place))) (value_rule (codes "format") ps.format)))))
    (value_rule (codes "profile") ps.profile))) (value_rule (codes "color") ps.color)) (value_rule (codes "code") ps.code))))

-- what of the words clap gives to an argument
abbrev pub assigned : Parsers → List Text → Text → Option Text
assigned ps words name = first_of name (matches_of (command ps) words)

-- A text is a number.
abbrev pub IsNumber : Text → ℕ → Type 0
IsNumber text n = IsNumeral 10 (without_leading_plus text) × (digits_value 10 (without_leading_plus text) ≡ n)

-- A random script is of the profile that `--profile` names, and of storage where it names none.
pub record IsProfile (said : Option Text) (profile : Profile) : Type 0 where
  pub tasks : said ≡ Some (codes "tasks") → profile ≡ Tasks
  pub pools : said ≢ Some (codes "tasks") → said ≡ Some (codes "pools") → profile ≡ Pools
  pub tidy : said ≢ Some (codes "tasks") → said ≢ Some (codes "pools") → said ≡ Some (codes "tidy") → profile ≡ Tidy
  pub faults : said ≢ Some (codes "tasks") → said ≢ Some (codes "pools") → said ≢ Some (codes "tidy") → said ≡ Some (codes "faults") → profile ≡ Faults
  pub lists : said ≢ Some (codes "tasks") → said ≢ Some (codes "pools") → said ≢ Some (codes "tidy") → said ≢ Some (codes "faults") → said ≡ Some (codes "lists") → profile ≡ Lists
  pub boundaries : said ≢ Some (codes "tasks") → said ≢ Some (codes "pools") → said ≢ Some (codes "tidy") → said ≢ Some (codes "faults") → said ≢ Some (codes "lists") → said ≡ Some (codes "boundaries") → profile ≡ Boundaries
  pub whole : said ≢ Some (codes "tasks") → said ≢ Some (codes "pools") → said ≢ Some (codes "tidy") → said ≢ Some (codes "faults") → said ≢ Some (codes "lists") → said ≢ Some (codes "boundaries") → said ≡ Some (codes "whole") → profile ≡ Whole
  pub all : said ≢ Some (codes "tasks") → said ≢ Some (codes "pools") → said ≢ Some (codes "tidy") → said ≢ Some (codes "faults") → said ≢ Some (codes "lists") → said ≢ Some (codes "boundaries") → said ≢ Some (codes "whole") → said ≡ Some (codes "all") → profile ≡ All
  pub storage : said ≢ Some (codes "tasks") → said ≢ Some (codes "pools") → said ≢ Some (codes "tidy") → said ≢ Some (codes "faults") → said ≢ Some (codes "lists") → said ≢ Some (codes "boundaries") → said ≢ Some (codes "whole") → said ≢ Some (codes "all") → profile ≡ Storage

-- An option without a value is given.
abbrev pub IsSet : (Text → Option Text) → Text → Type 0
IsSet given name = given name ≡ Some (codes "true")

-- It is not.
abbrev pub IsUnset : (Text → Option Text) → Text → Type 0
IsUnset given name = given name ≢ Some (codes "true")

-- It has the seed that `--random` has, and the lines that `--lines` has, or 100.
pub record IsRecipe (given : Text → Option Text) (recipe : Recipe) : Type 0 where
  pub seed : (text : Text) (n : ℕ) → given (codes "random") ≡ Some text → IsNumber text n → n < 2 ^ 64 → recipe.seed ≡ n
  pub count : (text : Text) (n : ℕ) → given (codes "lines") ≡ Some text → IsNumber text n → n ≤ 1000000 → recipe.lines ≡ n
  pub usual : given (codes "lines") ≡ None → recipe.lines ≡ 100
  pub made : IsProfile (given (codes "profile")) recipe.profile

-- A random script is made if `--random` is given; else an output is judged with `--judge`; else answers are compared with
-- `--check`, removed with `--blank`, WHERE statements added with `--ask`, a program written with `--assemble`, or all schedules run with
-- `--schedules`; else the script is run.
pub record IsScriptMode (given : Text → Option Text) (mode : Mode) : Type 0 where
  pub makes : (seed : Text) → given (codes "random") ≡ Some seed → (recipe : Recipe) × (mode ≡ Random recipe) × IsRecipe given recipe
  pub judges : (output : Text) → given (codes "random") ≡ None → given (codes "judge") ≡ Some output → mode ≡ Judge
  pub checks : given (codes "random") ≡ None → given (codes "judge") ≡ None → IsSet given (codes "check") → mode ≡ Check
  pub blanks : given (codes "random") ≡ None → given (codes "judge") ≡ None → IsUnset given (codes "check") → IsSet given (codes "blank") → mode ≡ Blank
  pub asks : given (codes "random") ≡ None → given (codes "judge") ≡ None → IsUnset given (codes "check") → IsUnset given (codes "blank") → IsSet given (codes "ask") → mode ≡ Ask
  pub assembles : given (codes "random") ≡ None → given (codes "judge") ≡ None → IsUnset given (codes "check") → IsUnset given (codes "blank") → IsUnset given (codes "ask") → IsSet given (codes "assemble") → mode ≡ Assemble
  pub explores : given (codes "random") ≡ None → given (codes "judge") ≡ None → IsUnset given (codes "check") → IsUnset given (codes "blank") → IsUnset given (codes "ask") → IsUnset given (codes "assemble") → IsSet given (codes "schedules") → mode ≡ Schedules
  pub runs : given (codes "random") ≡ None → given (codes "judge") ≡ None → IsUnset given (codes "check") → IsUnset given (codes "blank") → IsUnset given (codes "ask") → IsUnset given (codes "assemble") → IsUnset given (codes "schedules") → mode ≡ Run

-- The text of a code is printed if `--code` is given; else that of the rule that `--rule` names; else a script is served.
pub record IsMode (given : Text → Option Text) (mode : Mode) : Type 0 where
  pub coded : (name : Text) → given (codes "code") ≡ Some name → mode ≡ Code
  pub ruled : (text : Text) (n : ℕ) → given (codes "code") ≡ None → given (codes "rule") ≡ Some text → IsNumber text n → n ≤ 74 → mode ≡ RuleOf n
  pub scripted : given (codes "code") ≡ None → given (codes "rule") ≡ None → IsScriptMode given mode

-- whether a run writes a page
abbrev pub is_page : RunOutput → Bool
is_page Page = true
is_page PageFile = true
is_page Replies = false
is_page Json = false

-- A run writes a page if `--page` is given, and with `--open` a new file that has it; else lines of JSON with `--json`; else the replies.
pub record IsOutput (given : Text → Option Text) (output : RunOutput) : Type 0 where
  pub opened : IsSet given (codes "page") → IsSet given (codes "open") → output ≡ PageFile
  pub page : IsSet given (codes "page") → IsUnset given (codes "open") → output ≡ Page
  pub json : IsUnset given (codes "page") → IsSet given (codes "json") → output ≡ Json
  pub replies : IsUnset given (codes "page") → IsUnset given (codes "json") → output ≡ Replies

-- Answers are coloured where `--color` says `always`, not where it says `never`, and else as it is found out.
pub record IsColor (said : Option Text) (color : Color) : Type 0 where
  pub always : said ≡ Some (codes "always") → color ≡ Always
  pub never : said ≢ Some (codes "always") → said ≡ Some (codes "never") → color ≡ Never
  pub auto : said ≢ Some (codes "always") → said ≢ Some (codes "never") → color ≡ Auto

-- Clap takes the words.
abbrev pub IsTaken : List Text → Type 0
IsTaken words = (ps : Parsers) → AreParsers ps → takes (command ps) words ≡ true

-- Clap finds this wrong with the words: the kinds of error that it may give, and none where it takes them.
abbrev pub FindsWrong : List Text → Kinds → Type 0
FindsWrong words kinds = (ps : Parsers) × AreParsers ps × (fault_of (command ps) words ≡ kinds)

-- A report is in the form that `--format` names, and text where it names none.
pub record IsFormat (said : Option Text) (format : Format) : Type 0 where
  pub tap : said ≡ Some (codes "tap") → format ≡ form.Tap
  pub junit : said ≢ Some (codes "tap") → said ≡ Some (codes "junit") → format ≡ form.Junit
  pub text : said ≢ Some (codes "tap") → said ≢ Some (codes "junit") → format ≡ form.Text

-- The number of schedules that are run at most is that of `--most`, or 1,000,000.
pub record IsMost (said : Option Text) (most : ℕ) : Type 0 where
  pub count : (text : Text) (n : ℕ) → said ≡ Some text → IsNumber text n → n ≤ 1000000000 → most ≡ n
  pub usual : said ≡ None → most ≡ 1000000

-- The settings are those that the words say, of which this is what each option is given.
pub record AreSettings (given : Text → Option Text) (s : Settings) : Type 0 where
  pub file : s.file.now ≡ unwrap_or (given (codes "FILE")) (codes "-")
  pub place : s.placement ≡ High ↔ given (codes "place") ≡ Some (codes "high")
  pub judged : s.judged.now ≡ unwrap_or (given (codes "judge")) []
  pub second : option_map (λ file. file.now) s.second ≡ given (codes "with")
  pub code : s.code.now ≡ unwrap_or (given (codes "code")) []
  pub mode : IsMode given s.mode
  pub output : IsOutput given s.output
  pub explains : IsTrue s.explains ↔ IsSet given (codes "explain")
  pub leaks : IsTrue s.leaks ↔ IsSet given (codes "leaks")
  pub strict : IsTrue s.strict ↔ IsSet given (codes "strict")
  pub interactive : IsTrue s.interactive ↔ IsSet given (codes "interactive")
  pub color : IsColor (given (codes "color")) s.color
  pub format : IsFormat (given (codes "format")) s.form.format
  pub hidden : IsTrue s.form.is_hidden ↔ IsSet given (codes "hide")
  pub schedule : option_map (λ order. order.now) s.schedule ≡ given (codes "schedule")
  pub second_schedule : option_map (λ order. order.now) s.second_schedule ≡ given (codes "with-schedule")
  pub most : IsMost (given (codes "most")) s.most
  pub ignores : IsTrue s.ignores_addresses ↔ IsSet given (codes "ignore-addresses")
