-- What clap gives the words of the program's command.
use Rattle.std.proofs.Common.{◌≡◌, ◌∙◌, ◌⊎◌, inl, inr, sym, ap, refl, true, List, Result, Ok, Err, IfOk}
use Rattle.clap.specs.Words.{App, HasMatchesOf, IsAmong, Kinds, Text, app_of, fault_of, first_of, first_value, found_of, is_simple, is_simple_and_free, matches_of}
use Rattle.clap.proofs.OnLiterals.{clap_on_literals}
use Rattle.clap.proofs.WalkLemmas.{first_value-rows}
use Rattle.clap.specs.declared.builder.command.Command.{Command}
use Rattle.clap.specs.declared.error.kind.ErrorKind.{ErrorKind}
use Rattle.clap.specs.declared.error.kind.ErrorKind.TheVariants.{OutOfMemory}
use Rattle.clap.specs.declared.parser.matches.ArgMatches.{ArgMatches}
use Rattle.mvsjob.specs.CommandLine.{AreParsers, FindsWrong, Parsers, assigned, command}

command_is_simple : (ps : Parsers) → is_simple (command ps) ≡ true
unfolding clap_on_literals
command_is_simple ps = refl

pub command_is_free : (ps : Parsers) → is_simple_and_free (command ps) ≡ true
unfolding clap_on_literals
command_is_free ps = refl

-- the kinds of an error are those that clap finds, or it is want of memory
pub kinds_found : (words : List Text) (ps : Parsers) (a : App) → AreParsers ps → a ≡ command ps → (kind : ErrorKind) → (kind ≡ OutOfMemory) ⊎ IsAmong kind (fault_of a words)
    → (kind ≡ OutOfMemory) ⊎ ((kinds : Kinds) × FindsWrong words kinds × IsAmong kind kinds)
kinds_found words ps a is same kind (inl memory) = inl memory
kinds_found words ps a is same kind (inr among) = inr (fault_of a words, (ps, is, ap (λ a. fault_of a words) (sym same)), among)

-- the first value of an argument in its matches
pub value_found : (c : Command) (words : List Text) (ps : Parsers) (m : ArgMatches) → app_of c ≡ command ps → HasMatchesOf (app_of c) words m → (name : Text) → first_value (found_of m) name ≡ assigned ps words name
value_found c words ps m is has name =
    let rows = (has (ap is_simple is ∙ command_is_simple ps)).0 ∙ ap (λ a. matches_of a words) is in
    first_value-rows (found_of m) name ∙ ap (first_of name) rows

-- what is so of each value, is so
pub if_ok : {T E : Type 0} (r : Result T E) (P Q : T → Type 0) → IfOk r P → ((x : T) → P x → Q x) → IfOk r Q
if_ok (Ok x) P Q h f = f x h
if_ok (Err e) P Q h f = tt
