-- What clap's answer says of the words.
use Rattle.std.proofs.Common.{◌≡◌, ◌∙◌, ap, refl, sym, subst, inl, inr, List, [], true}
use Rattle.std.specs.Prelude.{Ok, Err, ◌⊎◌}
use Rattle.clap.specs.Walk.{Row, Text}
use Rattle.clap.specs.Simple.{App, HasMatchesOf, is_simple, matches_of}
use Rattle.clap.specs.Faults.{fault_of, is_simple_and_free}
use Rattle.clap.specs.Kinds.{Kinds, FailsBy, IsAmong}
use Rattle.clap.specs.Values.{kind_of}
use Rattle.clap.specs.declared.error.Error.{Error}
use Rattle.clap.specs.declared.error.kind.ErrorKind.{ErrorKind}
use Rattle.clap.specs.declared.error.kind.ErrorKind.TheVariants.{OutOfMemory}
use Rattle.clap.specs.declared.parser.matches.ArgMatches.{ArgMatches}
use Rattle.clap.proofs.OnLiterals.{clap_on_literals}
use Rattle.run_words.specs.Command.{the_command, Answers, error_by}

simple : is_simple the_command ≡ true
unfolding the_command clap_on_literals
simple = refl

free : is_simple_and_free the_command ≡ true
unfolding the_command clap_on_literals
free = refl

pub answers_ok : (app : App) (words : List Text) (m : ArgMatches) → app ≡ the_command → HasMatchesOf app words m
    → (is_simple_and_free app ≡ true → FailsBy (fault_of app words) (Ok m)) → Answers (fault_of the_command words) (matches_of the_command words) (Ok m)
answers_ok app words m e matches kinds =
    let found = matches (ap is_simple e ∙ simple) in
    let none = kinds (ap is_simple_and_free e ∙ free) in
    (ap (λ (a : App). fault_of a words) (sym e) ∙ none, found.0 ∙ ap (λ (a : App). matches_of a words) e)

among_none : (k : ErrorKind) (kinds : Kinds) → IsAmong k kinds → kinds ≡ [] → ⊥
among_none k kinds h e = subst (λ (ks : Kinds). IsAmong k ks) e h

-- every error but want of memory is a refusal
refusal : (k : ErrorKind) (kinds : Kinds) (rows : List Row) → (kinds ≡ [] → ⊥) → Answers kinds rows (Err (error_by k))
refusal OutOfMemory kinds rows never = tt
refusal k kinds rows never = (refl, never)

by_kind : (k : ErrorKind) (kinds : Kinds) (rows : List Row) → (k ≡ OutOfMemory) ⊎ IsAmong k kinds → Answers kinds rows (Err (error_by k))
by_kind k kinds rows (inl e) = subst (λ (x : ErrorKind). Answers kinds rows (Err (error_by x))) (sym e) tt
by_kind k kinds rows (inr h) = refusal k kinds rows (among_none k kinds h)

pub answers_err : (app : App) (words : List Text) (e : Error) → app ≡ the_command
    → (is_simple_and_free app ≡ true → FailsBy {T = ArgMatches} (fault_of app words) (Err e)) → Answers (fault_of the_command words) (matches_of the_command words) (Err (error_by (kind_of e)))
answers_err app words e is kinds =
    let fails = kinds (ap is_simple_and_free is ∙ free) in
    subst (λ (ks : Kinds). Answers ks (matches_of the_command words) (Err (error_by (kind_of e)))) (ap (λ (a : App). fault_of a words) is)
    (by_kind (kind_of e) (fault_of app words) (matches_of the_command words) fails)
