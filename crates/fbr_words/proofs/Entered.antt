-- From what clap says of words to what they ask for.
use Rattle.std.proofs.Common.{◌≡◌, refl, sym, ap, subst, ◌∙◌, true, List, [], ◌∷◌, Option, None, Some, inl, inr}
use Rattle.std.specs.Prelude.{option_and_then}
use Rattle.clap.specs.Words.{App, Text, Kinds, HasKind, IsAmong, HasMatchesOf, is_simple, subcommand_of, subcommand_rows_of, fault_of}
use Rattle.clap.specs.Values.{kind_of}
use Rattle.clap.specs.declared.error.Error.{Error}
use Rattle.clap.specs.declared.error.kind.ErrorKind.{ErrorKind}
use Rattle.clap.specs.declared.error.kind.ErrorKind.TheVariants.{OutOfMemory}
use Rattle.clap.specs.declared.parser.matches.ArgMatches.{ArgMatches}
use Rattle.clap.proofs.OnLiterals.{clap_on_literals}
use Rattle.fbr_words.specs.Program.{program, order_in, request_of, unless_fault}

is_simple_program : is_simple program ≡ true
unfolding clap_on_literals
is_simple_program = refl

-- what is matched is what the program's words say
pub rows_taken : (a : App) → a ≡ program → (words : List Text) (m : ArgMatches) → HasMatchesOf a words m → subcommand_rows_of m ≡ subcommand_of program words
rows_taken a e words m h = (subst (λ (b : App). HasMatchesOf b words m) e h is_simple_program).1

-- words without a fault ask for what their subcommand asks for
pub asked_of_taken : (words : List Text) (m : ArgMatches) → fault_of program words ≡ [] → subcommand_rows_of m ≡ subcommand_of program words
    → request_of words ≡ option_and_then order_in (subcommand_rows_of m)
asked_of_taken words m taken rows = ap (λ k. unless_fault k (option_and_then order_in (subcommand_of program words))) taken ∙ ap (option_and_then order_in) (sym rows)

among_none : {X : Type 0} (k : ErrorKind) (kinds : Kinds) (x : Option X) → IsAmong k kinds → unless_fault kinds x ≡ None
among_none k [] x h = absurd h
among_none k (j ∷ kinds) x h = refl

-- words with a fault ask for nothing
pub asked_of_fault : (words : List Text) (k : ErrorKind) → IsAmong k (fault_of program words) → request_of words ≡ None
asked_of_fault words k h = among_none k (fault_of program words) (option_and_then order_in (subcommand_of program words)) h

-- an error that is not want of memory is of a fault of the words
pub fault_in : (words : List Text) (e : Error) (k : ErrorKind) → kind_of e ≡ k → (k ≡ OutOfMemory → ⊥) → HasKind (fault_of program words) e → IsAmong k (fault_of program words)
fault_in words e k is not (inl m) = absurd (not (sym is ∙ m))
fault_in words e k is not (inr m) = subst (λ j. IsAmong j (fault_of program words)) is m
