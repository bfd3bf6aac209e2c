use Rattle.std.proofs.Common.{◌≡◌, [], subst, map, List}
use Rattle.std.specs.Prelude.{option_and_then}
use Rattle.clap.specs.Words.{Text, HasKind, app_of, fault_of, subcommand_rows_of}
use Rattle.fbr_words.specs.Program.{program, order_in}
use Rattle.fbr_words.proofs.Entered.{rows_taken, asked_of_taken}
use Rattle.fbr_words.proofs.Taken.{free_app}
use Rattle.fbr_words.proofs.Misreading.{asked_words, misread_words}
use Rattle.fbr_words.proofs.reading.read_words.Goals as goal

pub returns-in-Ok-try_get_matches_from-clause-asked : goal.returns-in-Ok-try_get_matches_from-clause-asked
returns-in-Ok-try_get_matches_from-clause-asked c =
    let words : List Text = map (λ word. word.now) c.args.words.now in
    let m = c.in-Ok-try_get_matches_from.matches in
    let program_is : app_of c.in-Ok.command ≡ program = c.in-Ok.ensures in
    let taken : fault_of program words ≡ [] = subst (λ a. fault_of a words ≡ []) program_is (c.in-Ok-try_get_matches_from.ensures.kinds (free_app _ program_is)) in
    let rows = rows_taken _ program_is words m c.in-Ok-try_get_matches_from.ensures.matches in
    asked_words words (option_and_then order_in (subcommand_rows_of m)) c.order.result (asked_of_taken words m taken rows) c.order.ensures.asked

pub returns-in-Ok-try_get_matches_from-clause-misread : goal.returns-in-Ok-try_get_matches_from-clause-misread
returns-in-Ok-try_get_matches_from-clause-misread c =
    let words : List Text = map (λ word. word.now) c.args.words.now in
    let m = c.in-Ok-try_get_matches_from.matches in
    let program_is : app_of c.in-Ok.command ≡ program = c.in-Ok.ensures in
    let taken : fault_of program words ≡ [] = subst (λ a. fault_of a words ≡ []) program_is (c.in-Ok-try_get_matches_from.ensures.kinds (free_app _ program_is)) in
    let rows = rows_taken _ program_is words m c.in-Ok-try_get_matches_from.ensures.matches in
    misread_words words (option_and_then order_in (subcommand_rows_of m)) c.order.result (asked_of_taken words m taken rows) c.order.ensures.asked c.order.ensures.number

pub returns-in-Err-try_get_matches_from-clause-misread : goal.returns-in-Err-try_get_matches_from-clause-misread
returns-in-Err-try_get_matches_from-clause-misread c =
    let words : List Text = map (λ word. word.now) c.args.words.now in
    let error = c.in-Err-try_get_matches_from.error in
    let program_is : app_of c.in-Ok.command ≡ program = c.in-Ok.ensures in
    let kinds : HasKind (fault_of program words) error = subst (λ a. HasKind (fault_of a words) error) program_is (c.in-Err-try_get_matches_from.ensures.kinds (free_app _ program_is)) in
    c.unmatched.ensures words kinds
