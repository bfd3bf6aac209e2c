use Rattle.std.proofs.Common.{◌≡◌, refl, rules}
use Rattle.clap.specs.Words.{App, app_of, with_subcommand}
use Rattle.fbr_words.specs.Program.{bound, check, sim, play, explain, draw, serve, replay, pack, time, key, top}
use Rattle.fbr_words.proofs.grammar.commands.Goals as goal

pub returns : goal.returns
returns c =
    let one : App = with_subcommand top bound.top in
    let two : App = with_subcommand one check.top in
    let three : App = with_subcommand two sim.top in
    let four : App = with_subcommand three play.top in
    let five : App = with_subcommand four explain.top in
    let six : App = with_subcommand five draw.top in
    let top_is : app_of c.subcommand_required-top.result ≡ top = search rules in
    let first = c.with_command-finds.ensures top bound top_is c.bound.ensures refl in
    let second = c.with_command-checks.ensures one check first c.checked.ensures refl in
    let third = c.with_command-runs.ensures two sim second c.simulated.ensures refl in
    let fourth = c.with_command-plays.ensures three play third c.played.ensures refl in
    let fifth = c.with_command-explains.ensures four explain fourth c.explained.ensures refl in
    let sixth = c.with_command-draws.ensures five draw fifth c.drawn.ensures refl in
    let seven : App = with_subcommand six serve.top in
    let seventh = c.with_command-serves.ensures six serve sixth c.served.ensures refl in
    let eight : App = with_subcommand seven replay.top in
    let eighth = c.with_command-replays.ensures seven replay seventh c.replayed.ensures refl in
    let nine : App = with_subcommand eight pack.top in
    let ninth = c.with_command-packs.ensures eight pack eighth c.packed.ensures refl in
    let ten : App = with_subcommand nine time.top in
    let tenth = c.with_command-times.ensures nine time ninth c.timed.ensures refl in
    c.with_command.ensures ten key tenth c.keyed.ensures refl
