use Rattle.std.proofs.Common.{codes}
use Rattle.clap.specs.Words.{App, with_rule}
use Rattle.fbr_words.specs.Program.{over_file, repeats, output, ranges}
use Rattle.fbr_words.specs.Program as program
use Rattle.fbr_words.proofs.grammar.bound.Goals as goal

pub returns : goal.returns
returns c =
    let none : App = over_file (codes "bound") in
    let one : App = with_rule none repeats in
    let two : App = with_rule one output in
    let three : App = with_rule two ranges in
    let four : App = with_rule three program.search in
    let first = c.with-counted.ensures none repeats c.over_file.ensures c.repeats.ensures.rule c.repeats.ensures.local in
    let second = c.with-written.ensures one output first c.output.ensures.rule c.output.ensures.local in
    let third = c.with-ranged.ensures two ranges second c.ranges-2.ensures.rule c.ranges-2.ensures.local in
    let fourth = c.with-searched.ensures three program.search third c.search.ensures.rule c.search.ensures.local in
    let five : App = with_rule four program.room in
    let fifth = c.with-roomed.ensures four program.room fourth c.room.ensures.rule c.room.ensures.local in
    let six : App = with_rule five program.strict in
    let sixth = c.with-noted.ensures five program.strict fifth c.strict.ensures.rule c.strict.ensures.local in
    let seven : App = with_rule six program.allow in
    let seventh = c.with-allowed.ensures six program.allow sixth c.allow.ensures.rule c.allow.ensures.local in
    let eight : App = with_rule seven program.json in
    let eighth = c.with-printed.ensures seven program.json seventh c.json.ensures.rule c.json.ensures.local in
    c.with.ensures eight program.every eighth c.all.ensures.rule c.all.ensures.local
