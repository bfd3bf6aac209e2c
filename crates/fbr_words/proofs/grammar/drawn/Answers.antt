use Rattle.std.proofs.Common.{codes}
use Rattle.clap.specs.Words.{App, with_rule}
use Rattle.fbr_words.specs.Program.{over_file, maybe_file, repeats, flat, chart, output}
use Rattle.fbr_words.proofs.grammar.drawn.Goals as goal

pub returns : goal.returns
returns c =
    let none : App = over_file (codes "draw") in
    let one : App = with_rule none (maybe_file (codes "CERT")) in
    let two : App = with_rule one repeats in
    let three : App = with_rule two flat in
    let four : App = with_rule three chart in
    let first = c.with-both.ensures none (maybe_file (codes "CERT")) c.over_file-alone.ensures c.maybe_file.ensures.rule c.maybe_file.ensures.local in
    let second = c.with-counted.ensures one repeats first c.repeats.ensures.rule c.repeats.ensures.local in
    let third = c.with-flattened.ensures two flat second c.flat.ensures.rule c.flat.ensures.local in
    let fourth = c.with-charted.ensures three chart third c.chart.ensures.rule c.chart.ensures.local in
    c.with.ensures four output fourth c.output.ensures.rule c.output.ensures.local
