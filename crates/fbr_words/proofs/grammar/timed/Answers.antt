use Rattle.std.proofs.Common.{codes}
use Rattle.clap.specs.Words.{App, with_rule}
use Rattle.fbr_words.specs.Program.{over_files, number, json}
use Rattle.fbr_words.proofs.grammar.timed.Goals as goal

pub returns : goal.returns
returns c =
    let none : App = over_files (codes "time") in
    let one : App = with_rule none (number (codes "calibration")) in
    let two : App = with_rule one (number (codes "rate")) in
    let three : App = with_rule two (number (codes "from")) in
    let four : App = with_rule three (number (codes "to")) in
    let first = c.with-priced.ensures none (number (codes "calibration")) c.over_files-both.ensures c.number.ensures.rule c.number.ensures.local in
    let second = c.with-rated.ensures one (number (codes "rate")) first c.number-2.ensures.rule c.number-2.ensures.local in
    let third = c.with-begun.ensures two (number (codes "from")) second c.number-3.ensures.rule c.number-3.ensures.local in
    let fourth = c.with-ended.ensures three (number (codes "to")) third c.number-4.ensures.rule c.number-4.ensures.local in
    c.with.ensures four json fourth c.json.ensures.rule c.json.ensures.local
