use Rattle.std.proofs.Common.{codes}
use Rattle.clap.specs.Words.{App, with_rule}
use Rattle.fbr_words.specs.Program.{over_file, maybe_file, repeats, strict, allow, json, every}
use Rattle.fbr_words.proofs.grammar.explained.Goals as goal

pub returns : goal.returns
returns c =
    let none : App = over_file (codes "explain") in
    let one : App = with_rule none (maybe_file (codes "CERT")) in
    let two : App = with_rule one repeats in
    let first = c.with-both.ensures none (maybe_file (codes "CERT")) c.over_named-alone.ensures c.maybe_file.ensures.rule c.maybe_file.ensures.local in
    let second = c.with-counted.ensures one repeats first c.repeats.ensures.rule c.repeats.ensures.local in
    let three : App = with_rule two strict in
    let third = c.with-noted.ensures two strict second c.strict.ensures.rule c.strict.ensures.local in
    let four : App = with_rule three allow in
    let fourth = c.with-allowed.ensures three allow third c.allow.ensures.rule c.allow.ensures.local in
    let five : App = with_rule four json in
    let fifth = c.with-printed.ensures four json fourth c.json.ensures.rule c.json.ensures.local in
    c.with.ensures five every fifth c.all.ensures.rule c.all.ensures.local
