use Rattle.std.proofs.Common.{codes}
use Rattle.clap.specs.Words.{App, with_rule}
use Rattle.fbr_words.specs.Program.{over_files, strict, allow, json, every}
use Rattle.fbr_words.proofs.grammar.checked.Goals as goal

pub returns : goal.returns
returns c =
    let none : App = over_files (codes "check") in
    let one : App = with_rule none strict in
    let two : App = with_rule one allow in
    let first = c.with-noted.ensures none strict c.over_files.ensures c.strict.ensures.rule c.strict.ensures.local in
    let second = c.with-allowed.ensures one allow first c.allow.ensures.rule c.allow.ensures.local in
    let three : App = with_rule two json in
    let third = c.with-printed.ensures two json second c.json.ensures.rule c.json.ensures.local in
    c.with.ensures three every third c.all.ensures.rule c.all.ensures.local
