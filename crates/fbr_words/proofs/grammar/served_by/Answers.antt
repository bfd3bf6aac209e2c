use Rattle.std.proofs.Common.{codes}
use Rattle.clap.specs.Words.{App, with_rule}
use Rattle.fbr_words.specs.Program.{serve_for, number, set}
use Rattle.fbr_words.proofs.grammar.served_by.Goals as goal

pub returns : goal.returns
returns c =
    let app0 : App = serve_for in
    let app1 : App = with_rule app0 (number (codes "record")) in
    let is1 = c.with-recorded.ensures app0 (number (codes "record")) c.served_for.ensures c.number.ensures.rule c.number.ensures.local in
    c.with.ensures app1 (set (codes "sync")) is1 c.set.ensures.rule c.set.ensures.local
