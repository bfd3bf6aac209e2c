use Rattle.std.proofs.Common.{codes}
use Rattle.clap.specs.Words.{App, with_rule}
use Rattle.fbr_words.specs.Program.{serve_by, number, set}
use Rattle.fbr_words.proofs.grammar.served_with.Goals as goal

pub returns : goal.returns
returns c =
    let app0 : App = serve_by in
    let app1 : App = with_rule app0 (number (codes "keys")) in
    let app2 : App = with_rule app1 (number (codes "state")) in
    let is1 = c.with-keyed.ensures app0 (number (codes "keys")) c.served_by.ensures c.number.ensures.rule c.number.ensures.local in
    let is2 = c.with-stated.ensures app1 (number (codes "state")) is1 c.number-2.ensures.rule c.number-2.ensures.local in
    c.with.ensures app2 (set (codes "unsealed")) is2 c.set.ensures.rule c.set.ensures.local
