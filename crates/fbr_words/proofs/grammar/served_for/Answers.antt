use Rattle.std.proofs.Common.{codes}
use Rattle.clap.specs.Words.{App, with_rule}
use Rattle.fbr_words.specs.Program.{serve_at, number, set}
use Rattle.fbr_words.proofs.grammar.served_for.Goals as goal

pub returns : goal.returns
returns c =
    let app0 : App = serve_at in
    let app1 : App = with_rule app0 (number (codes "turns")) in
    let app2 : App = with_rule app1 (set (codes "until-eof")) in
    let app3 : App = with_rule app2 (number (codes "boot")) in
    let is1 = c.with-counted.ensures app0 (number (codes "turns")) c.served_at.ensures c.number.ensures.rule c.number.ensures.local in
    let is2 = c.with-ended.ensures app1 (set (codes "until-eof")) is1 c.set.ensures.rule c.set.ensures.local in
    let is3 = c.with-booted.ensures app2 (number (codes "boot")) is2 c.number-2.ensures.rule c.number-2.ensures.local in
    c.with.ensures app3 (number (codes "boot-file")) is3 c.number-3.ensures.rule c.number-3.ensures.local
