use Rattle.std.proofs.Common.{codes}
use Rattle.clap.specs.Words.{App, with_rule}
use Rattle.fbr_words.specs.Program.{number, repeated}
use Rattle.fbr_words.proofs.grammar.watched.Goals as goal

pub returns : goal.returns
returns c = λ app is.
    let app1 : App = with_rule app (repeated (codes "watch")) in
    let app2 : App = with_rule app1 (number (codes "vcd")) in
    let app3 : App = with_rule app2 (number (codes "csv")) in
    let is1 = c.with-named.ensures app (repeated (codes "watch")) is c.repeated.ensures.rule c.repeated.ensures.local in
    let is2 = c.with-dumped.ensures app1 (number (codes "vcd")) is1 c.number.ensures.rule c.number.ensures.local in
    let is3 = c.with-listed.ensures app2 (number (codes "csv")) is2 c.number-2.ensures.rule c.number-2.ensures.local in
    c.with.ensures app3 (number (codes "timeline")) is3 c.number-3.ensures.rule c.number-3.ensures.local
