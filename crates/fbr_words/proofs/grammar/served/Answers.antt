use Rattle.std.proofs.Common.{codes}
use Rattle.clap.specs.Words.{App, with_rule}
use Rattle.fbr_words.specs.Program.{serve_with, number, set, peers}
use Rattle.fbr_words.proofs.grammar.served.Goals as goal

pub returns : goal.returns
returns c =
    let app0 : App = serve_with in
    let app1 : App = with_rule app0 (set (codes "verbose")) in
    let app2 : App = with_rule app1 (number (codes "summary")) in
    let app3 : App = with_rule app2 (set (codes "clock")) in
    let app4 : App = with_rule app3 (set (codes "stop-on-lost-output")) in
    let is1 = c.with-told.ensures app0 (set (codes "verbose")) c.served_with.ensures c.set.ensures.rule c.set.ensures.local in
    let is2 = c.with-summed.ensures app1 (number (codes "summary")) is1 c.number.ensures.rule c.number.ensures.local in
    let is3 = c.with-timed.ensures app2 (set (codes "clock")) is2 c.set-2.ensures.rule c.set-2.ensures.local in
    let is4 = c.with-ending.ensures app3 (set (codes "stop-on-lost-output")) is3 c.set-3.ensures.rule c.set-3.ensures.local in
    c.with.ensures app4 peers is4 c.peers.ensures.rule c.peers.ensures.local
