use Rattle.std.proofs.Common.{codes}
use Rattle.clap.specs.Words.{App, with_rule}
use Rattle.fbr_words.specs.Program.{file, json, over_files, set, watched_by}
use Rattle.fbr_words.proofs.grammar.replayed.Goals as goal

pub returns : goal.returns
returns c =
    let app0 : App = over_files (codes "replay") in
    let app1 : App = with_rule app0 (file (codes "RECORD")) in
    let app2 : App = with_rule app1 (set (codes "verbose")) in
    let app3 : App = with_rule app2 (set (codes "clock")) in
    let is1 = c.with-recorded.ensures app0 (file (codes "RECORD")) c.over_files-both.ensures c.file.ensures.rule c.file.ensures.local in
    let is2 = c.with-told.ensures app1 (set (codes "verbose")) is1 c.set.ensures.rule c.set.ensures.local in
    let is3 = c.with-timed.ensures app2 (set (codes "clock")) is2 c.set-2.ensures.rule c.set-2.ensures.local in
    c.with.ensures (watched_by app3) json (c.watched-kept.ensures app3 is3) c.json.ensures.rule c.json.ensures.local
