use Rattle.std.proofs.Common.{codes}
use Rattle.clap.specs.Words.{App, with_rule}
use Rattle.fbr_words.specs.Program.{files, json, number, over_file, watched_by}
use Rattle.fbr_words.proofs.grammar.played.Goals as goal

pub returns : goal.returns
returns c =
    let app0 : App = over_file (codes "play") in
    let app1 : App = with_rule app0 (files (codes "STORY")) in
    let is1 = c.with-named.ensures app0 (files (codes "STORY")) c.over_file.ensures c.files.ensures.rule c.files.ensures.local in
    let is2 = c.watched-kept.ensures app1 is1 in
    let app2 : App = watched_by app1 in
    let is3 = c.with-reported.ensures app2 (number (codes "report")) is2 c.number.ensures.rule c.number.ensures.local in
    c.with.ensures (with_rule app2 (number (codes "report"))) json is3 c.json.ensures.rule c.json.ensures.local
