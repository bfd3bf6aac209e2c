use Rattle.std.proofs.Common.{codes}
use Rattle.clap.specs.Words.{App, with_rule}
use Rattle.fbr_words.specs.Program.{file, over_files, needed_number, repeated}
use Rattle.fbr_words.proofs.grammar.served_at.Goals as goal

pub returns : goal.returns
returns c =
    let app0 : App = over_files (codes "serve") in
    let app1 : App = with_rule app0 (file (codes "DEVICE")) in
    let app2 : App = with_rule app1 (needed_number (codes "bind")) in
    let is1 = c.with-device.ensures app0 (file (codes "DEVICE")) c.over_files-both.ensures c.file.ensures.rule c.file.ensures.local in
    let is2 = c.with-bound.ensures app1 (needed_number (codes "bind")) is1 c.needed_number.ensures.rule c.needed_number.ensures.local in
    c.with.ensures app2 (repeated (codes "from")) is2 c.repeated.ensures.rule c.repeated.ensures.local
