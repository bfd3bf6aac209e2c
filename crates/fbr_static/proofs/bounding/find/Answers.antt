use Rattle.std.proofs.Common.{string_bytes}
use Rattle.fbr_words.specs.Requests.{sought_of}
use Rattle.fbr_static.proofs.Tellings.{text_put, fault_told}
use Rattle.fbr_static.proofs.bounding.find.Goals as goal

pub returns-in-Ok-clause-told : goal.returns-in-Ok-clause-told
returns-in-Ok-clause-told g c = λ apart.
    let q = sought_of c.args.request in
    let before = g.S.Sources.contents c.args.files.now in
    text_put q (g.S.Sources.same c.args.files.now) (string_bytes c.in-Ok.text) before (g.S.Sources.contents c.put_out.new.files) (g.W.Write.contents c.args.output.now) (g.W.Write.contents c.put_out.new.output) c.put_out.result apart
    (c.in-Ok.ensures q before c.read_wanted-wanted.ensures) (rw c.as_str.ensures.value at c.put_out.ensures.told)

pub returns-clause-told : goal.returns-clause-told
returns-clause-told g c = λ apart.
    let q = sought_of c.args.request in
    let files = g.S.Sources.contents c.args.files.now in
    fault_told q (g.S.Sources.same c.args.files.now) c.in-Err.fault files (g.W.Write.contents c.args.output.now) (g.W.Write.contents c.refuse.new.output) c.refuse.result apart (c.in-Err.ensures q files c.read_wanted-wanted.ensures) c.refuse.ensures.told
