use Rattle.fb_cert.specs.Views.{rows_in, texts_of, spans_of}
use Rattle.fb_cert.proofs.Tables.{adds_span, range_added, ok_so}
use Rattle.fb_cert.proofs.lists.Lists.add.Goals as goal

pub returns-in-Range-clause-added : goal.returns-in-Range-clause-added
returns-in-Range-clause-added c =
    let old = texts_of c.args.self.now.ranges in
    let new = texts_of c.add.new.rows in
    let path = c.in-Range.path.now in
    let interval = c.in-Range.interval in
    rw c.in-Range.is
    (ok_so
    (λ said h. range_added (rows_in c.args.self.now) path interval (spans_of new) said (adds_span old new path interval said h))
    c.add.result c.add.ensures.added)
