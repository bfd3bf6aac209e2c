use Rattle.std.proofs.Common.{subst, sym}
use Rattle.fbr_files.specs.Writing.{LeavesAll}
use Rattle.fbr_words.specs.Program.{written_by}
use Rattle.fbr_words.specs.Requests.{asked_of, drawing_of, packing_of, sought_of}
use Rattle.fbr_static.proofs.Tellings.{all_one}
use Rattle.fbr.proofs.run.answer.Goals as goal

pub returns-in-Bound-clause-others : goal.returns-in-Bound-clause-others
returns-in-Bound-clause-others g c =
    subst (λ r. LeavesAll (g.S.Sources.same c.args.files.now) (written_by (asked_of r)) (g.S.Sources.contents c.args.files.now) (g.S.Sources.contents c.bound.new.files)) (sym c.in-Bound.is)
    (all_one (g.S.Sources.same c.args.files.now) (sought_of c.in-Bound.request).into (g.S.Sources.contents c.args.files.now) (g.S.Sources.contents c.bound.new.files) c.bound.ensures.others)

pub returns-in-Draw-clause-others : goal.returns-in-Draw-clause-others
returns-in-Draw-clause-others g c =
    subst (λ r. LeavesAll (g.S.Sources.same c.args.files.now) (written_by (asked_of r)) (g.S.Sources.contents c.args.files.now) (g.S.Sources.contents c.draw.new.files)) (sym c.in-Draw.is)
    (all_one (g.S.Sources.same c.args.files.now) (drawing_of c.in-Draw.request).into (g.S.Sources.contents c.args.files.now) (g.S.Sources.contents c.draw.new.files) c.draw.ensures.others)

pub returns-in-Pack-clause-others : goal.returns-in-Pack-clause-others
returns-in-Pack-clause-others g c =
    subst (λ r. LeavesAll (g.S.Sources.same c.args.files.now) (written_by (asked_of r)) (g.S.Sources.contents c.args.files.now) (g.S.Sources.contents c.pack.new.files)) (sym c.in-Pack.is)
    (all_one (g.S.Sources.same c.args.files.now) (packing_of c.in-Pack.request).into (g.S.Sources.contents c.args.files.now) (g.S.Sources.contents c.pack.new.files) c.pack.ensures.others)
