use Rattle.std.proofs.Common.{subst}
use Rattle.fbr_texts.specs.Once.{written_of}
use Rattle.fbr.specs.Together.{IsApplicationAdded, IsOwnFault}
use Rattle.fbr.proofs.together.add_last.Goals as goal

pub returns-in-Ok : goal.returns-in-Ok
returns-in-Ok g c = subst (λ name. IsApplicationAdded (g.S.Sources.contents c.args.files.now c.args.name.now) name (written_of c.args.joining.now) (written_of c.add_application.new.joining)) c.read_file-file.ensures.named
    (c.in-Ok.ensures (g.S.Sources.contents c.args.files.now c.args.name.now) c.read_file-file.ensures.held)

pub returns : goal.returns
returns g c = (
  subst (λ name. IsOwnFault (g.S.Sources.contents c.args.files.now c.args.name.now) name c.in-Err.fault) c.read_file-file.ensures.named
      (c.in-Err.ensures (g.S.Sources.contents c.args.files.now c.args.name.now) c.read_file-file.ensures.held),
  c.read_file-file.ensures.named,
)
