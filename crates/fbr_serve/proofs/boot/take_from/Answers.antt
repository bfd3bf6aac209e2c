use Rattle.std.proofs.Common.{refl, subst}
use Rattle.fbr_files.specs.Outcomes.{IsReadFault}
use Rattle.fbr_serve.proofs.boot.take_from.Goals as goal

pub returns-in-Err-clause-taken : goal.returns-in-Err-clause-taken
returns-in-Err-clause-taken g c =
    (subst (λ n. IsReadFault n c.in-Err.fault) c.read_file-file.ensures.named (c.in-Err.ensures (g.S.Sources.contents c.args.files.now c.args.name.now) c.read_file-file.ensures.held), refl)
