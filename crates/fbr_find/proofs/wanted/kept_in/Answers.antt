use Rattle.std.proofs.Common.{inl}
use Rattle.fb_types.specs.Views.{system_of}
use Rattle.fb_cert.specs.Views.{rows_of}
use Rattle.fbr_find.proofs.Found.{kept_of}
use Rattle.fbr_find.proofs.wanted.kept_in.Goals as goal

pub returns-in-Ok : goal.returns-in-Ok
returns-in-Ok c = λ held read.
    kept_of c.args.file.now.name.now held c.args.repeats (system_of c.args.typed.now) (rows_of c.in-Ok.given) c.kept_for.result (c.in-Ok.ensures held read) c.kept_for.ensures

pub returns-in-Err : goal.returns-in-Err
returns-in-Err c = λ held read. inl (c.in-Err.ensures held read)
