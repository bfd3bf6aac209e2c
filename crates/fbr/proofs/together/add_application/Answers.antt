use Rattle.std.proofs.Common.{inl}
use Rattle.fbr.proofs.together.add_application.Goals as goal

pub returns-in-Err : goal.returns-in-Err
returns-in-Err c = λ held read. inl (c.in-Err.ensures held read)
