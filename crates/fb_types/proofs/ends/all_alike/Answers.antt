use Rattle.std.proofs.lemmas.Result.{err_from_is_err_and}
use Rattle.fb_model.specs.NumberFaults.{unlike}
use Rattle.fb_types.proofs.ends.all_alike.Goals as goal

pub returns-in_err-alike-clause-refused : goal.returns-in_err-alike-clause-refused
returns-in_err-alike-clause-refused c = let p = err_from_is_err_and c.from_residual.result c.from_residual.ensures.1 in rw (p.1, p.2) (unlike c.in_err-alike.ensures.refused)
