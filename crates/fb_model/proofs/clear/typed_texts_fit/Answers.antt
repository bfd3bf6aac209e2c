use Rattle.fb_model.proofs.Typed.{typed_algorithm_fits, typed_guard_fits, typed_term_fits}
use Rattle.fb_model.proofs.clear.typed_texts_fit.Goals as goal

pub returns : goal.returns
returns c = record { algorithms = typed_algorithm_fits; guards = typed_guard_fits; expressions = typed_term_fits }
