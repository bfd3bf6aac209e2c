use Rattle.fb_model_turns.proofs.Alone.{has_nothing_beside, ends_alone}
use Rattle.fb_model_turns.proofs.causes_end_alone.Goals as goal

pub returns-clause-beside : goal.returns-clause-beside
returns-clause-beside c = λ device cert holding m come. has_nothing_beside cert device holding m come

pub returns-clause-ends : goal.returns-clause-ends
returns-clause-ends c = λ device cert counts holding fits m come. ends_alone cert device holding counts fits m come
