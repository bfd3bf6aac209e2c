use Rattle.fb_model_turns.proofs.Generations.{ends_in_generations}
use Rattle.fb_model_turns.proofs.causes_end_in_generations.Goals as goal

pub returns : goal.returns
returns c = λ device cert counts holding fits m come. ends_in_generations cert device holding counts fits m come
