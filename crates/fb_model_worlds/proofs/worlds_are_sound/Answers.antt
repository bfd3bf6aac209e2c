use Rattle.fb_model_worlds.proofs.Beginning.{first_is_sound}
use Rattle.fb_model_worlds.proofs.Sounding.{sound_event}
use Rattle.fb_model_worlds.proofs.Running.{sound_run}
use Rattle.fb_model_worlds.proofs.worlds_are_sound.Goals as goal

pub returns-clause-first : goal.returns-clause-first
returns-clause-first c = first_is_sound

pub returns-clause-next : goal.returns-clause-next
returns-clause-next c = λ system cert hold old new event answer s h. sound_event system cert hold old event answer new s h

pub returns-clause-then : goal.returns-clause-then
returns-clause-then c = λ system cert hold old new events answers s r. sound_run system cert hold events answers old new s r
