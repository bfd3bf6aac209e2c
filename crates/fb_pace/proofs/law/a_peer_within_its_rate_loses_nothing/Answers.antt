use Rattle.fb_pace.proofs.Apart.{loses_nothing, loses_nothing_without}
use Rattle.fb_pace.proofs.law.a_peer_within_its_rate_loses_nothing.Goals as goal

pub returns-clause-within : goal.returns-clause-within
returns-clause-within c = loses_nothing

pub returns-clause-without : goal.returns-clause-without
returns-clause-without c = loses_nothing_without
