use Rattle.fb_pace.proofs.Clocked.{clocked}
use Rattle.fb_pace.proofs.law.a_clock_gives_moments.Goals as goal

pub returns : goal.returns
returns c = clocked
