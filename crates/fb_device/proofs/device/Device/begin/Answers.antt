use Rattle.std.proofs.Common.{sym, subst}
use Rattle.fb_device.specs.Silence.{IsSilent}
use Rattle.fb_device.proofs.Begun.{silent_next, numbers_left}
use Rattle.fb_device.proofs.Promised.{bounded_of}
use Rattle.fb_device.proofs.device.Device.begin.Goals as goal

pub begin-requires-clause-silent : goal.begin-requires-clause-silent
begin-requires-clause-silent c = silent_next c.self.inside.program c.self.inside.running (subst IsSilent (sym c.self.view_is) c.requires)

pub begin-requires-clause-numbers : goal.begin-requires-clause-numbers
begin-requires-clause-numbers c = numbers_left c.self.inside.program c.self.inside.running (subst IsSilent (sym c.self.view_is) c.requires) c.self.invariant

pub returns-clause-bounded : goal.returns-clause-bounded
returns-clause-bounded c = rw (← c.self.view_is) (bounded_of c.self.inside.program c.begin.new.running c.begin.ensures.good)
