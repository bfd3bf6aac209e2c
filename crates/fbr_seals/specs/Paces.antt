-- Buckets of peers while a device runs: this project's profile.
use Rattle.fb_pace.specs.Pacing.{Pacing}
use Rattle.fbr_seals.specs.declared.pace.Pace.{Pace}

-- without the clock
abbrev pub pacing_of : {R : Type 0} → Pace R → Pacing
pacing_of p = record { peers = p.buckets.peers.items; last = p.last }
