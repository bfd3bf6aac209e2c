use Rattle.fb_seal.proofs.Replays.{once}
use Rattle.fb_seal.proofs.law.bytes_are_admitted_once.Goals as goal

pub returns : goal.returns
returns c = once
