use Rattle.fb_seal.proofs.Spelling.{sealed_opens, opened_was_sealed, one_meaning}
use Rattle.fb_seal.proofs.law.sealed_datagrams_open.Goals as goal

pub returns-clause-opened : goal.returns-clause-opened
returns-clause-opened c = sealed_opens

pub returns-clause-sealed : goal.returns-clause-sealed
returns-clause-sealed c = opened_was_sealed

pub returns-clause-only : goal.returns-clause-only
returns-clause-only c = one_meaning
