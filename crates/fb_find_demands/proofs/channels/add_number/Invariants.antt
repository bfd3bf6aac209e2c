use Rattle.std.proofs.Common.{◌≡◌, ◌++◌, drop}
use Rattle.fb_model.specs.Certificates.{with_number}
use Rattle.fb_find_demands.proofs.channels.add_number.Given as goal

-- the first numbers are below, and stand there
abbrev pub invariant-loop-index : goal.invariant-loop-index
invariant-loop-index l = l.all.items ++ with_number l.number (drop l.index l.numbers) ≡ with_number l.number l.numbers
