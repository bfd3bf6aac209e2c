use Rattle.std.proofs.Common.{◌≡◌, ◌+◌, ℕ, List, drop}
use Rattle.fb_check_columns.specs.Sums.{IsSum}
use Rattle.fb_check_columns.specs.Channels.{Cost, cost_in, AreCosts}
use Rattle.fb_check_columns.proofs.channel.total.Given as goal

-- the sum so far and what is left are the whole
abbrev pub invariant-loop-each : goal.invariant-loop-each
invariant-loop-each l = (xs : List Cost) → AreCosts l.heard xs → (v : ℕ) × IsSum l.sum v × (v + cost_in l.channel (drop l.each-index xs) ≡ cost_in l.channel xs)
