use Rattle.std.proofs.Common.{List, take}
use Rattle.std.specs.List.{AllByRecursion}
use Rattle.fb_check_columns.specs.Channels.{Cost, AreCosts, ChannelPays}
use Rattle.fb_check_columns.proofs.channel.each_pays.Given as goal

-- each so far pays
abbrev pub invariant-loop-each : goal.invariant-loop-each
invariant-loop-each l = (xs : List Cost) → AreCosts l.heard xs → AllByRecursion (λ (x : Cost). ChannelPays l.certificate xs x.channel) (take l.each-index xs)
