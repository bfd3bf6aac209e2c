use Rattle.std.proofs.Common.{drop, map, ◌↔◌}
use Rattle.std.specs.List.{AllByRecursion}
use Rattle.fb_cert.specs.Views.{rows_of}
use Rattle.fb_check_rows.specs.Channels.{HasChannel}
use Rattle.fb_check_rows.proofs.channel.none_missing.Given as goal

-- where those that are left have rows, all have
abbrev pub invariant-loop-number : goal.invariant-loop-number
invariant-loop-number l = AllByRecursion (HasChannel (rows_of l.certificate)) (drop l.number-index l.numbers) → AllByRecursion (HasChannel (rows_of l.certificate)) l.numbers
