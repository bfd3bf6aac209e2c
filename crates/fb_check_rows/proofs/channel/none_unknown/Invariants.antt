use Rattle.std.proofs.Common.{drop}
use Rattle.std.specs.List.{AllByRecursion}
use Rattle.fb_cert.specs.Views.{rows_of}
use Rattle.fb_check_rows.specs.Channels.{IsNamed}
use Rattle.fb_check_rows.proofs.channel.none_unknown.Given as goal

-- where those that are left are named, all are
abbrev pub invariant-loop-index : goal.invariant-loop-index
invariant-loop-index l = AllByRecursion (IsNamed l.numbers) (drop l.index (rows_of l.certificate).channels) → AllByRecursion (IsNamed l.numbers) (rows_of l.certificate).channels
