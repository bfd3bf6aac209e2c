use Rattle.std.proofs.Common.{◌≡◌, drop, string_bytes}
use Rattle.fb_model.specs.Names.{is_in}
use Rattle.fb_ranges.specs.Views.{names_of}
use Rattle.fb_ranges.proofs.join.is_among.Given as goal

abbrev pub invariant-loop-other : goal.invariant-loop-other
invariant-loop-other l = is_in (string_bytes l.name.name) (names_of (drop l.other-index l.names)) ≡ is_in (string_bytes l.name.name) (names_of l.names)
