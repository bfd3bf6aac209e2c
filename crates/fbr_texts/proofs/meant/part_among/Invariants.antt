use Rattle.std.proofs.Common.{◌≡◌, drop, map, None}
use Rattle.std.specs.Prelude.{option_map}
use Rattle.fbr_texts.specs.Parts.{part_in, start_of}
use Rattle.fbr_texts.proofs.meant.part_among.Given as goal

-- the last one so far, with those that are left
abbrev pub invariant-loop-part : goal.invariant-loop-part
invariant-loop-part l = part_in (option_map start_of l.best) l.at (map start_of (drop l.part-index l.parts)) ≡ part_in None l.at (map start_of l.parts)
