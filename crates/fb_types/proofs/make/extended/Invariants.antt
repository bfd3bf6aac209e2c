use Rattle.std.proofs.Common.{◌≡◌, map, take}
use Rattle.fb_types.specs.Made.{tree_of}
use Rattle.fb_types.proofs.make.extended.Given as goal

-- the copy has those so far
abbrev pub invariant-loop-outer : goal.invariant-loop-outer
invariant-loop-outer l = map tree_of l.longer.items ≡ map tree_of (take l.outer-index l.initial.path)
