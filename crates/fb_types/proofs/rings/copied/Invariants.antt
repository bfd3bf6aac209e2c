use Rattle.std.proofs.Common.{◌≡◌, take, option_map, string_bytes}
use Rattle.std.specs.Map.{lookup}
use Rattle.std.specs.Str.{bytes_eq}
use Rattle.fb_model.specs.Names.{Name}
use Rattle.fb_types.specs.Made.{tree_of}
use Rattle.fb_types.specs.Rings.{found_in}
use Rattle.fb_types.proofs.rings.copied.Given as goal

-- the copy has those so far
abbrev pub invariant-loop-at : goal.invariant-loop-at
invariant-loop-at l = (x : Name) → found_in l.copy x ≡ option_map tree_of (lookup (λ k. bytes_eq x (string_bytes k)) (take l.at l.initial.types.entries))
