use Rattle.std.proofs.Common.{◌≡◌, map, take}
use Rattle.std.specs.List.{Any}
use Rattle.fb_model.specs.Declarations.{BlockTree}
use Rattle.fb_types.specs.Made.{tree_of}
use Rattle.fb_types.proofs.make.is_on.Given as goal

-- none of those so far has the name
abbrev pub invariant-loop-block : goal.invariant-loop-block
invariant-loop-block l = Any (λ (b : BlockTree). b.name.text ≡ l.initial.name) (map tree_of (take l.block-index l.initial.path)) → ⊥
