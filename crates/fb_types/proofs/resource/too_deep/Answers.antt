use Rattle.std.proofs.Common.{inl, inr, refl, subst}
use Rattle.fb_tree.specs.Files as trees_of
use Rattle.fb_model.specs.SourceFaults.{no_memory_for_type}
use Rattle.fb_types.specs.Rings.{IsSearched}
use Rattle.fb_types.proofs.Ringed.{ring_fault}
use Rattle.fb_types.proofs.Systems.{limit_of_type}
use Rattle.fb_types.proofs.resource.too_deep.Goals as goal

pub returns-in-Ok-Some : goal.returns-in-Ok-Some
returns-in-Ok-Some c = λ bs table named deeper.
    let b = trees_of.block_of c.args.block.now in
    inl (ring_fault bs b c.in-Ok-Some.at (subst (IsSearched bs b) c.in-Ok-Some.field-0-is (c.in-Ok-Some.ensures bs table named)))

pub returns-in-Ok-None : goal.returns-in-Ok-None
returns-in-Ok-None c = λ bs table named deeper.
    let b = trees_of.block_of c.args.block.now in
    inr (limit_of_type bs b b.name.at refl deeper (subst (IsSearched bs b) c.in-Ok-None.field-0-is (c.in-Ok-None.ensures bs table named)))

pub returns-in-Err : goal.returns-in-Err
returns-in-Err c = λ bs table named deeper. inl (no_memory_for_type refl)
