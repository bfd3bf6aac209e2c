use Rattle.std.proofs.Common.{inl, inr, [], sym, subst}
use Rattle.fb_model.specs.NetworkTyping.{most_deep}
use Rattle.fb_tree.specs.Files as trees_of
use Rattle.fb_types_blocks.proofs.Refused.{either_of}
use Rattle.fb_model.specs.SourceFaults.{faulty_type}
use Rattle.fb_types.specs.Made.{IsNamed, IsDeeper, IsUnmade, IsHalted, IsRefusedType}
use Rattle.fb_types.proofs.Making.{named_self}
use Rattle.fb_types.proofs.resource.refusal.Goals as goal

pub returns-in-TooDeep-clause-of_type : goal.returns-in-TooDeep-clause-of_type
returns-in-TooDeep-clause-of_type c = λ bs b table h.
    let k = subst (IsUnmade bs most_deep b) c.in-TooDeep.is h in
    subst (λ z. IsRefusedType bs z c.too_deep.result) k.0 (c.too_deep.ensures bs table (subst (IsNamed bs) (sym k.0) k.1) (subst (IsDeeper bs most_deep) (sym k.0) k.2))

pub returns-in-TooDeep-clause-of_instance : goal.returns-in-TooDeep-clause-of_instance
returns-in-TooDeep-clause-of_instance c = λ bs i table h.
    let k = subst (IsHalted bs [] most_deep i) c.in-TooDeep.is h in
    either_of (λ w. inl (faulty_type k.0 w)) (λ w. inr (trees_of.block_of c.in-TooDeep.block.now, k.0, w)) (c.too_deep.ensures bs table (named_self bs i.type.text (trees_of.block_of c.in-TooDeep.block.now) k.0.named) k.1)
