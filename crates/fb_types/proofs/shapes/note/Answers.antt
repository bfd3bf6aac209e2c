use Rattle.std.proofs.Common.{option_map, refl, sym, ap, ◌∙◌}
use Rattle.fb_types.specs.Shapes.{shape_of, other_shape}
use Rattle.fb_types.proofs.shapes.note.Goals as goal

pub returns-else-agree-clause-refused : goal.returns-else-agree-clause-refused
returns-else-agree-clause-refused c =
    other_shape (sym c.channel.ensures ∙ ap (option_map (λ p. (p.0, shape_of p.1))) c.in-Some.is) (sym c.first.ensures ∙ ap (option_map shape_of) c.in-Some-first.is) (c.agree.ensures.differ c.if-agree.false) refl
