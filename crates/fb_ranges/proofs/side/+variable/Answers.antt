use Rattle.std.proofs.Common.{sym, ap, refl, ◌∙◌}
use Rattle.st_types.specs.Views.{term_of}
use Rattle.fb_ranges.specs.Narrowing.{variable_in}
use Rattle.fb_ranges.proofs.Sides.{chain_hides, chain_shows}
use Rattle.fb_ranges.proofs.side.+variable.Goals as goal

pub returns-then-not-is_empty : goal.returns-then-not-is_empty
returns-then-not-is_empty t c =
    let b = c.in-Chain.first in
    let v = c.in-Chain.links in
    sym (ap (λ x. variable_in (term_of x)) c.in-Chain.is ∙ chain_hides variable_in (λ f a e g. refl) b v (sym c.is_empty.ensures ∙ c.if-not-is_empty.true))

pub returns-else-not-is_empty : goal.returns-else-not-is_empty
returns-else-not-is_empty t c =
    let b = c.in-Chain.first in
    let v = c.in-Chain.links in
    c.variable.ensures
    ∙ ap (λ x. variable_in (term_of x)) c.deref.ensures
    ∙ sym (ap (λ x. variable_in (term_of x)) c.in-Chain.is ∙ ap variable_in (chain_shows b v (sym c.is_empty.ensures ∙ c.if-not-is_empty.false)))
