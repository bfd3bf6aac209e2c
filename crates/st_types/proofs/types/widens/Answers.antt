use Rattle.std.proofs.Common.{sym, ◌∙◌}
use Rattle.std.specs.Prelude.{◌&&◌, int_le}
use Rattle.fb_model.specs.Spelling.{is_integer}
use Rattle.fb_model.specs.Values.{lowest, highest}
use Rattle.st_types.proofs.Widening.{widens_same, widens_by, first_not, second_not, both_are}
use Rattle.st_types.proofs.types.widens.Goals as goal

pub returns-then-eq : goal.returns-then-eq
returns-then-eq c = sym (widens_same c.args.from c.args.to (sym c.eq.ensures ∙ c.if-eq.true))

pub returns-then-not-is_integer : goal.returns-then-not-is_integer
returns-then-not-is_integer c =
    let a = c.args.from in
    let b = c.args.to in
    sym (widens_by a b (sym c.eq.ensures ∙ c.if-eq.false) ∙ first_not (is_integer a) (is_integer b) (int_le (lowest b) (lowest a) && int_le (highest a) (highest b)) (sym c.is_integer.ensures ∙ c.if-not-is_integer.true))

pub returns-then-not-is_integer-2 : goal.returns-then-not-is_integer-2
returns-then-not-is_integer-2 c =
    let a = c.args.from in
    let b = c.args.to in
    sym (widens_by a b (sym c.eq.ensures ∙ c.if-eq.false) ∙ second_not (is_integer a) (is_integer b) (int_le (lowest b) (lowest a) && int_le (highest a) (highest b)) (sym c.is_integer-2.ensures ∙ c.if-not-is_integer-2.true))

pub returns : goal.returns
returns c =
    let a = c.args.from in
    let b = c.args.to in
    c.holds_all.ensures ∙ sym (widens_by a b (sym c.eq.ensures ∙ c.if-eq.false) ∙ both_are (is_integer a) (is_integer b) (int_le (lowest b) (lowest a) && int_le (highest a) (highest b)) (sym c.is_integer.ensures ∙ c.if-not-is_integer.false) (sym c.is_integer-2.ensures ∙ c.if-not-is_integer-2.false))
