use Rattle.std.proofs.Common.{sym, subst, pos, arith}
use Rattle.fb_model.specs.Typing.{IsWhole}
use Rattle.fb_tree.specs.Algorithms as tree
use Rattle.fb_types_services.proofs.Numbers.{some_so, untyped_is, typed_is, none_so, untyped_none, typed_none}
use Rattle.fb_types_services.proofs.number.whole.Goals as goal

pub returns-in-Whole-clause-is : goal.returns-in-Whole-clause-is
returns-in-Whole-clause-is c =
    some_so (λ n p. subst (λ v. IsWhole (tree.literal_of v) (pos n)) (sym c.in-Whole.is) (untyped_is c.in-Whole.negative c.in-Whole.size n p.1)) c.unsigned.result c.unsigned.ensures.is

pub returns-else-size-highest-clause-is : goal.returns-else-size-highest-clause-is
returns-else-size-highest-clause-is c =
    some_so
    (λ n p. subst (λ v. IsWhole (tree.literal_of v) (pos n)) (sym c.in-Typed.is) (typed_is c.in-Typed.of c.in-Typed.negative c.in-Typed.size n c.highest.result p.1 (omega (arith, p.0)) c.highest.ensures))
    c.unsigned-else-size-highest.result c.unsigned-else-size-highest.ensures.is

pub returns-in-Whole-clause-none : goal.returns-in-Whole-clause-none
returns-in-Whole-clause-none c =
    none_so (λ h. subst (λ v. (n : Rattle.std.proofs.Common.ℕ) → IsWhole (tree.literal_of v) (pos n) → ⊥) (sym c.in-Whole.is) (untyped_none c.in-Whole.negative c.in-Whole.size h)) c.unsigned.result c.unsigned.ensures.none

pub returns-else-size-highest-clause-none : goal.returns-else-size-highest-clause-none
returns-else-size-highest-clause-none c =
    none_so
    (λ h. subst (λ v. (n : Rattle.std.proofs.Common.ℕ) → IsWhole (tree.literal_of v) (pos n) → ⊥) (sym c.in-Typed.is) (typed_none c.in-Typed.of c.in-Typed.negative c.in-Typed.size h))
    c.unsigned-else-size-highest.result c.unsigned-else-size-highest.ensures.none
