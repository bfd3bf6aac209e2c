use Rattle.std.proofs.Common.{refl, sym, subst, map, arith}
use Rattle.fb_model.specs.Typing.{IsId, an_id}
use Rattle.fb_model.specs.NetworkTyping.{id}
use Rattle.fb_types_services.proofs.Services.{too_large, has_name}
use Rattle.fb_tree.specs.Files.{parameter_of}
use Rattle.fb_types_services.proofs.declared.number.Goals as goal

pub returns-then-number-gt-MOST_ID-clause-refused : goal.returns-then-number-gt-MOST_ID-clause-refused
returns-then-number-gt-MOST_ID-clause-refused c =
    let e = rw c.deref.ensures.value at c.in-Once.ensures in
    (refl, λ m h. too_large (parameter_of c.in-Once.parameter.now) c.in-Some.number c.in-Some.ensures.is (omega arith) m (subst (λ ps. IsId ps m) e h))

pub returns-else-number-gt-MOST_ID-clause-is : goal.returns-else-number-gt-MOST_ID-clause-is
returns-else-number-gt-MOST_ID-clause-is c =
    let e = rw c.deref.ensures.value at c.in-Once.ensures in
    let ps = map parameter_of c.args.source.now.parameters.items in
    subst (λ ps. IsId ps c.in-Some.number) (sym e) (an_id (has_name id ps (parameter_of c.in-Once.parameter.now) e) c.in-Some.ensures.is (omega arith))
