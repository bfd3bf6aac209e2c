use Rattle.std.proofs.Common.{sym, subst}
use Rattle.fb_words.specs.declared.format.Format.TheVariants.{First}
use Rattle.fb_model.specs.NetworkTyping.{IsFormat, unsaid, said}
use Rattle.fb_types_services.proofs.declared.format.Goals as goal

pub returns-in-Absent-clause-is : goal.returns-in-Absent-clause-is
returns-in-Absent-clause-is c = let e = rw c.deref.ensures.value at c.in-Absent.ensures in subst (λ ps. IsFormat ps First) (sym e) unsaid

pub returns-in-Some-clause-is : goal.returns-in-Some-clause-is
returns-in-Some-clause-is c = let e = rw c.deref.ensures.value at c.in-Once.ensures in subst (λ ps. IsFormat ps c.in-Some.format) (sym e) (said c.in-Some.ensures.is)
