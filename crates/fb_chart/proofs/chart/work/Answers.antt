use Rattle.std.proofs.Common.{◌≡◌, ◌<◌, ◌^◌, length, Option, Some, ap, subst, ◌∙◌}
use Rattle.std.specs.Prelude.{IfSome}
use Rattle.fb_model.specs.Language.{Algorithm}
use Rattle.fb_model.specs.Charts.{work as runs}
use Rattle.st_exec.specs.CodeViews.{code_commands}
use Rattle.st_exec.specs.Cells.{values_of, forms_of}
use Rattle.st_exec.specs.Runs.{EndsWithin}
use Rattle.fb_chart.specs.Charting.{CanWork, numbered}
use Rattle.fb_lists.proofs.Lists.{all_got, stands_at}
use Rattle.fb_chart.proofs.Acting.{numbered_at}
use Rattle.fb_chart.proofs.chart.work.Goals as goal

pub exec-requires-clause-serves : goal.exec-requires-clause-serves
exec-requires-clause-serves c =
    let x = c.index-procedures-number.result in
    let ps = c.args.procedures.now in
    let l = subst (λ o. IfSome o (λ n. n < length ps)) c.in-Some.is c.requires.within in
    (all_got (CanWork (forms_of c.args.own.now)) ps c.in-Some.number x c.requires.can (stands_at ps c.in-Some.number x x l c.index-procedures-number.is)).serves

pub exec-requires-clause-small : goal.exec-requires-clause-small
exec-requires-clause-small c =
    let x = c.index-procedures-number.result in
    let ps = c.args.procedures.now in
    let l = subst (λ o. IfSome o (λ n. n < length ps)) c.in-Some.is c.requires.within in
    let e : numbered ps c.args.algorithm ≡ Some (code_commands x.statements.items) = ap (numbered ps) c.in-Some.is ∙ numbered_at ps c.in-Some.number x (stands_at ps c.in-Some.number x x l c.index-procedures-number.is) in
    subst (λ (o : Option Algorithm). EndsWithin (10 ^ 12) (runs o (values_of c.args.own.now))) e c.requires.small

pub returns-in-Some-clause-answers : goal.returns-in-Some-clause-answers
returns-in-Some-clause-answers c =
    let x = c.index-procedures-number.result in
    let ps = c.args.procedures.now in
    let l = subst (λ o. IfSome o (λ n. n < length ps)) c.in-Some.is c.requires.within in
    let e : numbered ps c.args.algorithm ≡ Some (code_commands x.statements.items) = ap (numbered ps) c.in-Some.is ∙ numbered_at ps c.in-Some.number x (stands_at ps c.in-Some.number x x l c.index-procedures-number.is) in
    ap (λ (o : Option Algorithm). runs o (values_of c.args.own.now)) e ∙ c.exec.ensures.answers
