use Rattle.std.proofs.Common.{◌+◌, List, [], ◌∷◌, drop, sym, ap, subst, ◌∙◌}
use Rattle.std.specs.List.{AllByRecursion}
use Rattle.st_exec.specs.Cells.{Form, values_of, forms_of}
use Rattle.fb_chart.specs.Sampling.{CanTake, sampled_by}
use Rattle.fb_lists.proofs.Lists.{stands_at, drop_at}
use Rattle.fb_chart.proofs.sampling.sample.Goals as goal

pub loop-taken-preserved : goal.loop-taken-preserved
loop-taken-preserved c =
    let i = c.loop-taken.taken-index in
    let x = c.taken-item.result in
    let all = c.args.issued.now in
    let forms = forms_of c.args.own.now in
    let ts = drop (i + 1) c.args.takes.now in
    let d = drop_at c.args.takes.now i x (stands_at c.args.takes.now i x x c.loop-taken-test.true c.taken-item.is) in
    record {
      values = ap (sampled_by all forms ts) (c.sample_one.ensures.values ∙ ap (λ (fs : List Form). sampled_by all fs (x ∷ []) (values_of c.loop-taken.own)) c.loop-taken.invariant.forms)
          ∙ ap (λ l. sampled_by all forms l (values_of c.loop-taken.own)) (sym d) ∙ c.loop-taken.invariant.values;
      forms = c.sample_one.ensures.forms ∙ c.loop-taken.invariant.forms;
      can = (subst (AllByRecursion (CanTake all forms)) d c.loop-taken.invariant.can).1;
    }
