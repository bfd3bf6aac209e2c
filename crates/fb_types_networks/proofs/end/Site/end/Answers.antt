use Rattle.std.proofs.Common.{ap}
use Rattle.std.proofs.lemmas.Result.{IfErr-weaker, IfOk-weaker, err_from_is_err_and}
use Rattle.fb_tree.specs.Words as read
use Rattle.fb_model.specs.NetworkFaults.{within}
use Rattle.fb_model.specs.NetworkFaults.{unknown_instance, faulty_inner}
use Rattle.fb_types_networks.proofs.end.Site.end.Goals as goal

pub returns-in_err-body-in-Some-clause-refused : goal.returns-in_err-body-in-Some-clause-refused
returns-in_err-body-in-Some-clause-refused c =
    let p = err_from_is_err_and c.from_residual.result c.from_residual.ensures.1 in
    λ t. let h = c.in_err-body-in-Some.ensures.refused t in rw (p.1, p.2) (unknown_instance (ap (read.optional read.word_of) c.in-Some.is) h.0 h.1)

pub returns-in_ok-body-in-Some-clause-end : goal.returns-in_ok-body-in-Some-clause-end
returns-in_ok-body-in-Some-clause-end c = λ t. IfOk-weaker c.inner_end.result _ _ (λ x h. within (ap (read.optional read.word_of) c.in-Some.is) (c.in_ok-body-in-Some.ensures.found t) h) c.inner_end.ensures.end

pub returns-in_ok-body-in-Some-clause-refused : goal.returns-in_ok-body-in-Some-clause-refused
returns-in_ok-body-in-Some-clause-refused c = λ t. IfErr-weaker c.inner_end.result _ _ (λ x h. faulty_inner (ap (read.optional read.word_of) c.in-Some.is) (c.in_ok-body-in-Some.ensures.found t) h) c.inner_end.ensures.refused
