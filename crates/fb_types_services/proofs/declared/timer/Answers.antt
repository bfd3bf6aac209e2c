use Rattle.std.proofs.Common.{sym, subst, ◌∙◌}
use Rattle.fb_types_services.proofs.declared.timer.Goals as goal
use Rattle.fb_types_services.proofs.declared.timer.Goals.{in-E_DELAY, in-E_CYCLE, in-E_RESTART}
use Rattle.fb_model.specs.NetworkTyping.{IsService, a_delay, a_cycle, a_restart}
use Rattle.fb_tree.specs.Files.{instance_of}
use Rattle.fb_types_services.specs.Views.{service_of}

pub returns-clause-is : goal.returns-clause-is
returns-clause-is c =
    let i = instance_of c.args.source.now in
    let text = sym c.as_str.ensures.value in
    elim c.match-as_str.branch [
      | in-E_DELAY w ↦ subst (λ s. IsService i (service_of s)) (sym w.service-is) (a_delay (text ∙ w.in-E_DELAY.is) c.in_ok-bare.ensures.none)
      | in-E_CYCLE w ↦ subst (λ s. IsService i (service_of s)) (sym w.service-is) (a_cycle (text ∙ w.in-E_CYCLE.is) c.in_ok-bare.ensures.none)
      | in-E_RESTART w ↦ subst (λ s. IsService i (service_of s)) (sym w.service-is) (a_restart (text ∙ w.in-E_RESTART.is) c.in_ok-bare.ensures.none)
    ]
