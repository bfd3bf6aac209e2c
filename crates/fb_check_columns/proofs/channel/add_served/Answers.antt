use Rattle.std.proofs.Common.{◌≡◌, ◌++◌, sym, ap, subst, ◌∙◌}
use Rattle.fb_model.specs.Wires.{Serviced}
use Rattle.fb_types_services.specs.Views.{service_of}
use Rattle.fb_check_columns.specs.Channels.{AreCosts, heard_by}
use Rattle.fb_check_columns.proofs.Hearing.{more_costs}
use Rattle.fb_check_columns.proofs.channel.add_served.Goals as goal

pub returns-in_ok-push-in-Subscribe-clause-heard : goal.returns-in_ok-push-in-Subscribe-clause-heard
returns-in_ok-push-in-Subscribe-clause-heard c =
    λ xs a.
    subst (λ s. AreCosts c.push.new.self.items (xs ++ heard_by c.args.certificate.now c.args.repeats c.args.path.now (Serviced (service_of s)))) (sym c.in-Subscribe.is)
    (rw c.in_ok-push-in-Subscribe.ensures.items (more_costs c.args.heard.now.items xs _ _ a Rattle.std.proofs.Common.refl c.in_ok-cost-in-Subscribe.ensures.value))
