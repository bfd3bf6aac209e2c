use Rattle.std.proofs.Common.{sym, ap, ◌∙◌}
use Rattle.fb_model.specs.Wires.{Serviced}
use Rattle.fb_model.specs.Certificates.{admissions}
use Rattle.fb_types_services.specs.Views.{service_of}
use Rattle.fb_find_demands.proofs.channel.served.Goals as goal

pub returns-in-Subscribe : goal.returns-in-Subscribe
returns-in-Subscribe c = c.admitted.ensures ∙ sym (ap (λ s. admissions c.args.repeats c.args.number (Serviced (service_of s))) c.in-Subscribe.is)
