use Rattle.std.proofs.Common.{ap, ◌∙◌}
use Rattle.fb_model.specs.Demands.{event}
use Rattle.fb_model.specs.CertificateText.{place_of}
use Rattle.fb_find_rows.proofs.Keys.{event_key}
use Rattle.fb_find_rows.proofs.place.event_at.Goals as goal

pub returns-in_ok-clone-in-Some : goal.returns-in_ok-clone-in-Some
returns-in_ok-clone-in-Some c = λ l x e. ap (λ t. event (place_of t)) c.in_ok-clone-in-Some.ensures.cases ∙ event_key c.args.events.now.keys c.args.channels.now c.args.number c.in-Some.text.now x c.in-Some.ensures.key e
