use Rattle.std.proofs.Common.{ap, ◌∙◌}
use Rattle.fb_model.specs.Demands.{state}
use Rattle.fb_model.specs.CertificateText.{place_of}
use Rattle.fb_find_rows.proofs.Keys.{state_key}
use Rattle.fb_find_rows.proofs.place.place_at.Goals as goal

pub returns-in_ok-clone-in-Some : goal.returns-in_ok-clone-in-Some
returns-in_ok-clone-in-Some c = λ l. ap (λ t. state (place_of t)) c.in_ok-clone-in-Some.ensures.cases ∙ state_key c.args.states.now.keys c.args.events.now.keys c.args.channels.now c.args.number c.in-Some.text.now c.in-Some.ensures.key
