use Rattle.std.proofs.Common.{◌∙◌}
use Rattle.fb_types_networks.proofs.Tables.{event_found}
use Rattle.fb_types_networks.proofs.face.has_event.Goals as goal

pub returns : goal.returns
returns c = c.contains_key.ensures ∙ event_found c.args.name.now c.args.events.now.entries
