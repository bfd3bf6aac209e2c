use Rattle.std.proofs.Common.{◌∙◌}
use Rattle.std.specs.Option.{option_map}
use Rattle.fb_flat.proofs.lookup.leaving.Goals as goal

pub returns : goal.returns
returns c = c.events.ensures (option_map (λ n. n.now) c.args.instance) c.args.port.now (c.as_str.ensures.value ∙ c.in_ok-key.ensures)
