use Rattle.std.proofs.Common.{◌∙◌}
use Rattle.fb_types_networks.proofs.Tables.{variable_found}
use Rattle.fb_types_networks.proofs.face.has_variable.Goals as goal

pub returns : goal.returns
returns c = c.contains_key.ensures ∙ variable_found c.args.name.now c.args.variables.now.entries
