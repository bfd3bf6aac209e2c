use Rattle.std.proofs.Common.{map, ap, ◌∙◌}
use Rattle.fb_types_blocks.specs.Views.{action_of}
use Rattle.fb_find_demands.proofs.Charts.{actions_some, actions_none}
use Rattle.fb_find_demands.proofs.chart.actions_in.Goals as goal

pub returns-in-Some : goal.returns-in-Some
returns-in-Some c = ap (map action_of) c.as_slice.ensures.value ∙ actions_some c.args.states.now.entries c.args.name.now c.in-Some.actions.now c.in-Some.ensures.value

pub returns-in-None : goal.returns-in-None
returns-in-None c = actions_none c.args.states.now.entries c.args.name.now c.in-None.ensures.value
