use Rattle.std.proofs.Common.{[], map, ap, ◌∙◌}
use Rattle.fb_types_blocks.specs.Views.{action_of, block_of}
use Rattle.fb_find_laws.specs.Nodes.{capped}
use Rattle.fb_work_charts.specs.Charges.{actions_work}
use Rattle.fb_work_charts.proofs.Named.{actions_in, some_seen, none_seen, actions_seen}
use Rattle.fb_work_charts.proofs.Tariffs.{tariff_in}
use Rattle.fb_work_charts.proofs.action.state_actions_work.Goals as goal

pub returns-in-Some : goal.returns-in-Some
returns-in-Some c =
    let block = c.args.block.now in
    let tariff = tariff_in c.args.scene.now block in
    let es = block.states.entries in
    let x = c.args.state.now in
    let found = some_seen actions_in [] es x c.in-Some.actions.now c.in-Some.ensures.value ∙ actions_seen es x in
    c.actions_work.ensures ∙ ap (λ xs. capped (actions_work tariff (block_of block) xs)) (ap (map action_of) c.as_slice.ensures.value ∙ found)

pub returns-in-None : goal.returns-in-None
returns-in-None c =
    let block = c.args.block.now in
    let tariff = tariff_in c.args.scene.now block in
    let es = block.states.entries in
    let x = c.args.state.now in
    ap (λ xs. capped (actions_work tariff (block_of block) xs)) (none_seen actions_in [] es x c.in-None.ensures.value ∙ actions_seen es x)
