use Rattle.fb_device_tables.specs.Filling.{NamedActions, IsStateMade}
use Rattle.fb_model.proofs.Lists.{got}
use Rattle.fb_device_tables.proofs.Lists.{each_more}
use Rattle.fb_device_tables.proofs.state.states.Goals as goal

pub loop-index-preserved : goal.loop-index-preserved
loop-index-preserved c =
    let es = c.args.block.now.states.entries in
    let s : NamedActions = (c.in-Some.name.now, c.in-Some.actions.now) in
    let g = got es c.loop-index.index s c.in-Some.ensures.entry in
    each_more (IsStateMade c.args.own.now c.args.block.now) es c.loop-index.index s c.loop-index.states.items c.push.new.self.items c.in_ok-state.field-0
    g.0 g.1 c.in_ok-push.ensures.items c.loop-index.invariant c.in_ok-state.ensures
