use Rattle.fb_model.specs.World.{At_device, A_dispatch}
use Rattle.fb_world_course.specs.Answers.{event_of}
use Rattle.fb_script.specs.Views.{command_of}
use Rattle.fb_script.proofs.Commands.{if_obeyed, root_told}
use Rattle.fb_script.proofs.run.obey.Goals as goal

pub returns-in-Event-clause-obeys : goal.returns-in-Event-clause-obeys
returns-in-Event-clause-obeys g c =
    if_obeyed c.args.world.now c.happen.new.world (command_of c.args.line) (event_of c.in-Event.event) c.args.number (g.W.Write.contents c.args.output.now) (g.W.Write.contents c.happen.new.output) c.happen.result c.in-Event.ensures.3 c.happen.ensures.happens

pub returns-in-Dispatch-clause-obeys : goal.returns-in-Dispatch-clause-obeys
returns-in-Dispatch-clause-obeys g c =
    if_obeyed c.args.world.now c.dispatch.new.world (command_of c.args.line) (At_device c.in-Dispatch.device (A_dispatch c.in-Dispatch.resource)) c.args.number (g.W.Write.contents c.args.output.now) (g.W.Write.contents c.dispatch.new.output) c.dispatch.result c.in-Dispatch.ensures.2 c.dispatch.ensures.happens

pub returns-in_ok-write_root-in-Root-clause-obeys : goal.returns-in_ok-write_root-in-Root-clause-obeys
returns-in_ok-write_root-in-Root-clause-obeys g c =
    root_told c.args.world.now (command_of c.args.line) c.args.number c.in-Root.root c.in-Root.told (g.W.Write.contents c.args.output.now) (g.W.Write.contents c.write_root.new.output) c.in-Root.ensures.0 c.in-Root.ensures.1 c.in_ok-write_root-in-Root.ensures
