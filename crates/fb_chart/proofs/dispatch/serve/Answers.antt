use Rattle.std.proofs.Common.{List, sym, subst}
use Rattle.std.specs.List.{AllByRecursion}
use Rattle.fb_types_services.specs.Views.{service_of}
use Rattle.st_exec.specs.Cells.{Form, values_of, forms_of}
use Rattle.fb_chart.specs.Sampling.{CanGiveAll}
use Rattle.fb_chart.proofs.Serving.{can_reply, all_give, output_there, room_left, has_served}
use Rattle.fb_chart.proofs.dispatch.serve.Goals as goal

pub reply-response-requires-clause-ready : goal.reply-response-requires-clause-ready
reply-response-requires-clause-ready g c = can_reply (service_of c.args.table.now.service.now) c.args.table.now.ports.now c.args.table.now.outputs.now (forms_of c.args.own.now) (forms_of c.args.issued.now) c.requires.ready c.args.occurrence.now.values.now c.requires.message

pub send-requires-clause-output : goal.send-requires-clause-output
send-requires-clause-output g c = output_there (service_of c.args.table.now.service.now) c.args.table.now.ports.now c.args.table.now.outputs.now (forms_of c.args.own.now) (forms_of c.args.issued.now) c.requires.ready c.reply-response.result.output c.reply-response.ensures.output

pub send-requires-clause-gives : goal.send-requires-clause-gives
send-requires-clause-gives g c =
    subst (λ (fs : List Form). AllByRecursion (CanGiveAll fs (forms_of c.args.issued.now)) c.args.table.now.outputs.now) (sym c.reply-response.ensures.forms)
    (all_give (service_of c.args.table.now.service.now) c.args.table.now.ports.now c.args.table.now.outputs.now (forms_of c.args.own.now) (forms_of c.args.issued.now) c.requires.ready)

pub send-requires-clause-room : goal.send-requires-clause-room
send-requires-clause-room g c =
    room_left (service_of c.args.table.now.service.now) c.args.table.now.ports.now c.args.table.now.outputs.now (forms_of c.args.own.now) (forms_of c.args.issued.now) c.requires.ready c.args.occurrence.now.clock c.args.occurrence.now.point.event c.args.occurrence.now.values.now
    (values_of c.args.own.now) (values_of c.reply-response.new.own) (values_of c.args.issued.now) c.args.standing c.reply-response.result (c.reply-response.ensures.reply (values_of c.args.issued.now)) c.reply-response.ensures.output
    (g.E.Emit.room c.args.emit.now) c.requires.room

pub returns-clause-served : goal.returns-clause-served
returns-clause-served g c =
    has_served (service_of c.args.table.now.service.now) c.args.table.now.ports.now c.args.table.now.outputs.now (forms_of c.args.own.now) (forms_of c.args.issued.now) c.requires.ready c.args.occurrence.now.clock c.args.occurrence.now.point.event c.args.occurrence.now.values.now
    (values_of c.args.own.now) (values_of c.reply-response.new.own) (values_of c.args.issued.now) c.args.standing c.reply-response.result (c.reply-response.ensures.reply (values_of c.args.issued.now)) c.reply-response.ensures.output
    (values_of c.send.new.issued) (g.E.Emit.sent c.args.emit.now) (g.E.Emit.sent c.send.new.emit) c.send.ensures.issued c.send.ensures.sent
