use Rattle.std.proofs.Common.{inr, map, ap, ◌∙◌}
use Rattle.std.proofs.lemmas.Result.{IfOk-weaker}
use Rattle.fb_addresses.specs.Addresses.{endpoint_of, parts_of}
use Rattle.fbr_words.specs.Requests.{service_of}
use Rattle.fbr_serve.proofs.Looped.{turns_told}
use Rattle.fbr_serve.proofs.serve.serve_device.Goals as goal

pub returns-in-Ok-clause-told : goal.returns-in-Ok-clause-told
returns-in-Ok-clause-told g c =
    let fresh = c.in-Ok.ensures.fresh in
    IfOk-weaker c.print_served.result _ _ (λ status h. inr h)
    (turns_told _ (λ l. l.socket) (λ l. l.peers) (λ l. l.senders) (λ l. l.failures) (λ l. l.strangers) _ (service_of c.args.serve.now) c.args.device.now c.in-Ok.link c.of-timer.result (record { printed = g.W.Write.contents c.args.output.now; recorded = record { bytes = g.F.Write.contents c.args.notes.now.recorder.stream; lost = c.args.notes.now.recorder.is_lost } }) c.serve_on-ran.new.device c.serve_on-ran.new.link
    (record { printed = g.W.Write.contents c.serve_on-ran.new.output; recorded = record { bytes = g.F.Write.contents c.serve_on-ran.new.notes.recorder.stream; lost = c.serve_on-ran.new.notes.recorder.is_lost } }) c.serve_on-ran.result (g.W.Write.contents c.print_served.new.output) c.print_served.result c.serve_on-ran.ensures.served fresh.0 fresh.3
    (record { to = ap (map endpoint_of) (fresh.1 ∙ c.as_slice-peers.ensures.all); from = ap (map parts_of) (fresh.2 ∙ c.as_slice-senders.ensures.all) }) c.print_served.ensures.told)
