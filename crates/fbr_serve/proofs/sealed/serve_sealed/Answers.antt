use Rattle.std.proofs.Common.{◌∙◌, inl, inr, rules, subst}
use Rattle.std.proofs.lemmas.Result.{IfOk-weaker}
use Rattle.fbr_files.specs.declared.fault.Fault.TheVariants.{Socket}
use Rattle.fbr_files.specs.Outcomes.{Tells, refusal}
use Rattle.fbr_words.specs.Requests.{service_of}
use Rattle.fbr_seals.specs.Paces.{pacing_of}
use Rattle.fbr_seals.specs.Sealing.{book_of}
use Rattle.fbr_serve.specs.Serving.{seals_of}
use Rattle.fbr_serve.proofs.Sealings.{port_is, seals_told}
use Rattle.fbr_serve.proofs.sealed.serve_sealed.Goals as goal

pub returns-in-Ok-clause-told : goal.returns-in-Ok-clause-told
returns-in-Ok-clause-told g c =
    let fresh = c.in-Ok.ensures.fresh in
    IfOk-weaker c.print_served.result _ _ (λ status h. inr h)
    (seals_told _ (λ l. l.socket) (λ l. l.peers) (λ l. l.senders) (λ l. l.failures) (λ l. l.strangers) (book_of g.K.Keep.held) pacing_of (λ m. m.failures)
    (λ m. record { number = m.number; key = m.key; next = m.next; reserved = m.reserved; peers = m.peers.items; dropped = m.dropped }) (λ m. m.ledger) (λ m. m.gate) (λ m. m.link)
    _ (service_of c.args.serve.now) (seals_of g.K.Keep.held c.args.seals) c.args.device.now c.reserve.new.self c.of-timer.result
    (record { printed = g.W.Write.contents c.args.output.now; recorded = record { bytes = g.F.Write.contents c.args.notes.now.recorder.stream; lost = c.args.notes.now.recorder.is_lost } })
    c.serve_on-ran.new.device c.serve_on-ran.new.link
    (record { printed = g.W.Write.contents c.serve_on-ran.new.output; recorded = record { bytes = g.F.Write.contents c.serve_on-ran.new.notes.recorder.stream; lost = c.serve_on-ran.new.notes.recorder.is_lost } })
    c.serve_on-ran.result (g.W.Write.contents c.print_served.new.output) c.print_served.result c.serve_on-ran.ensures.served (search rules) (search rules) (search rules) c.print_served.ensures.told)

pub returns-in-Err-clause-told : goal.returns-in-Err-clause-told
returns-in-Err-clause-told g c =
    IfOk-weaker c.print_outcome.result _ _
    (λ status h. inl (subst (λ n. Tells (refusal (Socket n)) (g.W.Write.contents c.args.output.now) (g.W.Write.contents c.print_outcome.new.output) status) (c.port.ensures ∙ port_is c.args.serve.now.network.bind) h))
    c.print_outcome.ensures.told
