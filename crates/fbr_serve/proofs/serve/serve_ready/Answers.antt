use Rattle.fbr_files.specs.Reading.{held_by}
use Rattle.std.specs.Prelude.{option_map}
use Rattle.fbr_words.specs.Requests.{service_of}
use Rattle.fbr_serve.specs.Serving.{seals_of}
use Rattle.fbr_serve.proofs.Loaded.{started, device_served}
use Rattle.fbr_serve.proofs.serve.serve_ready.Goals as goal

pub returns-clause-told : goal.returns-clause-told
returns-clause-told g c = λ before booted after boot taken ready seals.
    let q = service_of c.args.serve.now in
    device_served q before booted after boot (option_map (seals_of g.K.Keep.held) c.args.seals) c.start-device.result (g.W.Write.contents c.args.output.now) (g.W.Write.contents c.serve_by-status.new.output) c.serve_by-status.result taken seals
    (started q boot (held_by q.meant (before q.app)) (before q.cert) c.args.ready c.start-device.result ready c.start-device.ensures.first c.start-device.ensures.same.0 c.start-device.ensures.same.1)
    c.serve_by-status.ensures.told
