use Rattle.std.proofs.Common.{◌≡◌, ◌∙◌, sym, ap}
use Rattle.fb_cert.specs.Views.{first_at, texts_of, steps_in, places_in}
use Rattle.fb_cert.proofs.Tables.{first_from_lookup}
use Rattle.fb_cert.proofs.Places.{steps_same, places_same}
use Rattle.fb_cert.proofs.certificate.Certificate.weight.Goals as goal

pub returns : goal.returns
returns c =
    let table = texts_of c.self.inside.lists.weights in
    let path = c.args.path.now in
    let e : c.copied.result ≡ first_at path table = c.copied.ensures ∙ c.get.ensures.value ∙ first_from_lookup path c.self.inside.lists.weights.entries in
    rw (← c.self.view_is) (record { row = e; steps = ap steps_in e ∙ sym (steps_same table path); places = ap places_in e ∙ sym (places_same table path) })
