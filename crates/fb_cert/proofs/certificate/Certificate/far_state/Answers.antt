use Rattle.std.proofs.Common.{◌≡◌, ◌∙◌, sym, ap}
use Rattle.fb_cert.specs.Views.{first_at, texts_of, count_in}
use Rattle.fb_cert.proofs.Tables.{first_from_lookup}
use Rattle.fb_cert.proofs.Places.{fars_same}
use Rattle.fb_cert.proofs.certificate.Certificate.far_state.Goals as goal

pub returns : goal.returns
returns c =
    let table = texts_of c.self.inside.lists.far_states in
    let path = c.args.path.now in
    let e : c.copied.result ≡ first_at path table = c.copied.ensures ∙ c.get.ensures.value ∙ first_from_lookup path c.self.inside.lists.far_states.entries in
    rw (← c.self.view_is) (record { row = e; steps = ap count_in e ∙ sym (fars_same table path) })
