use Rattle.std.proofs.Common.{◌≡◌, ◌==◌, ◌∙◌, sym, ap}
use Rattle.std.specs.Map.{lookup}
use Rattle.fb_cert.specs.Views.{count_in}
use Rattle.fb_cert.proofs.Places.{channels_same}
use Rattle.fb_cert.proofs.certificate.Certificate.channel.Goals as goal

pub returns : goal.returns
returns c =
    let table = c.self.inside.lists.channels.entries in
    let number = c.args.number in
    let e : c.copied.result ≡ lookup (λ k. number == k) table = c.copied.ensures ∙ c.get.ensures.value in
    rw (← c.self.view_is) (record { row = e; steps = ap count_in e ∙ sym (channels_same table number) })
