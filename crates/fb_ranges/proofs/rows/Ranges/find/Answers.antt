use Rattle.std.proofs.Common.{◌∙◌, sym, ap}
use Rattle.std.specs.Prelude.{position, string_bytes}
use Rattle.std.specs.Str.{bytes_eq}
use Rattle.fb_ranges.proofs.Tables.{found, lost, numbered}
use Rattle.fb_ranges.proofs.rows.Ranges.find.Goals as goal

pub returns-in-Some : goal.returns-in-Some
returns-in-Some c =
    let self = c.args.self.now in
    let x = c.args.name.now in
    found x self.names.value.keys self.rows.items c.in-Some.number c.index.result.now self.even
    (sym (numbered x self.names.value.keys) ∙ sym (c.in-Some.ensures.index ∙ ap (λ s. position (λ y. bytes_eq x (string_bytes y)) s.keys) c.deref.ensures)) c.index.ensures

pub returns-in-None : goal.returns-in-None
returns-in-None c =
    let self = c.args.self.now in
    let x = c.args.name.now in
    c.whole.ensures.value
    ∙ sym (lost x self.names.value.keys self.rows.items (sym (numbered x self.names.value.keys) ∙ sym (c.in-None.ensures.index ∙ ap (λ s. position (λ y. bytes_eq x (string_bytes y)) s.keys) c.deref.ensures)))
