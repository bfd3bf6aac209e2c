use Rattle.std.proofs.Common.{◌∙◌, sym, ap}
use Rattle.std.specs.Prelude.{position, string_bytes}
use Rattle.std.specs.Str.{bytes_eq}
use Rattle.fb_ranges.proofs.Tables.{numbered, set}
use Rattle.fb_ranges.proofs.rows.Ranges.insert.Goals as goal

pub add-requires : goal.add-requires
add-requires c =
    let x = c.args.name.now in
    sym (numbered x c.args.self.now.names.value.keys) ∙ sym (c.in-None.ensures.index ∙ ap (λ s. position (λ y. bytes_eq x (string_bytes y)) s.keys) c.deref.ensures)

pub returns-in-Some-clause-set : goal.returns-in-Some-clause-set
returns-in-Some-clause-set c =
    let self = c.args.self.now in
    let x = c.args.name.now in
    set x self.names.value.keys self.rows.items c.in-Some.number c.args.interval self.even
    (sym (numbered x self.names.value.keys) ∙ sym (c.in-Some.ensures.index ∙ ap (λ s. position (λ y. bytes_eq x (string_bytes y)) s.keys) c.deref.ensures))
