use Rattle.std.proofs.Common.{◌≡◌, ◌∙◌, Some, refl, sym, ap, ap₂, subst, slice_get, length}
use Rattle.std.proofs.lemmas.Option.{slice_get_read}
use Rattle.std.specs.Str.{bytes_eq}
use Rattle.fb_ranges.specs.Views.{keys_of, number_of}
use Rattle.fb_ranges.proofs.Tables.{number_is}
use Rattle.fb_ranges.proofs.rows.Ranges.is_at.Goals as goal

pub returns-in-Some-clause-named : goal.returns-in-Some-clause-named
returns-in-Some-clause-named c t =
    let keys = c.as_slice.result.now in
    let found = c.in-Some.ensures.lookup in
    subst (λ s. number_of (keys_of s) c.args.name.now ≡ Some c.args.number) c.deref.ensures
    (number_is c.args.name.now c.deref.result.now.keys c.args.number c.in-Some.key.now c.as_slice.ensures.unique
    (ap (λ ks. slice_get ks c.args.number) (sym c.as_slice.ensures.keys) ∙ slice_get_read keys (length keys) c.args.number c.in-Some.key.now refl found.3.0 found.1)
    (ap₂ bytes_eq (sym c.as_bytes.ensures.value) (sym c.as_bytes-in-Some.ensures.value) ∙ sym c.is_name.ensures ∙ t))
