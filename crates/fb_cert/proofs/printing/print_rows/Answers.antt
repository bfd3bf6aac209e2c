use Rattle.std.proofs.Common.{◌∙◌, [], ◌∷◌}
use Rattle.fb_cert.specs.declared.kind.Kind.TheVariants as kinds
use Rattle.fb_cert.specs.Views.{rows_of}
use Rattle.fb_cert.proofs.Rests.{kind_left, all_left}
use Rattle.fb_cert.proofs.printing.print_rows.Goals as goal

pub returns : goal.returns
returns c =
    let rows = rows_of c.args.certificate.now in
    all_left rows _ _ c.in_ok-text.ensures.ok
    (kind_left rows kinds.Channel [] _ _ c.in_ok-print_kind-8.ensures
    ∙ kind_left rows kinds.FarState (kinds.Channel ∷ []) _ _ c.in_ok-print_kind-7.ensures
    ∙ kind_left rows kinds.Far (kinds.FarState ∷ kinds.Channel ∷ []) _ _ c.in_ok-print_kind-6.ensures
    ∙ kind_left rows kinds.Depth (kinds.Far ∷ kinds.FarState ∷ kinds.Channel ∷ []) _ _ c.in_ok-print_kind-5.ensures
    ∙ kind_left rows kinds.Weight (kinds.Depth ∷ kinds.Far ∷ kinds.FarState ∷ kinds.Channel ∷ []) _ _ c.in_ok-print_kind-4.ensures
    ∙ kind_left rows kinds.Charge (kinds.Weight ∷ kinds.Depth ∷ kinds.Far ∷ kinds.FarState ∷ kinds.Channel ∷ []) _ _ c.in_ok-print_kind-3.ensures
    ∙ kind_left rows kinds.Range (kinds.Charge ∷ kinds.Weight ∷ kinds.Depth ∷ kinds.Far ∷ kinds.FarState ∷ kinds.Channel ∷ []) _ _ c.in_ok-print_kind-2.ensures
    ∙ kind_left rows kinds.Repeats (kinds.Range ∷ kinds.Charge ∷ kinds.Weight ∷ kinds.Depth ∷ kinds.Far ∷ kinds.FarState ∷ kinds.Channel ∷ []) _ _ c.in_ok-print_kind.ensures)
