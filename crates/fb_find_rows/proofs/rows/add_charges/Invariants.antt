use Rattle.std.proofs.Common.{◌≡◌, [], take}
use Rattle.std.specs.List.{IsDistinct}
use Rattle.std.specs.Str.{bytes_eq}
use Rattle.fb_cert.specs.Views.{rows_of}
use Rattle.fb_find_rows.specs.Places.{texts_of}
use Rattle.fb_find_rows.specs.Numbers.{amounts, CanBeSaid, with_charges}
use Rattle.fb_find_rows.proofs.rows.add_charges.Given as goal

-- the rows of the first texts are there
abbrev pub invariant-loop-index : goal.invariant-loop-index
invariant-loop-index l =
    (rows_of l.initial.certificate).charges ≡ [] → IsDistinct bytes_eq (texts_of l.fn.states) → CanBeSaid (texts_of l.fn.states) l.steps l.places → rows_of l.certificate ≡ with_charges (amounts (take l.index (texts_of l.fn.states)) l.steps l.places) (rows_of l.initial.certificate)
