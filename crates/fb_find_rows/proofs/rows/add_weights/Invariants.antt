use Rattle.std.proofs.Common.{◌≡◌, [], take}
use Rattle.std.specs.List.{IsDistinct}
use Rattle.std.specs.Str.{bytes_eq}
use Rattle.fb_cert.specs.Views.{rows_of}
use Rattle.fb_find_rows.specs.Places.{texts_of}
use Rattle.fb_find_rows.specs.Numbers.{amounts, CanBeSaid, with_weights}
use Rattle.fb_find_rows.proofs.rows.add_weights.Given as goal

-- the rows of the first texts are there
abbrev pub invariant-loop-index : goal.invariant-loop-index
invariant-loop-index l =
    (rows_of l.initial.certificate).weights ≡ [] → IsDistinct bytes_eq (texts_of l.fn.events) → CanBeSaid (texts_of l.fn.events) l.steps l.places → rows_of l.certificate ≡ with_weights (amounts (take l.index (texts_of l.fn.events)) l.steps l.places) (rows_of l.initial.certificate)
