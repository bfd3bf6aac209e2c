use Rattle.std.proofs.Common.{◌≡◌, [], take}
use Rattle.std.specs.List.{IsDistinct}
use Rattle.std.specs.Str.{bytes_eq}
use Rattle.fb_cert.specs.Views.{rows_of}
use Rattle.fb_find_rows.specs.Places.{texts_of}
use Rattle.fb_find_rows.specs.Numbers.{counts, CanBeCounted, with_far_states}
use Rattle.fb_find_rows.proofs.far.add_far_states.Given as goal

-- the rows of the first texts are there
abbrev pub invariant-loop-index : goal.invariant-loop-index
invariant-loop-index l =
    (rows_of l.initial.certificate).far_states ≡ [] → IsDistinct bytes_eq (texts_of l.fn.states) → CanBeCounted (texts_of l.fn.states) l.steps → rows_of l.certificate ≡ with_far_states (counts (take l.index (texts_of l.fn.states)) l.steps) (rows_of l.initial.certificate)
