use Rattle.std.proofs.Common.{◌≡◌, take}
use Rattle.fb_model.specs.Names.{Name}
use Rattle.fb_model.specs.CertificateText.{names_in}
use Rattle.fb_find_ranges.specs.Views.{near_at, number_of}
use Rattle.fb_find_ranges.proofs.Putting.{shown_all}
use Rattle.fb_find_ranges.proofs.near.near.Given as goal

abbrev pub invariant-loop-index : goal.invariant-loop-index
invariant-loop-index l = (x : Name) → near_at l.near x ≡ number_of (shown_all (take l.index l.leaves)) (names_in x)
