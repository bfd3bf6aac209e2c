-- Rows come to one end.
use Rattle.std.proofs.Common.{ℕ, ◌≡◌, ◌+◌, List, refl}
use Rattle.fb_model.specs.Ranges.{Range}
use Rattle.fb_model.specs.Wires.{Leaf}
use Rattle.fb_model.specs.FinderRanges.{round, Settles, ends, goes_on}

pub one_end : (all : List Leaf) (n : ℕ) (xs ys zs : List Range) → Settles all n xs ys → Settles all n xs zs → ys ≡ zs
one_end all n xs ys zs (ends e) (ends f) = refl
one_end all n xs ys zs (ends e) (goes_on d s) = absurd (d e)
one_end all n xs ys zs (goes_on d s) (ends f) = absurd (d f)
one_end all n xs ys zs (goes_on d s) (goes_on e t) = one_end all (n + 1) (round n all xs) ys zs s t
