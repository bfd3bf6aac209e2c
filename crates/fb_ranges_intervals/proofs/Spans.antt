-- Tests of ranges.
use Rattle.std.proofs.Common.{◌≡◌, ℤ, ◌≤ℤ◌}
use Rattle.fb_words.specs.declared.elem_type.ElemType.{ElemType}
use Rattle.fb_model.specs.Values.{lowest, highest}
use Rattle.fb_model.specs.Spans.{span, fitted}
use Rattle.fb_words.proofs.Types.{le_true}

-- what lies in a type stays as it is
pub fitted_yes : (a : ElemType) (low high : ℤ) → lowest a ≤ℤ low → high ≤ℤ highest a → fitted a (span low high) ≡ span low high
fitted_yes a low high h k = let e = le_true (lowest a) low h in let f = le_true high (highest a) k in rw (e, f)
