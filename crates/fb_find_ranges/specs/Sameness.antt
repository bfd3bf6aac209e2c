-- Whether two rows of ranges are the same.
use Rattle.std.specs.Prelude.{Bool, true, false, ◌&&◌, List, [], ◌∷◌}
use Rattle.std.specs.Ordering.{int_eq}
use Rattle.fb_model.specs.Spans.{Span}
use Rattle.fb_find_ranges.specs.Lines.{Line, Lined}

abbrev pub same_span : Span → Span → Bool
same_span r s = int_eq r.low s.low && int_eq r.high s.high

abbrev pub same_lines : List Line → List Line → Bool
same_lines [] [] = true
same_lines (l ∷ ls) (m ∷ ms) = same_span l.range m.range && same_lines ls ms
same_lines [] (m ∷ ms) = false
same_lines (l ∷ ls) [] = false

abbrev pub same_all : List Lined → List Lined → Bool
same_all [] [] = true
same_all (x ∷ xs) (y ∷ ys) = same_lines x.lines y.lines && same_all xs ys
same_all [] (y ∷ ys) = false
same_all (x ∷ xs) [] = false
