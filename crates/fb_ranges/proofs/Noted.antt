-- What is noted of variables.
use Rattle.std.proofs.Common.{◌≡◌, ℕ, zero, suc, ◌+◌, ◌<◌, List, [], ◌∷◌, ◌++◌, map, length, take, get_or, sym, ap, ap₂, ◌∙◌, arith, string_bytes}
use Rattle.std.proofs.lemmas.List.{map_push, take_more}
use Rattle.std.specs.Borrow.{Bor}
use Rattle.st_types.specs.declared.term.VariableName.{VariableName}
use Rattle.fb_model.specs.Names.{Name}
use Rattle.fb_model.specs.Clear.{Spans}
use Rattle.fb_ranges_intervals.specs.declared.interval.Interval.{Interval}
use Rattle.fb_ranges_intervals.specs.Views.{span_of}
use Rattle.fb_ranges.specs.Views.{names_of}

-- so much is noted of these
abbrev pub IsNoted : List (Bor VariableName) → Spans → List Interval → Type 0
IsNoted names spans ranges = map span_of ranges ≡ map spans (names_of names)

-- of the next of listed variables too
pub noted_next : (names : List (Bor VariableName)) (k : ℕ) (n : Bor VariableName) (spans : Spans) (ranges : List Interval) (r : Interval) (x : Name)
    → k < length names → n ≡ get_or names k n → x ≡ string_bytes n.now.name → span_of r ≡ spans x → IsNoted (take k names) spans ranges → IsNoted (take (k + 1) names) spans (ranges ++ r ∷ [])
noted_next names k n spans ranges r x lt is name range h =
    map_push span_of ranges r
    ∙ ap₂ (λ rs z. rs ++ z ∷ []) h (range ∙ ap spans name)
    ∙ sym (map_push spans (names_of (take k names)) (string_bytes n.now.name))
    ∙ ap (map spans) (sym (ap names_of (take_more names k n lt ∙ ap (λ m. take k names ++ m ∷ []) (sym is)) ∙ map_push (λ (v : Bor VariableName). string_bytes v.now.name) (take k names) n))

-- of each of them a range
pub noted_at : (names : List (Bor VariableName)) (spans : Spans) (ranges : List Interval) (i : ℕ) (r : Interval) (n : Bor VariableName)
    → IsNoted names spans ranges → r ≡ get_or ranges i r → i < length names → n ≡ get_or names i n → span_of r ≡ spans (string_bytes n.now.name)
noted_at [] spans ranges i r n h s lt is = absurd (omega (arith, lt))
noted_at (m ∷ ms) spans [] i r n h s lt is = cc
noted_at (m ∷ ms) spans (q ∷ qs) zero r n h s lt is =
    let a : span_of q ≡ spans (string_bytes m.now.name) = cc in
    ap span_of s ∙ a ∙ ap (λ z. spans (string_bytes z.now.name)) (sym is)
noted_at (m ∷ ms) spans (q ∷ qs) (suc i) r n h s lt is =
    let rest : IsNoted ms spans qs = cc in
    noted_at ms spans qs i r n rest s (omega (arith, lt)) is
