-- Ranges that are told to be the same.
use Rattle.std.proofs.Common.{◌≡◌, Bool, true, false, Option, Some, List, [], ◌∷◌, map, refl, sym, ap, ap₂, ◌∙◌}
use Rattle.std.proofs.Math.Path.{fun_ext}
use Rattle.std.specs.Prelude.{if◌then◌else◌, string_bytes, ◌&&◌}
use Rattle.std.specs.Cmp.Lexicographic.{pointwise}
use Rattle.std.specs.Option.{option_map, unwrap_or}
use Rattle.std.specs.Ordering.{int_eq}
use Rattle.std.specs.String.{string_eq}
use Rattle.std.proofs.lemmas.Bool.Decides.{Decides-int_eq}
use Rattle.std.proofs.lemmas.Bool.{and_parts}
use Rattle.std.specs.List.{AllZip}
use Rattle.std.specs.Str.{bytes_eq}
use Rattle.std.specs.declared.string.String.{String}
use Rattle.std.specs.declared.alloc.Global.{Global}
use Rattle.fb_words.specs.declared.elem_type.ElemType.TheVariants as t
use Rattle.fb_model.specs.Names.{Name}
use Rattle.fb_model.specs.Spans.{Span, span, whole}
use Rattle.fb_model.proofs.Lists.{same_name}
use Rattle.fb_ranges_intervals.specs.declared.interval.Interval.{Interval}
use Rattle.fb_ranges_intervals.specs.Views.{span_of}
use Rattle.fb_ranges.specs.Views.{row_of, spans_in}

-- ranges that are told to be the same
pub spans_like : (r s : Interval) → (int_eq r.low s.low && int_eq r.high s.high) ≡ true → span_of r ≡ span_of s
spans_like r s h = let p = and_parts (int_eq r.low s.low) (int_eq r.high s.high) h in ap₂ span ((Decides-int_eq r.low s.low).0 p.0) ((Decides-int_eq r.high s.high).0 p.1)

pair_of : (a b : Span) (xs ys : List Span) → a ∷ xs ≡ b ∷ ys → (a ≡ b) × (xs ≡ ys)
pair_of a b xs ys h = (cc, cc)

row_step : (b : Bool) (r s : Interval) (o p : Option Interval) → span_of r ≡ span_of s → option_map span_of o ≡ option_map span_of p → option_map span_of (if b then Some r else o) ≡ option_map span_of (if b then Some s else p)
row_step true r s o p h e = ap (λ x. Some x) h
row_step false r s o p h e = e

row_like : (ns : List Name) (rs ss : List Interval) (x : Name) → map span_of rs ≡ map span_of ss → option_map span_of (row_of ns rs x) ≡ option_map span_of (row_of ns ss x)
row_like [] rs ss x h = refl
row_like (n ∷ ns) [] [] x h = refl
row_like (n ∷ ns) [] (s ∷ ss) x h = cc
row_like (n ∷ ns) (r ∷ rs) [] x h = cc
row_like (n ∷ ns) (r ∷ rs) (s ∷ ss) x h = let p = pair_of (span_of r) (span_of s) (map span_of rs) (map span_of ss) h in row_step (bytes_eq x n) r s (row_of ns rs x) (row_of ns ss x) p.0 (row_like ns rs ss x p.1)

keys_like : (ks ls : List (String Global)) → pointwise string_eq ks ls ≡ true → map string_bytes ks ≡ map string_bytes ls
keys_like [] [] h = refl
keys_like [] (l ∷ ls) h = cc
keys_like (k ∷ ks) [] h = cc
keys_like (k ∷ ks) (l ∷ ls) h = let p = and_parts (string_eq k l) (pointwise string_eq ks ls) h in ap₂ (λ (n : Name) (ns : List Name). n ∷ ns) (same_name (string_bytes k) (string_bytes l) p.0) (keys_like ks ls p.1)

-- the same ranges of the same names in order
pub rows_like : (ks ls : List (String Global)) (rs ss : List Interval) → true ≡ pointwise string_eq ks ls → map span_of rs ≡ map span_of ss → spans_in (map string_bytes ks) rs ≡ spans_in (map string_bytes ls) ss
rows_like ks ls rs ss h e =
    fun_ext (λ x. ap (λ r. unwrap_or r (whole t.Lint)) (row_like (map string_bytes ks) rs ss x e)) ∙ ap (λ ns. spans_in ns ss) (keys_like ks ls (sym h))

-- copies of rows
pub same_items : (rs ss : List Interval) → AllZip (λ (r s : Interval). s ≡ r) rs ss → ss ≡ rs
same_items [] [] h = refl
same_items [] (s ∷ ss) h = absurd h
same_items (r ∷ rs) [] h = absurd h
same_items (r ∷ rs) (s ∷ ss) h = ap₂ (λ (x : Interval) (xs : List Interval). x ∷ xs) h.0 (same_items rs ss h.1)
