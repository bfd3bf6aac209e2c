-- Entries of tables in the book's words, one after another.
use Rattle.std.proofs.Common.{◌≡◌, ℕ, suc, ◌+◌, ◌<◌, Bool, ◌&&◌, length, drop, get_or, ap₂, arith, true, false, cond, ◌||◌, List, [], ◌∷◌, ◌++◌, map, take, Some, is_some, refl, sym, ap, ◌∙◌, string_bytes, Global}
use Rattle.std.specs.Prelude.{slice_get}
use Rattle.std.specs.Int.{int_min, int_max}
use Rattle.std.proofs.lemmas.Int.{ints, clamps}
use Rattle.std.proofs.Math.Seq.{drop-cons}
use Rattle.std.proofs.lemmas.List.{map_push, append_assoc, take_more}
use Rattle.std.specs.Map.{lookup}
use Rattle.std.specs.Str.{bytes_eq}
use Rattle.std.specs.declared.string.String.{String}
use Rattle.fb_model.specs.Names.{Name, is_in}
use Rattle.fb_model.specs.System as book
use Rattle.fb_model.specs.Store.{variable_names}
use Rattle.fb_model.specs.BlockTyping.{variable_of}
use Rattle.fb_types_blocks.specs.declared.typed.Variable.{Variable}
use Rattle.fb_types_blocks.specs.Views.{declared_of}
use Rattle.st_types.specs.declared.whole.Algo.{Algo}
use Rattle.st_types.specs.CommandViews.{commands_of}
use Rattle.fb_model.specs.Spans.{Span, span, joined}
use Rattle.fb_model.specs.Clear.{Spans, changed}
use Rattle.fb_model.specs.Asking.{grown}
use Rattle.fb_ranges_intervals.specs.Views.{span_of}
use Rattle.fb_lists.proofs.Lists.{take_at}
use Rattle.fb_find_ranges.specs.declared.rows.Row.{Row}
use Rattle.fb_find_ranges.specs.Lines.{Line, line_by, all_grown, joined_all, IsAsked, put}
use Rattle.fb_find_ranges.specs.Sameness.{same_span, same_lines, same_all}
use Rattle.fb_find_ranges.specs.Views.{line_of, lined_in, Shared}
use Rattle.fb_find_ranges.proofs.Asking.{joined_swap}

abbrev pub booked : List (String Global × Variable) → List book.Variable
booked es = map variable_of (map (λ p. declared_of (string_bytes p.0) p.1) es)

abbrev pub procedures_in : List (String Global × Algo) → List book.Procedure
procedures_in es = map (λ p. record { name = string_bytes p.0; algorithm = commands_of p.1.statements.items }) es

-- a name that is looked up is among those of the variables
pub found_named : (x : Name) (es : List (String Global × Variable)) → is_some (lookup (λ y. bytes_eq x (string_bytes y)) es) ≡ is_in x (variable_names (booked es))
found_named x [] = refl
found_named x (e ∷ es) = by (bytes_eq x (string_bytes e.0)) (found_named x es) where
  by : (b : Bool) → is_some (lookup (λ y. bytes_eq x (string_bytes y)) es) ≡ is_in x (variable_names (booked es)) → is_some (cond b (Some e.1) (lookup (λ y. bytes_eq x (string_bytes y)) es)) ≡ (b || is_in x (variable_names (booked es)))
  by true h = refl
  by false h = h

-- ---- a name at a time

abbrev pub shown : String Global × Variable → book.Variable
shown e = variable_of (declared_of (string_bytes e.0) e.1)

booked_push : (es : List (String Global × Variable)) (e : String Global × Variable) → booked (es ++ e ∷ []) ≡ booked es ++ shown e ∷ []
booked_push [] e = refl
booked_push (f ∷ es) e = ap (λ vs. shown f ∷ vs) (booked_push es e)

-- the row of the next variable is added
pub next_row : (f : book.Variable → Span) (es : List (String Global × Variable)) (i : ℕ) (e : String Global × Variable) (rows now : List Row) (old : List Line) (row : Row) (x : Name)
    → Some e ≡ slice_get es i → x ≡ string_bytes e.0 → now ≡ rows ++ row ∷ [] → line_of row ≡ line_by f (variable_of (declared_of x e.1)) → map line_of rows ≡ old ++ map (line_by f) (booked (take i es))
    → map line_of now ≡ old ++ map (line_by f) (booked (take (i + 1) es))
next_row f es i e rows now old row x is name put line before =
    ap (map line_of) put
    ∙ map_push line_of rows row
    ∙ ap₂ (λ ls l. ls ++ l ∷ []) before (line ∙ ap (λ n. line_by f (variable_of (declared_of n e.1))) name)
    ∙ append_assoc old (map (line_by f) (booked (take i es))) (line_by f (shown e) ∷ [])
    ∙ ap (λ ls. old ++ ls) (sym (map_push (line_by f) (booked (take i es)) (shown e)) ∙ ap (map (line_by f)) (sym (ap booked (take_at es i e (sym is)) ∙ booked_push (take i es) e)))

abbrev procedure : String Global × Algo → book.Procedure
procedure p = record { name = string_bytes p.0; algorithm = commands_of p.1.statements.items }

procedures_push : (es : List (String Global × Algo)) (e : String Global × Algo) → procedures_in (es ++ e ∷ []) ≡ procedures_in es ++ procedure e ∷ []
procedures_push [] e = refl
procedures_push (f ∷ es) e = ap (λ ps. procedure f ∷ ps) (procedures_push es e)

joined_self : (r : Span) → joined r r ≡ r
joined_self r =
    let low : int_min r.low r.low ≡ r.low = omega (arith, ints, clamps) in
    let high : int_max r.high r.high ≡ r.high = omega (arith, ints, clamps) in
    ap₂ span low high

joined_twice : (r s : Span) → joined (joined r s) s ≡ joined r s
joined_twice r s =
    let low : int_min (int_min r.low s.low) s.low ≡ int_min r.low s.low = omega (arith, ints, clamps) in
    let high : int_max (int_max r.high s.high) s.high ≡ int_max r.high s.high = omega (arith, ints, clamps) in
    ap₂ span low high

one_more : (spans : Spans) (ps : List book.Procedure) (p : book.Procedure) (x : Name) (r : Span) → joined_all (all_grown spans (ps ++ p ∷ [])) x r ≡ joined (joined_all (all_grown spans ps) x r) (grown spans p.algorithm x)
one_more spans [] p x r = refl
one_more spans (q ∷ ps) p x r = one_more spans ps p x (joined r (grown spans q.algorithm x))

-- the ranges themselves are what no algorithm asks
pub none_asks : (asked spans : Spans) → asked ≡ spans → IsAsked asked [] spans
none_asks asked spans e x = ap (λ (f : Spans). joined (f x) (spans x)) e ∙ joined_self (spans x)

-- what the next algorithm asks is added
pub next_asks : (spans : Spans) (es : List (String Global × Algo)) (i : ℕ) (e : String Global × Algo) (asked now : Spans)
    → Some e ≡ slice_get es i → ((x : Name) → joined (now x) (spans x) ≡ joined (asked x) (grown spans (commands_of e.1.statements.items) x)) → IsAsked asked (all_grown spans (procedures_in (take i es))) spans → IsAsked now (all_grown spans (procedures_in (take (i + 1) es))) spans
next_asks spans es i e asked now is more before x =
    let r = spans x in
    let g = grown spans (commands_of e.1.statements.items) x in
    sym (joined_twice (now x) r)
    ∙ ap (λ s. joined s r) (more x)
    ∙ joined_swap (asked x) g r
    ∙ ap (λ s. joined s g) (before x)
    ∙ sym (ap (λ ps. joined_all (all_grown spans ps) x r) (ap procedures_in (take_at es i e (sym is)) ∙ procedures_push (take i es) e) ∙ one_more spans (procedures_in (take i es)) (procedure e) x r)

-- the next row is put
pub next_put : (rows : List Row) (i : ℕ) (row : Row) (before now all : Spans) → i < length rows → row ≡ get_or rows i row → put (map line_of (drop i rows)) before ≡ all → now ≡ changed row.name.now (λ r. span_of row.range) before
    → put (map line_of (drop (i + 1) rows)) now ≡ all
next_put rows i row before now all l is start set =
    let here : drop i rows ≡ row ∷ drop (suc i) rows = drop-cons rows i row l ∙ ap (λ y. y ∷ drop (suc i) rows) (sym is) in
    let next : i + 1 ≡ suc i = omega arith in
    ap₂ (λ n s. put (map line_of (drop n rows)) s) next set ∙ ap (λ xs. put (map line_of xs) before) (sym here) ∙ start

-- ---- rows of other numbers

pub other_lines : (xs ys : List Row) → (length xs ≡ length ys → ⊥) → false ≡ same_lines (map line_of xs) (map line_of ys)
other_lines [] [] d = absurd (d refl)
other_lines [] (y ∷ ys) d = refl
other_lines (x ∷ xs) [] d = refl
other_lines (x ∷ xs) (y ∷ ys) d = by (same_span (span_of x.range) (span_of y.range)) (other_lines xs ys (λ e. d (ap suc e))) where
  by : (b : Bool) → false ≡ same_lines (map line_of xs) (map line_of ys) → false ≡ (b && same_lines (map line_of xs) (map line_of ys))
  by true e = e
  by false e = refl

pub other_leaves : (xs ys : List Shared) → (length xs ≡ length ys → ⊥) → false ≡ same_all (map lined_in xs) (map lined_in ys)
other_leaves [] [] d = absurd (d refl)
other_leaves [] (y ∷ ys) d = refl
other_leaves (x ∷ xs) [] d = refl
other_leaves (x ∷ xs) (y ∷ ys) d = by (same_lines (map line_of x.value.rows.items) (map line_of y.value.rows.items)) (other_leaves xs ys (λ e. d (ap suc e))) where
  by : (b : Bool) → false ≡ same_all (map lined_in xs) (map lined_in ys) → false ≡ (b && same_all (map lined_in xs) (map lined_in ys))
  by true e = e
  by false e = refl

-- the next of a list is added
pub next_added : {A B C : Type 0} (f : A → C) (g : B → C) (bs : List B) (i : ℕ) (b : B) (all now : List A) (a : A) → i < length bs → b ≡ get_or bs i b → now ≡ all ++ a ∷ [] → f a ≡ g b → map f all ≡ map g (take i bs) → map f now ≡ map g (take (i + 1) bs)
next_added f g bs i b all now a l is put same before =
    ap (map f) put ∙ map_push f all a ∙ ap₂ (λ xs x. xs ++ x ∷ []) before same ∙ sym (ap (map g) (take_more bs i b l ∙ ap (λ y. take i bs ++ y ∷ []) (sym is)) ∙ map_push g (take i bs) b)
