-- Leaves that rounds share, with what is kept of them.
use denote.Ref.{Bor}
use Rattle.std.proofs.Common.{◌≡◌, ℕ, true, List, [], ◌∷◌, ◌++◌, map, refl, sym, ap, ap₂, subst, ◌∙◌, Result, Ok, Err}
use Rattle.std.specs.Prelude.{IfOk, MatchResult}
use Rattle.std.proofs.lemmas.Bool.{and_parts}
use Rattle.fb_model.proofs.Lists.{all_append}
use Rattle.fb_find_ranges.specs.declared.rows.Row.{Row}
use Rattle.fb_find_ranges.specs.declared.rows.LeafRows.{LeafRows}
use Rattle.fb_flat.specs.declared.flat.Leaf.{Leaf}
use Rattle.fb_find_ranges.specs.Lines.{Line, line, Lined, lined, first_lined, Tabled, tabled, asked_in, stepped, next_line, next_lined, next_round}
use Rattle.fb_find_ranges.specs.Sameness.{same_span, same_lines}
use Rattle.fb_find_ranges.specs.Views.{line_of, lined_of, tabled_of, Shared, leaf_in, lined_in, tabled_in, IsKept, AreKept, shown}
use Rattle.fb_find_ranges.proofs.Ending.{span_is}

-- one more is kept
pub kept_more : (all now : List Shared) (s : Shared) → now ≡ all ++ s ∷ [] → AreKept all → IsKept s.value → AreKept now
kept_more all now s put before kept = subst AreKept (sym put) (all_append (λ (x : Shared). IsKept x.value) all (s ∷ []) before (kept, tt))

tables_are : (ss : List Shared) → AreKept ss → map tabled_in ss ≡ map tabled (map lined_in ss)
tables_are [] kept = refl
tables_are (s ∷ ss) kept = ap₂ (λ spans (ts : List Tabled). record { leaf = shown s.value.leaf.now; lines = map line_of s.value.rows.items; spans = spans } ∷ ts) kept.0.ranges (tables_are ss kept.1)

each_next : (n : ℕ) (ts : List Tabled) (ss : List Shared) → map (λ (s : Shared). next_lined n ts (tabled_in s)) ss ≡ map (next_lined n ts) (map tabled_in ss)
each_next n ts [] = refl
each_next n ts (s ∷ ss) = ap (λ xs. next_lined n ts (tabled_in s) ∷ xs) (each_next n ts ss)

-- a leaf that is shared is the same
pub same_shared : {E : Type 0} (r : Result Shared E) (s : LeafRows) (l : Lined) → MatchResult r (λ (x : Shared). x.value ≡ s) (λ _. ⊥ → ⊥) → lined_of s ≡ l → IfOk r (λ (x : Shared). lined_in x ≡ l)
same_shared (Ok x) s l e is = ap lined_of e ∙ is
same_shared (Err y) s l e is = tt

-- the leaves after a round, one after another
pub round_is : (n : ℕ) (ss : List Shared) → AreKept ss → map (λ (s : Shared). next_lined n (map tabled_in ss) (tabled_in s)) ss ≡ next_round n (map lined_in ss)
round_is n ss kept = each_next n (map tabled_in ss) ss ∙ ap (λ ts. map (next_lined n ts) ts) (tables_are ss kept)

lines_stay : (n : ℕ) (ts : List Tabled) (t : Tabled) (ls : List Line) → same_lines ls (map (next_line n ts t) ls) ≡ true → map (next_line n ts t) ls ≡ ls
lines_stay n ts t [] same = refl
lines_stay n ts t (l ∷ ls) same =
    let r = stepped n l.type l.range (asked_in ts t l.name) in
    let p = and_parts (same_span l.range r) (same_lines ls (map (next_line n ts t) ls)) same in
    ap₂ (λ s rest. line l.name l.type s ∷ rest) (sym (span_is l.range r p.0)) (lines_stay n ts t ls p.1)

-- a leaf whose ranges a round leaves the same is as it was
pub leaf_stays : (n : ℕ) (ts : List Tabled) (s : LeafRows) (rows : List Row) → map line_of rows ≡ map (next_line n ts (tabled_of s)) (map line_of s.rows.items) → same_lines (map line_of s.rows.items) (map line_of rows) ≡ true
    → lined_of s ≡ next_lined n ts (tabled_of s)
leaf_stays n ts s rows is same = ap (lined (shown s.leaf.now)) (sym (lines_stay n ts (tabled_of s) (map line_of s.rows.items) (subst (λ ls. same_lines (map line_of s.rows.items) ls ≡ true) is same)))

-- ---- leaves

leaves_next : (n : ℕ) (ts us : List Tabled) → map (λ (s : Lined). s.leaf) (map (next_lined n us) ts) ≡ map (λ (t : Tabled). t.leaf) ts
leaves_next n [] us = refl
leaves_next n (t ∷ ts) us = ap (λ ls. t.leaf ∷ ls) (leaves_next n ts us)

leaves_tabled : (ss : List Shared) → map (λ (t : Tabled). t.leaf) (map tabled (map lined_in ss)) ≡ map leaf_in ss
leaves_tabled [] = refl
leaves_tabled (s ∷ ss) = ap (λ ls. leaf_in s ∷ ls) (leaves_tabled ss)

leaves_lined : (ss : List Shared) → map leaf_in ss ≡ map (λ (s : Lined). s.leaf) (map lined_in ss)
leaves_lined [] = refl
leaves_lined (s ∷ ss) = ap (λ ls. leaf_in s ∷ ls) (leaves_lined ss)

-- a round leaves the leaves as they are
pub leaves_stay : (n : ℕ) (ss us : List Shared) → map lined_in us ≡ next_round n (map lined_in ss) → map leaf_in us ≡ map leaf_in ss
leaves_stay n ss us is = leaves_lined us ∙ ap (map (λ (s : Lined). s.leaf)) is ∙ leaves_next n (map tabled (map lined_in ss)) (map tabled (map lined_in ss)) ∙ leaves_tabled ss

leaves_begun : (ls : List (Bor Leaf)) → map (λ (s : Lined). s.leaf) (map (λ (l : Bor Leaf). first_lined (shown l.now)) ls) ≡ map (λ (l : Bor Leaf). shown l.now) ls
leaves_begun [] = refl
leaves_begun (l ∷ ls) = ap (λ xs. shown l.now ∷ xs) (leaves_begun ls)

-- so they are at first
pub leaves_first : (ls : List (Bor Leaf)) (ss : List Shared) → map lined_in ss ≡ map (λ (l : Bor Leaf). first_lined (shown l.now)) ls → map leaf_in ss ≡ map (λ (l : Bor Leaf). shown l.now) ls
leaves_first ls ss is = leaves_lined ss ∙ ap (map (λ (s : Lined). s.leaf)) is ∙ leaves_begun ls
