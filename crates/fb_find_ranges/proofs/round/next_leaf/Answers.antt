use Rattle.std.proofs.Common.{◌≡◌, ◌∙◌, map, sym, ap, ap₂, true, List}
use Rattle.std.proofs.lemmas.Result.{IfOk-weaker}
use Rattle.fb_find_ranges.specs.declared.rows.Row.{Row}
use Rattle.fb_find_ranges.specs.declared.rows.LeafRows.{LeafRows}
use Rattle.fb_find_ranges.specs.Lines.{line_names, lined, next_line, next_lined}
use Rattle.fb_find_ranges.specs.Sameness.{same_lines}
use Rattle.fb_find_ranges.specs.Views.{Shared, line_of, lined_in, tabled_of, tabled_in, shown}
use Rattle.fb_find_ranges.proofs.Again.{next_names}
use Rattle.fb_find_ranges.proofs.Sharing.{leaf_stays, same_shared}
use Rattle.fb_find_ranges.proofs.round.next_leaf.Goals as goal

pub returns-then-same_rows-clause-lined : goal.returns-then-same_rows-clause-lined
returns-then-same_rows-clause-lined c =
    let s = c.args.leaf.now.value in
    let rows = c.in_ok-rows.rows.items in
    let is : map line_of rows ≡ map (next_line c.args.round (map tabled_in c.args.leaves.now) (tabled_of s)) (map line_of s.rows.items) = rw c.deref.ensures at c.in_ok-rows.ensures in
    let slices = ap₂ (λ (xs ys : List Row). same_lines (map line_of xs) (map line_of ys)) (c.as_slice.ensures.value ∙ ap (λ t. t.rows.items) c.deref-2.ensures) c.as_slice-2.ensures.value in
    let same : same_lines (map line_of s.rows.items) (map line_of rows) ≡ true = sym slices ∙ sym c.same_rows.ensures ∙ c.if-same_rows.true in
    same_shared c.clone.result s (next_lined c.args.round (map tabled_in c.args.leaves.now) (tabled_of s)) c.clone.ensures.cases (leaf_stays c.args.round (map tabled_in c.args.leaves.now) s rows is same)

pub with_next_rows-requires-clause-names : goal.with_next_rows-requires-clause-names
with_next_rows-requires-clause-names c =
    let s = c.args.leaf.now.value in
    let rows = c.in_ok-rows.rows.items in
    let is : map line_of rows ≡ map (next_line c.args.round (map tabled_in c.args.leaves.now) (tabled_of s)) (map line_of s.rows.items) = rw c.deref.ensures at c.in_ok-rows.ensures in
    next_names c.args.round (map tabled_in c.args.leaves.now) (tabled_of s) (map line_of s.rows.items) (map line_of rows) is ∙ ap (λ (t : LeafRows). line_names (map line_of t.rows.items)) (sym c.deref-3.ensures)

pub returns-clause-lined : goal.returns-clause-lined
returns-clause-lined c =
    let s = c.args.leaf.now.value in
    let rows = c.in_ok-rows.rows.items in
    let is : map line_of rows ≡ map (next_line c.args.round (map tabled_in c.args.leaves.now) (tabled_of s)) (map line_of s.rows.items) = rw c.deref.ensures at c.in_ok-rows.ensures in
    IfOk-weaker c.with_next_rows.result (λ (x : Shared). lined_in x ≡ lined (shown c.deref-3.result.now.leaf.now) (map line_of rows)) (λ (x : Shared). lined_in x ≡ next_lined c.args.round (map tabled_in c.args.leaves.now) (tabled_of s))
    (λ x e. e ∙ ap₂ lined (ap (λ t. shown t.leaf.now) c.deref-3.ensures) is) c.with_next_rows.ensures.lined
