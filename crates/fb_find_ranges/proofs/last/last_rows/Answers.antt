use Rattle.std.proofs.Common.{◌≡◌, true, false, List, map, sym, ap, ap₂, subst, ◌∙◌}
use Rattle.fb_model.specs.Wires as wires
use Rattle.fb_find_ranges.specs.Lines.{Lined, next_round}
use Rattle.fb_find_ranges.specs.Sameness.{same_all}
use Rattle.fb_find_ranges.specs.Views.{AreKept, AreLinked, AreNear, Shared, leaf_in, lined_in, linked_in}
use Rattle.fb_find_ranges.proofs.Ending.{first_by, stands_first, stands_next, are_last}
use Rattle.fb_find_ranges.proofs.Falling.{ends_by}
use Rattle.fb_find_ranges.proofs.Keeping.{AreLined}
use Rattle.fb_find_ranges.proofs.Sharing.{leaves_first, leaves_stay}
use Rattle.fb_find_ranges.proofs.Starting.{all_first_lined, told}
use Rattle.fb_find_ranges.proofs.last.last_rows.Goals as goal

pub loop-rows-init : goal.loop-rows-init
loop-rows-init c =
    record {
      stands = λ bs are apart feds. stands_first bs (map lined_in c.in_ok-rows.rows.items) feds (subst (λ (ss : List Lined). AreLined first_by ss bs) (sym c.in_ok-rows.ensures.lined) (all_first_lined bs c.args.leaves.now bs are feds));
      kept = c.in_ok-rows.ensures.kept;
      links = c.in_ok-rows.ensures.links;
      leaves = leaves_first c.args.leaves.now c.in_ok-rows.rows.items c.in_ok-rows.ensures.lined;
    }

pub next-requires-clause-near : goal.next-requires-clause-near
next-requires-clause-near c =
    subst (λ (ls : List wires.Leaf). AreNear ls c.in_ok-near.near) (sym (ap (λ (xs : List Shared). map leaf_in xs) c.as_slice.ensures.value ∙ c.loop-rows.invariant.leaves)) c.in_ok-near.ensures

pub next-requires-clause-links : goal.next-requires-clause-links
next-requires-clause-links c = subst (λ (xs : List Shared). AreLinked (map linked_in xs)) (sym c.as_slice.ensures.value) c.loop-rows.invariant.links

pub next-requires-clause-kept : goal.next-requires-clause-kept
next-requires-clause-kept c = subst AreKept (sym c.as_slice.ensures.value) c.loop-rows.invariant.kept

pub all_ranges-requires : goal.all_ranges-requires
all_ranges-requires c = subst AreKept (sym c.as_slice-then-are_same.ensures.value) c.loop-rows.invariant.kept

pub returns-then-are_same : goal.returns-then-are_same
returns-then-are_same c =
    λ bs are apart feds.
    let n = c.loop-rows.round in
    let rows = c.loop-rows.rows.items in
    let grown = c.in_ok-grown.grown.items in
    let is : map lined_in grown ≡ next_round n (map lined_in rows) = c.in_ok-grown.ensures.lined ∙ ap (λ (xs : List Shared). next_round n (map lined_in xs)) c.as_slice.ensures.value in
    let slices = ap₂ (λ (xs ys : List Shared). same_all (map lined_in xs) (map lined_in ys)) c.as_slice-in-loop-rows.ensures.value c.as_slice-in-loop-rows-2.ensures.value in
    let same : same_all (map lined_in rows) (map lined_in grown) ≡ true = sym slices ∙ sym c.are_same.ensures ∙ c.if-are_same.true in
    told bs c.all_ranges.result (map lined_in rows) (rw c.as_slice-then-are_same.ensures.value at c.all_ranges.ensures)
    (are_last bs n (map lined_in rows) (map lined_in grown) apart feds (c.loop-rows.invariant.stands bs are apart feds) is same)

pub loop-rows-smaller : goal.loop-rows-smaller
loop-rows-smaller c =
    let n = c.loop-rows.round in
    let rows = c.loop-rows.rows.items in
    let grown = c.in_ok-grown.grown.items in
    let is : map lined_in grown ≡ next_round n (map lined_in rows) = c.in_ok-grown.ensures.lined ∙ ap (λ (xs : List Shared). next_round n (map lined_in xs)) c.as_slice.ensures.value in
    let slices = ap₂ (λ (xs ys : List Shared). same_all (map lined_in xs) (map lined_in ys)) c.as_slice-in-loop-rows.ensures.value c.as_slice-in-loop-rows-2.ensures.value in
    let other : same_all (map lined_in rows) (map lined_in grown) ≡ false = sym slices ∙ sym c.are_same.ensures ∙ c.if-are_same.false in
    ends_by n c.later-round.result (map lined_in rows) (map lined_in grown) is other c.later-round.ensures

pub loop-rows-preserved : goal.loop-rows-preserved
loop-rows-preserved c =
    let n = c.loop-rows.round in
    let rows = c.loop-rows.rows.items in
    let grown = c.in_ok-grown.grown.items in
    let is : map lined_in grown ≡ next_round n (map lined_in rows) = c.in_ok-grown.ensures.lined ∙ ap (λ (xs : List Shared). next_round n (map lined_in xs)) c.as_slice.ensures.value in
    let slices = ap₂ (λ (xs ys : List Shared). same_all (map lined_in xs) (map lined_in ys)) c.as_slice-in-loop-rows.ensures.value c.as_slice-in-loop-rows-2.ensures.value in
    let other : same_all (map lined_in rows) (map lined_in grown) ≡ false = sym slices ∙ sym c.are_same.ensures ∙ c.if-are_same.false in
    record {
      stands = λ bs are apart feds. stands_next bs n c.later-round.result (map lined_in rows) (map lined_in grown) apart feds (c.loop-rows.invariant.stands bs are apart feds) is other c.later-round.ensures;
      kept = c.in_ok-grown.ensures.kept;
      links = subst AreLinked (sym (c.in_ok-grown.ensures.links ∙ ap (λ (xs : List Shared). map linked_in xs) c.as_slice.ensures.value)) c.loop-rows.invariant.links;
      leaves = leaves_stay n rows grown is ∙ c.loop-rows.invariant.leaves;
    }
