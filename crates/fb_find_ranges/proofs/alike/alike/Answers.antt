use Rattle.std.proofs.Common.{◌≡◌, ◌∙◌, map, sym, ap, subst}
use Rattle.fb_lists.proofs.Lists.{all_here}
use Rattle.fb_flat.specs.Leaves.{kind_of}
use Rattle.fb_find_ranges.specs.declared.rows.LeafRows.{LeafRows}
use Rattle.fb_find_ranges.specs.Views.{Shared, line_of, linked_in, IsKept, IsKind, IsLike}
use Rattle.fb_find_ranges.proofs.Linking.{kind_here, next_kind}
use Rattle.fb_find_ranges.proofs.alike.alike.Goals as goal

pub returns-then-alike_rows : goal.returns-then-alike_rows
returns-then-alike_rows c =
    let s = c.index-before-at.result in
    let kind = kind_of c.args.leaf.now.body in
    let lines : map line_of s.value.rows.items ≡ map line_of c.args.rows.now = ap (map line_of) (sym (c.as_slice.ensures.value ∙ ap (λ (t : LeafRows). t.rows.items) c.deref.ensures)) ∙ c.alike_rows.ensures c.if-alike_rows.true in
    subst (λ (t : LeafRows). IsKept t × IsLike t kind c.args.rows.now) (sym c.as_ref.ensures) (
      all_here (λ (x : Shared). IsKept x.value) c.args.before.now c.loop.at s c.requires.kept c.if-before-at.false (sym c.index-before-at.is),
      record { block = kind_here c.args.before.now c.loop.at s kind c.loop.invariant c.if-before-at.false c.index-before-at.is; lines = lines },
    )

pub loop-preserved : goal.loop-preserved
loop-preserved c =
    let kind = kind_of c.args.leaf.now.body in
    subst (λ (t : LeafRows). IsKind (map linked_in c.args.before.now) t.like kind) (sym c.deref-in-loop.ensures)
    (next_kind c.args.before.now c.loop.at c.index-before-at.result kind c.requires.links c.loop.invariant c.if-before-at.false c.index-before-at.is)
