use Rattle.std.proofs.Common.{◌∙◌, List, map, sym, ap, subst, take_all}
use Rattle.fb_lists.proofs.Lists.{all_here}
use Rattle.fb_find_ranges.specs.Lines.{next_lined}
use Rattle.fb_find_ranges.specs.Views.{AreLinked, IsKept, IsKind, Twin, Shared, lined_in, linked_in, tabled_in}
use Rattle.fb_find_ranges.proofs.Entries.{next_added}
use Rattle.fb_flat.specs.Leaves.{kind_of}
use Rattle.fb_find_ranges.proofs.Linking.{first_linked, named_kind}
use Rattle.fb_find_ranges.proofs.Sharing.{kept_more, round_is}
use Rattle.fb_find_ranges.proofs.round.next.Goals as goal

pub next_leaf-requires-clause-kept : goal.next_leaf-requires-clause-kept
next_leaf-requires-clause-kept c = all_here (λ (s : Shared). IsKept s.value) c.args.leaves.now c.loop-leaf.leaf-index c.leaf-item.result c.requires.kept c.loop-leaf-test.true (sym c.leaf-item.is)

pub next_leaf-requires-clause-links : goal.next_leaf-requires-clause-links
next_leaf-requires-clause-links c =
    subst (λ (xs : List Shared). AreLinked (map linked_in xs)) (sym c.as_slice.ensures.value) (subst AreLinked (sym c.loop-leaf.invariant.2) (first_linked c.args.leaves.now c.loop-leaf.leaf-index c.requires.links))

pub next_leaf-requires-clause-kind : goal.next_leaf-requires-clause-kind
next_leaf-requires-clause-kind c =
    let s = c.leaf-item.result in
    subst (λ (ls : List Twin). IsKind ls s.value.like (kind_of s.value.leaf.now.body)) (sym (ap (λ (xs : List Shared). map linked_in xs) c.as_slice.ensures.value ∙ c.loop-leaf.invariant.2))
    (named_kind c.args.leaves.now c.loop-leaf.leaf-index s c.requires.links c.loop-leaf-test.true c.leaf-item.is)

pub loop-leaf-preserved : goal.loop-leaf-preserved
loop-leaf-preserved c =
    let ts = map tabled_in c.args.leaves.now in (
      next_added lined_in (λ (s : Shared). next_lined c.args.round ts (tabled_in s)) c.args.leaves.now c.loop-leaf.leaf-index c.leaf-item.result c.loop-leaf.all.items c.push.new.self.items c.in_ok-next.next c.loop-leaf-test.true c.leaf-item.is c.in_ok-push.ensures.items c.in_ok-next.ensures.lined c.loop-leaf.invariant.0,
      kept_more c.loop-leaf.all.items c.push.new.self.items c.in_ok-next.next c.in_ok-push.ensures.items c.loop-leaf.invariant.1 c.in_ok-next.ensures.kept,
      next_added linked_in linked_in c.args.leaves.now c.loop-leaf.leaf-index c.leaf-item.result c.loop-leaf.all.items c.push.new.self.items c.in_ok-next.next c.loop-leaf-test.true c.leaf-item.is c.in_ok-push.ensures.items c.in_ok-next.ensures.link c.loop-leaf.invariant.2,
    )

pub returns-clause-lined : goal.returns-clause-lined
returns-clause-lined c =
    let ts = map tabled_in c.args.leaves.now in
    c.loop-leaf.invariant.0 ∙ ap (map (λ (s : Shared). next_lined c.args.round ts (tabled_in s))) (take_all c.loop-leaf.leaf-index c.args.leaves.now c.loop-leaf-test.false) ∙ round_is c.args.round c.args.leaves.now c.requires.kept
