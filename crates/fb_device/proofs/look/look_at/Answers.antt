use Rattle.std.proofs.Common.{◌≡◌, ◌≤◌, Some, slice_get, length, string_bytes, ap, sym, ◌∙◌, subst, arith}
use Rattle.fb_chart.specs.declared.table.Block.{Block}
use Rattle.fb_lists.proofs.Lists.{stands_at}
use Rattle.fb_device_state.proofs.Blocks.{within}
use Rattle.fb_device.proofs.Looking.{holds_at, no_leaf, look_is}
use Rattle.fb_device.proofs.look.look_at.Goals as goal

pub returns-then-at-blocks : goal.returns-then-at-blocks
returns-then-at-blocks c = no_leaf c.args.program.now c.args.running.now c.requires c.args.block (subst (λ xs. length xs ≤ c.args.block) c.deref-blocks.ensures.value c.if-at-blocks.true)

pub index-requires : goal.index-requires
index-requires c =
    let at = subst (λ xs. slice_get xs c.args.block ≡ Some c.index-blocks-at.result) c.deref-blocks.ensures.value (stands_at c.deref-blocks.result.now c.args.block c.index-blocks-at.result c.index-blocks-at.result c.if-at-blocks.false c.index-blocks-at.is) in
    let h = holds_at c.args.program.now c.args.running.now c.requires c.args.block c.index-blocks-at.result at in
    omega (arith, within c.args.running.now.memory.own.items c.args.block h.own h.own_is, c.args.running.now.memory.own.ok)

pub index-requires-2 : goal.index-requires-2
index-requires-2 c =
    let at = subst (λ xs. slice_get xs c.args.block ≡ Some c.index-blocks-at.result) c.deref-blocks.ensures.value (stands_at c.deref-blocks.result.now c.args.block c.index-blocks-at.result c.index-blocks-at.result c.if-at-blocks.false c.index-blocks-at.is) in
    let h = holds_at c.args.program.now c.args.running.now c.requires c.args.block c.index-blocks-at.result at in
    omega (arith, within c.args.running.now.memory.issued.items c.args.block h.issued h.issued_is, c.args.running.now.memory.issued.ok)

pub index-requires-3 : goal.index-requires-3
index-requires-3 c =
    let at = subst (λ xs. slice_get xs c.args.block ≡ Some c.index-blocks-at.result) c.deref-blocks.ensures.value (stands_at c.deref-blocks.result.now c.args.block c.index-blocks-at.result c.index-blocks-at.result c.if-at-blocks.false c.index-blocks-at.is) in
    let h = holds_at c.args.program.now c.args.running.now c.requires c.args.block c.index-blocks-at.result at in
    omega (arith, within c.args.running.now.memory.conditions.items c.args.block h.condition h.condition_is, c.args.running.now.memory.conditions.ok)

pub returns : goal.returns
returns c =
    let at = subst (λ xs. slice_get xs c.args.block ≡ Some c.index-blocks-at.result) c.deref-blocks.ensures.value (stands_at c.deref-blocks.result.now c.args.block c.index-blocks-at.result c.index-blocks-at.result c.if-at-blocks.false c.index-blocks-at.is) in
    let memory = c.args.running.now.memory in
    let h = holds_at c.args.program.now c.args.running.now c.requires c.args.block c.index-blocks-at.result at in
    look_is c.args.program.now c.args.running.now c.requires c.args.block c.index-blocks-at.result _ at (c.as_str.ensures.value ∙ ap (λ (x : Block). string_bytes x.path) (sym c.index-blocks-at.is))
    (stands_at memory.own.items c.args.block c.index.result.now c.index.result.now (within memory.own.items c.args.block h.own h.own_is) c.index.ensures)
    (stands_at memory.issued.items c.args.block c.index-2.result.now c.index-2.result.now (within memory.issued.items c.args.block h.issued h.issued_is) c.index-2.ensures)
    (stands_at memory.conditions.items c.args.block c.index-3.result.now c.index-3.result.now (within memory.conditions.items c.args.block h.condition h.condition_is) c.index-3.ensures)
