use Rattle.std.proofs.Common.{◌≡◌, ◌≤◌, ◌<◌, length, ap, sym, ◌∙◌, arith, vec_len, slice_index_or, string_bytes}
use Rattle.fb_chart.specs.declared.table.Block.{Block}
use Rattle.fb_lists.proofs.Lists.{stands_at, same_at}
use Rattle.fb_device.proofs.Finding.{no_block, no_event, named_so}
use Rattle.fb_device.proofs.names.path.Goals as goal

pub returns-then-at-blocks : goal.returns-then-at-blocks
returns-then-at-blocks c = λ cert all issues owns rest ports a. no_block cert all issues owns rest c.args.blocks.now ports a c.args.block c.args.event c.if-at-blocks.true

pub returns-then-place-len : goal.returns-then-place-len
returns-then-place-len c = λ cert all issues owns rest ports a.
    let x = c.index-blocks-at.result in
    let few : length c.index-blocks-at.result.events.items ≤ c.args.event = omega (arith, c.if-place-len.true, c.len.ensures, ap (λ (x : Block). vec_len x.events) c.index-blocks-at.is, c.index-blocks-at.result.events.ok) in
    no_event cert all issues owns rest c.args.blocks.now ports a c.args.block c.args.event c.index-blocks-at.result (stands_at c.args.blocks.now c.args.block c.index-blocks-at.result c.index-blocks-at.result c.if-at-blocks.false c.index-blocks-at.is) few

pub returns : goal.returns
returns c = λ cert all issues owns rest ports a.
    let stands = stands_at c.args.blocks.now c.args.block c.index-blocks-at.result c.index-blocks-at.result c.if-at-blocks.false c.index-blocks-at.is in
    let same : c.index-blocks-at-2.result ≡ c.index-blocks-at.result = same_at c.args.blocks.now c.args.block c.index-blocks-at-2.result c.index-blocks-at.result (stands_at c.args.blocks.now c.args.block c.index-blocks-at-2.result c.index-blocks-at-2.result c.if-at-blocks.false c.index-blocks-at-2.is) stands in
    let place : c.args.event < length c.index-blocks-at.result.events.items = omega (arith, c.if-place-len.false, c.len.ensures, ap (λ (x : Block). vec_len x.events) c.index-blocks-at.is, c.index-blocks-at.result.events.ok) in
    named_so cert all issues owns rest c.args.blocks.now ports a c.args.block c.args.event c.index-blocks-at.result c.index.result.now c.as_str.result.now c.as_str-2.result.now stands
    (stands_at c.index-blocks-at.result.events.items c.args.event c.index.result.now c.index.result.now place (c.index.ensures ∙ ap (λ (x : Block). slice_index_or x.events.items c.args.event c.index.result.now) (sym c.index-blocks-at.is)))
    (c.as_str.ensures.value ∙ ap (λ (x : Block). string_bytes x.path) (sym c.index-blocks-at-2.is ∙ same)) c.as_str-2.ensures.value
