use Rattle.std.proofs.Common.{◌+◌, List, map, drop, Bor, refl}
use Rattle.std.specs.List.{flat_map}
use Rattle.std.proofs.lemmas.List.{map-append}
use Rattle.fb_flat.specs.declared.flat.Leaf.{Leaf}
use Rattle.fb_find_demands.specs.Channels.{heard_in, of_channel}
use Rattle.fb_find_demands.specs.Rights.{numbers_of}
use Rattle.fb_find_demands.proofs.Loops.{rest_of, turn, ends}
use Rattle.fb_find_demands.proofs.Charts.{says}
use Rattle.fb_find_demands.proofs.channel.channel_right.Goals as goal

pub loop-leaf-preserved : goal.loop-leaf-preserved
loop-leaf-preserved c =
    let f = numbers_of c.args.numbering.now in
    let h = heard_in c.args.repeats c.args.number in
    let xs = c.args.leaves.now in
    let i = c.loop-leaf.leaf-index in
    let x : Bor Leaf = c.leaf-item.result in
    turn (λ (ls : List (Bor Leaf)). map f (flat_map h (map (λ l. l.now) ls))) xs i x (map f (h x.now)) c.loop-leaf.terms.items c.add_heard.new.terms.items _ (rest_of xs i x c.loop-leaf-test.true c.leaf-item.is)
    (map-append f (h x.now) (flat_map h (map (λ (l : Bor Leaf). l.now) (drop (i + 1) xs)))) c.in_ok-add_heard.ensures c.loop-leaf.invariant

pub returns : goal.returns
returns c =
    let f = numbers_of c.args.numbering.now in
    let h = heard_in c.args.repeats c.args.number in
    let xs = c.args.leaves.now in
    says f (of_channel c.args.repeats (map (λ (l : Bor Leaf). l.now) xs) c.args.number) (record { node = c.in_ok-channel.field-0; constant = 0; terms = c.loop-leaf.terms }) c.in_ok-channel.ensures refl
    (ends (λ (ls : List (Bor Leaf)). map f (flat_map h (map (λ l. l.now) ls))) xs c.loop-leaf.leaf-index c.loop-leaf.terms.items _ c.loop-leaf-test.false refl c.loop-leaf.invariant)
