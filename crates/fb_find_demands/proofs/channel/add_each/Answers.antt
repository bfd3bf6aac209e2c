use Rattle.std.proofs.Common.{ℕ, List, [], ◌∷◌, map, get_or, Bor, refl}
use Rattle.fb_flat.specs.declared.flat.Leaf.{Leaf}
use Rattle.fb_find_demands.specs.Channels.{of_channel}
use Rattle.fb_find_demands.specs.Rights.{numbered, rights_of}
use Rattle.fb_find_demands.proofs.Loops.{rest_got, turn}
use Rattle.fb_find_demands.proofs.Charts.{pushed}
use Rattle.fb_find_demands.proofs.channel.add_each.Goals as goal

pub loop-number-preserved : goal.loop-number-preserved
loop-number-preserved c =
    let n = c.args.numbering.now in
    let h = of_channel c.args.repeats (map (λ (l : Bor Leaf). l.now) c.args.leaves.now) in
    let xs = c.args.numbers.now in
    let i = c.loop-number.number-index in
    let x = get_or xs i 0 in
    turn (λ (cs : List ℕ). numbered n (map h cs)) xs i x (numbered n (h x ∷ [])) (rights_of c.loop-number.rights.items) (rights_of c.push.new.self.items) _ (rest_got xs i 0 c.loop-number-test.true) refl
    (pushed n c.loop-number.rights.items c.push.new.self.items c.in_ok-channel_right.field-0 (h x) c.in_ok-push.ensures.items c.in_ok-channel_right.ensures) c.loop-number.invariant
