use Rattle.std.proofs.Common.{◌≡◌, List, [], ◌∷◌, map, refl, ap}
use Rattle.std.specs.declared.string.String.{String}
use Rattle.std.specs.declared.vec.Vec.{Vec}
use Rattle.std.specs.declared.alloc.Global.{Global}
use Rattle.fb_model.specs.Demands.{of_state, state}
use Rattle.fb_find_laws.specs.Nodes.{Numbered, by_number}
use Rattle.fb_types_blocks.specs.declared.typed.Action.{Action}
use Rattle.fb_find_demands.specs.Crossed.{state_numbers}
use Rattle.fb_find_demands.specs.Grounds.{ground_in}
use Rattle.fb_find_demands.specs.Rights.{numbered, numbers_of, right_of, rights_of}
use Rattle.fb_find_demands.proofs.Entries.{state_of}
use Rattle.fb_find_demands.proofs.Loops.{rest_at, turn}
use Rattle.fb_find_demands.proofs.Answering.{pushed as more}
use Rattle.fb_find_demands.proofs.Charts.{pushed}
use Rattle.fb_find_demands.proofs.chart.add_states.Goals as goal

pub loop-index-preserved : goal.loop-index-preserved
loop-index-preserved c =
    let n = c.args.scene.now.numbering.now in
    let f = of_state (ground_in c.args.scene.now) in
    let xs = c.args.states.now.entries in
    let i = c.loop-index.index in
    let x : String Global × Vec Action Global = (c.in-Some.name.now, c.in-Some.actions.now) in
    let g = ground_in c.args.scene.now in
    let r = c.in_ok-right.right in
    let rest = rest_at xs i x c.in-Some.ensures.entry in
    let one : right_of r ≡ by_number (numbers_of n) (f (state_of x)) = rw (c.as_str.ensures.value, c.as_slice.ensures.value) at c.in_ok-right.ensures in
    record {
      added = turn (λ (es : List (String Global × Vec Action Global)). numbered n (map f (map state_of es))) xs i x (numbered n (f (state_of x) ∷ [])) (rights_of c.loop-index.rights.items) (rights_of c.push-in-loop-index.new.self.items) _
          rest refl (pushed n c.loop-index.rights.items c.push-in-loop-index.new.self.items r (f (state_of x)) c.in_ok-push-2.ensures.items one) c.loop-index.invariant.added;
      numbers = turn (λ (es : List (String Global × Vec Action Global)). state_numbers (numbers_of n) g (map state_of es)) xs i x (state_numbers (numbers_of n) g (state_of x ∷ [])) c.loop-index.numbers.items c.push.new.self.items _
          rest refl (more c.loop-index.numbers.items c.push.new.self.items r.node (numbers_of n (state (g.own (state_of x).name))) c.in_ok-push.ensures.items (ap (λ (k : Numbered). k.node) one)) c.loop-index.invariant.numbers;
    }
