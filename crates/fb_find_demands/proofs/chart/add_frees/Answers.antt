use Rattle.std.proofs.Common.{◌+◌, List, map, drop}
use Rattle.std.specs.List.{flat_map}
use Rattle.std.proofs.lemmas.List.{map-append}
use Rattle.fb_model.specs.Demands.{of_free}
use Rattle.fb_find_laws.specs.Nodes.{by_number}
use Rattle.fb_types_blocks.specs.declared.typed.Transition.{Transition}
use Rattle.fb_types_blocks.specs.Views.{block_of, transition_of}
use Rattle.fb_find_demands.specs.Grounds.{ground_in}
use Rattle.fb_find_demands.specs.Rights.{numbered, numbers_of, rights_of}
use Rattle.fb_find_demands.proofs.Loops.{rest_of, turn}
use Rattle.fb_find_demands.proofs.chart.add_frees.Goals as goal

pub loop-transition-preserved : goal.loop-transition-preserved
loop-transition-preserved c =
    let n = c.args.scene.now.numbering.now in
    let f = of_free (ground_in c.args.scene.now) (block_of c.args.block.now) in
    let xs = c.args.transitions.now in
    let i = c.loop-transition.transition-index in
    let x = c.transition-item.result in
    record {
      added = turn (λ (ts : List Transition). numbered n (flat_map f (map transition_of ts))) xs i x (numbered n (f (transition_of x))) (rights_of c.loop-transition.rights.items) (rights_of c.add_free.new.rights.items) _
          (rest_of xs i x c.loop-transition-test.true c.transition-item.is) (map-append (by_number (numbers_of n)) (f (transition_of x)) (flat_map f (map transition_of (drop (i + 1) xs)))) c.in_ok-add_free.ensures.added c.loop-transition.invariant.added;
      spent = c.in_ok-add_free.ensures.spent;
    }
