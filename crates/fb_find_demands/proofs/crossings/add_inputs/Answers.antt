use Rattle.std.proofs.Common.{◌≡◌, ◌+◌, List, ◌++◌, map, drop, ap, ◌∙◌, string_bytes}
use Rattle.std.specs.List.{flat_map}
use Rattle.std.proofs.lemmas.List.{map-append}
use Rattle.std.specs.declared.string.String.{String}
use Rattle.std.specs.declared.vec.Vec.{Vec}
use Rattle.std.specs.declared.alloc.Global.{Global}
use Rattle.fb_model.specs.Certificates.{event_names}
use Rattle.fb_model.specs.Demands.{of_input}
use Rattle.fb_find_laws.specs.Nodes.{by_number}
use Rattle.fb_types_blocks.specs.declared.typed.Transition.{Transition}
use Rattle.fb_types_blocks.specs.Views.{block_of, transition_of}
use Rattle.fb_find_demands.specs.Crossed.{crossing_of, input_rights}
use Rattle.fb_find_demands.specs.Grounds.{ground_in}
use Rattle.fb_find_demands.specs.Rights.{numbered, numbers_of, rights_of}
use Rattle.fb_find_demands.proofs.Entries.{event_in}
use Rattle.fb_find_demands.proofs.Loops.{rest_at, turn}
use Rattle.fb_find_demands.proofs.Opened.{entry_within, input_is}
use Rattle.fb_find_demands.proofs.crossings.add_inputs.Goals as goal

pub loop-index-preserved : goal.loop-index-preserved
loop-index-preserved c =
    let n = c.args.scene.now.numbering.now in
    let g = ground_in c.args.scene.now in
    let block = c.args.block.now in
    let f = of_input g (block_of block) in
    let xs = c.args.inputs.now.entries in
    let names = event_names (map event_in xs) in
    let i = c.loop-index.index in
    let x : String Global × Vec (String Global) Global = (c.in-Some.event.now, c.in-Some.field-0-1.now) in
    let e = string_bytes x.0 in
    let slice : c.as_slice.result.now ≡ map (λ (t : Transition). crossing_of (numbers_of n) g names (transition_of t)) block.transitions.items =
    c.as_slice.ensures.value ∙ c.in_ok-crossings.ensures ∙ ap (map (λ (t : Transition). crossing_of (numbers_of n) g names (transition_of t))) c.as_slice-transitions.ensures.value in
    let one : rights_of c.add_input.new.rights.items ≡ rights_of c.loop-index.rights.items ++ numbered n (f e) =
    c.in_ok-add_input.ensures
    ∙ ap (λ ys. rights_of c.loop-index.rights.items ++ ys) (ap (λ o. input_rights (numbers_of n) g names o c.as_slice.result.now) c.as_str.ensures.value ∙ ap (input_rights (numbers_of n) g names e) slice ∙ input_is n g block names e (entry_within xs i x c.in-Some.ensures.entry)) in
    turn (λ (es : List (String Global × Vec (String Global) Global)). numbered n (flat_map f (event_names (map event_in es)))) xs i x (numbered n (f e)) (rights_of c.loop-index.rights.items) (rights_of c.add_input.new.rights.items) _
    (rest_at xs i x c.in-Some.ensures.entry) (map-append (by_number (numbers_of n)) (f e) (flat_map f (event_names (map event_in (drop (i + 1) xs))))) one c.loop-index.invariant
