use Rattle.std.proofs.Common.{◌+◌, ◌<◌, length, string_bytes, ◌∙◌, arith}
use Rattle.std.proofs.lemmas.List.{length-map}
use Rattle.fb_types_blocks.specs.Views.{names_of}
use Rattle.fb_find_demands.proofs.Numbers.{index_some, index_none}
use Rattle.fb_find_demands.proofs.Walks.{found_or, none_or}
use Rattle.fb_find_demands.proofs.walk_numbers.state_number.Goals as goal

pub returns-in-Some : goal.returns-in-Some
returns-in-Some c =
    let n = c.args.numbering.now in
    let h : c.in-Some.index < length n.states.keys = c.in-Some.ensures.within in
    found_or (length (names_of n.states) + (length (names_of n.events) + length n.channels.items)) (names_of n.states) c.args.path.now c.in-Some.index (index_some n.states.keys c.args.path.now c.in-Some.index c.in-Some.ensures.index)
    (omega (arith, h, length-map n.states.keys string_bytes))

pub returns-in-None : goal.returns-in-None
returns-in-None c =
    let n = c.args.numbering.now in
    c.in_ok-end.ensures
    ∙ none_or (length (names_of n.states) + (length (names_of n.events) + length n.channels.items)) (names_of n.states) c.args.path.now (length-map n.states.keys string_bytes ∙ index_none n.states.keys c.args.path.now c.in-None.ensures.index)
