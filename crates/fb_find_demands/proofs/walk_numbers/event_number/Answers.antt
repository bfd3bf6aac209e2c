use Rattle.std.proofs.Common.{◌≡◌, ◌+◌, ◌<◌, length, string_bytes, ◌∙◌, arith}
use Rattle.std.proofs.lemmas.List.{length-map}
use Rattle.fb_types_blocks.specs.Views.{names_of}
use Rattle.fb_find_demands.proofs.Numbers.{index_some, index_none}
use Rattle.fb_find_demands.proofs.Walks.{found_or, none_or}
use Rattle.fb_find_demands.proofs.walk_numbers.event_number.Goals as goal

pub returns-in-Some : goal.returns-in-Some
returns-in-Some c =
    let n = c.args.numbering.now in
    let a : c.len-states.result ≡ length n.states.keys = c.len-states.ensures.len in
    let h : c.in-Some.index < length n.events.keys = c.in-Some.ensures.within in
    let here =
    found_or (length (names_of n.events) + length n.channels.items) (names_of n.events) c.args.path.now c.in-Some.index (index_some n.events.keys c.args.path.now c.in-Some.index c.in-Some.ensures.index) (omega (arith, h, length-map n.events.keys string_bytes)) in
    omega (arith, a, length-map n.states.keys string_bytes, here)

pub returns-in-None : goal.returns-in-None
returns-in-None c =
    let n = c.args.numbering.now in
    let here = none_or (length (names_of n.events) + length n.channels.items) (names_of n.events) c.args.path.now (length-map n.events.keys string_bytes ∙ index_none n.events.keys c.args.path.now c.in-None.ensures.index) in
    omega (arith, c.in_ok-end.ensures, here)
