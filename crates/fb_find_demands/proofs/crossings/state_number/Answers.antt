use Rattle.std.proofs.Common.{sym, ◌∙◌}
use Rattle.fb_find_demands.specs.Grounds.{ground_in}
use Rattle.fb_find_demands.specs.Rights.{numbers_of}
use Rattle.fb_find_demands.proofs.Opened.{number_of_state}
use Rattle.fb_find_demands.proofs.Values.{placed}
use Rattle.fb_find_demands.proofs.crossings.state_number.Goals as goal

pub returns-in-Some-get : goal.returns-in-Some-get
returns-in-Some-get c =
    let m = c.args.states.now in
    let x = c.args.name.now in
    number_of_state (numbers_of c.args.scene.now.numbering.now) (ground_in c.args.scene.now) m c.args.numbers.now x c.in-Some.index c.in-Some-get.number.now c.requires (placed m x ∙ sym c.in-Some.ensures.index) (c.in-Some-get.ensures.lookup.3.1 0)
