use Rattle.std.proofs.Common.{map, take, slice_index, slice_index_or, arith}
use Rattle.std.proofs.lemmas.List.Elements.{Contains-get_or}
use Rattle.fb_find_graph.specs.Views.{inequality_of}
use Rattle.fb_find_graph.proofs.Solving.{alternative_read, alternatives_more, needed_to, greatest_more}
use Rattle.fb_find_graph.proofs.system.greatest.Goals as goal

pub right_side-requires : goal.right_side-requires
right_side-requires c =
    let a = c.alternative-item.result in
    let h = alternative_read c.args.alternatives.now c.loop-alternative.alternative-index a c.loop-alternative-test.true c.alternative-item.is in
    λ k d l. c.requires (slice_index_or a.terms.items k d) (needed_to (map inequality_of c.args.alternatives.now) (inequality_of a) (slice_index_or a.terms.items k d) h (Contains-get_or a.terms.items k d l))

pub returns-in-None : goal.returns-in-None
returns-in-None c =
    let a = c.alternative-item.result in
    (inequality_of a, alternative_read c.args.alternatives.now c.loop-alternative.alternative-index a c.loop-alternative-test.true c.alternative-item.is, c.in-None.ensures)

pub loop-alternative-preserved : goal.loop-alternative-preserved
loop-alternative-preserved c =
    let a = c.alternative-item.result in
    let more = alternatives_more c.args.alternatives.now c.loop-alternative.alternative-index a c.loop-alternative-test.true c.alternative-item.is in
    record {
      greatest = rw more (greatest_more (slice_index c.args.numbers.now) (map inequality_of (take c.loop-alternative.alternative-index c.args.alternatives.now)) (inequality_of a) c.loop-alternative.most c.in-Some.number c.max-most.result c.loop-alternative.invariant.greatest c.in-Some.ensures.0 c.max-most.ensures);
      within = omega (arith, c.max-most.ensures, c.in-Some.ensures.1, c.loop-alternative.invariant.within);
    }
