use Rattle.std.proofs.Common.{◌∙◌, take, map, sym}
use Rattle.std.proofs.lemmas.List.{take_all}
use Rattle.std.proofs.lemmas.Bool.{false≢true}
use Rattle.fb_find_graph.specs.Views.{inequality_of}
use Rattle.fb_find_graph.proofs.Solving.{alternatives_more}
use Rattle.fb_find_graph.proofs.Walking.{demand_more_no, demand_more_yes}
use Rattle.fb_find_graph.proofs.walk.demand_among.Goals as goal
use Rattle.fb_find_graph.proofs.walk.demand_among.Goals.{then-has_term, else-has_term}

pub loop-alternative-preserved : goal.loop-alternative-preserved
loop-alternative-preserved c =
    let a = c.alternative-item.result in
    let more = alternatives_more c.args.alternatives.now c.loop-alternative.alternative-index a c.loop-alternative-test.true c.alternative-item.is in
    let before = map inequality_of (take c.loop-alternative.alternative-index c.args.alternatives.now) in
    elim c.if-has_term.branch [
      | then-has_term w ↦ rw (more, w.most-is, w.greater.ensures) (demand_more_yes before (inequality_of a) c.args.q c.loop-alternative.most c.loop-alternative.invariant (c.has_term.ensures.0 w.if-has_term.true))
      | else-has_term w ↦ rw (more, w.most-is) (demand_more_no before (inequality_of a) c.args.q c.loop-alternative.most c.loop-alternative.invariant (λ h. false≢true (sym w.if-has_term.false ∙ c.has_term.ensures.1 h)))
    ]

pub returns : goal.returns
returns c = rw (take_all c.loop-alternative.alternative-index c.args.alternatives.now c.loop-alternative-test.false) at c.loop-alternative.invariant
