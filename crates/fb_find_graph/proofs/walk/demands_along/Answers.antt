use Rattle.std.proofs.Common.{arith}
use Rattle.std.proofs.lemmas.Bool.{false≢true}
use Rattle.fb_find_graph.specs.Views.{system_of}
use Rattle.fb_find_graph.proofs.Walking.{nothing_paid, free_more, paid_more, paid_at_end}
use Rattle.fb_find_graph.proofs.walk.demands_along.Goals as goal
use Rattle.fb_find_graph.proofs.walk.demands_along.Goals.{then-constant-gt0, else-constant-gt0}

pub loop-k-init : goal.loop-k-init
loop-k-init c = nothing_paid (system_of c.args.system.now) c.args.walk.now

pub loop-k-preserved : goal.loop-k-preserved
loop-k-preserved c = elim c.if-constant-gt0.branch [
  | then-constant-gt0 w ↦ rw w.paid-is (paid_more (system_of c.args.system.now) c.args.walk.now c.loop-k.k c.loop-k.paid c.in-Some.constant c.loop-k.invariant c.in-Some.ensures.0 w.if-constant-gt0.true)
  | else-constant-gt0 w ↦ rw w.paid-is (free_more (system_of c.args.system.now) c.args.walk.now c.loop-k.k c.loop-k.paid c.in-Some.constant c.loop-k.invariant c.in-Some.ensures.0 c.in-Some.ensures.1 w.if-constant-gt0.false)
]

pub returns-in-None : goal.returns-in-None
returns-in-None c = (λ t. absurd (false≢true t), λ w. absurd (let d = w.chain c.loop-k.k (omega (arith, c.loop-k-test.true)) in c.in-None.ensures d.0 d.1))

pub returns : goal.returns
returns c = paid_at_end (system_of c.args.system.now) c.args.walk.now c.loop-k.k c.loop-k.paid (omega (arith, c.loop-k-test.false)) (omega (arith, c.loop-k.auto.k-end)) c.loop-k.invariant
