use Rattle.std.proofs.Common.{List, subst, arith, take_all}
use Rattle.std.specs.declared.string.String.{String}
use Rattle.std.specs.declared.alloc.Global.{Global}
use Rattle.st_types.specs.declared.whole.Algo.{Algo}
use Rattle.fb_ranges.specs.Views.{spans_of}
use Rattle.fb_find_ranges.specs.Lines.{all_grown, IsAsked}
use Rattle.fb_find_ranges.proofs.Entries.{none_asks, next_asks, procedures_in}
use Rattle.fb_find_ranges.proofs.work.all_asked.Goals as goal

pub loop-index-init : goal.loop-index-init
loop-index-init c = (c.in_ok-work.ensures, none_asks (spans_of c.in_ok-asked.asked) (spans_of c.args.ranges.now) c.in_ok-asked.ensures)

pub loop-index-preserved : goal.loop-index-preserved
loop-index-preserved c = (
  c.in_ok-ask.ensures.rest,
  next_asks (spans_of c.args.ranges.now) c.args.procedures.now.entries c.loop-index.index (c.in-Some.field-0-0.now, c.in-Some.algo.now) (spans_of c.loop-index.asked) (spans_of c.ask.new.asked) c.in-Some.ensures.entry c.in_ok-ask.ensures.asks c.loop-index.invariant.1,
)

pub returns : goal.returns
returns c =
    let spans = spans_of c.args.ranges.now in
    let es = c.args.procedures.now.entries in
    subst (λ (xs : List (String Global × Algo)). IsAsked (spans_of c.loop-index.asked) (all_grown spans (procedures_in xs)) spans) (take_all c.loop-index.index es (omega (arith, c.loop-index-test.false, c.len-index-end.ensures.len))) c.loop-index.invariant.1
