use Rattle.std.proofs.Common.{refl, string_bytes}
use Rattle.fb_model.specs.Clear.{are_kept}
use Rattle.fb_model.specs.Asking.{asking_all}
use Rattle.fb_ranges.specs.Settling.{held}
use Rattle.fb_ranges.specs.Views.{names_of, spans_of}
use Rattle.fb_ranges.proofs.Joins.{kept_not, kept_so, next_name}
use Rattle.fb_ranges.proofs.Settling.{next_kept, next_settled}
use Rattle.fb_ranges.proofs.join.settle_all.Goals as goal
use Rattle.fb_ranges.proofs.join.settle_all.Goals.{then-not-branch, else-not-branch}

pub loop-name-preserved : goal.loop-name-preserved
loop-name-preserved c =
    let rows = spans_of c.args.rows.now in
    let start = spans_of c.args.ranges.now in
    let spans = spans_of c.loop-name.ranges in
    let names = c.args.names.now in
    let n = c.name-item.result in
    let i = c.loop-name.name-index in
    let x = string_bytes n.now.name in
    let one = c.in_ok-settle_one.ensures in
    let kept = c.if-not-branch.are_kept in
    let before = c.loop-name.are_kept in
    let w = c.in_ok-settle_one.field-0 in
    record {
      asks =
          next_settled names i n rows spans (spans_of c.loop-name.asked) (spans_of c.settle_one.new.asked) (spans_of c.settle_one.new.ranges) (asking_all (names_of names) start (held rows (spans_of c.args.asked.now)))
          c.loop-name-test.true c.name-item.is c.loop-name.invariant.asks one.asks one.rest;
      kept =
          next_kept names i n rows spans (spans_of c.settle_one.new.ranges) kept before w (are_kept (names_of names) rows start)
          c.loop-name-test.true c.name-item.is one.kept one.rest c.loop-name.invariant.kept
          (elim c.if-not-branch.branch [ then-not-branch h ↦ kept_not kept before w h.are_kept-is h.if-not-branch.true | else-not-branch h ↦ kept_so kept before w h.are_kept-is h.if-not-branch.false ]);
      rest = next_name names i n rows spans (spans_of c.settle_one.new.ranges) start x (rows x) c.loop-name-test.true c.name-item.is refl refl c.loop-name.invariant.rest one.rest;
    }
