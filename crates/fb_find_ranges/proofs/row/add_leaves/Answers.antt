use denote.Ref.{Bor}
use Rattle.std.proofs.Common.{map, drop, arith}
use Rattle.fb_flat.specs.declared.flat.Leaf.{Leaf}
use Rattle.fb_ranges.specs.Views.{spans_of}
use Rattle.fb_cert.specs.Views.{rows_of}
use Rattle.fb_check_rows.proofs.Members.{rest_of}
use Rattle.fb_find_ranges.specs.AddedRows.{adding, all_rows}
use Rattle.fb_find_ranges.proofs.Added.{next_leaf, last_leaf}
use Rattle.fb_find_ranges.proofs.row.add_leaves.Goals as goal

pub loop-index-preserved : goal.loop-index-preserved
loop-index-preserved c =
    let ts = c.args.tables.now in
    let ls = c.args.leaves.now in
    let i = c.loop-index.index in
    next_leaf spans_of (λ (l : Bor Leaf). l.now) ts ls i c.in-Some.table.now c.index-leaves-index.result (rows_of c.loop-index.certificate) (rows_of c.add_leaf.new.certificate)
    (adding (all_rows (map spans_of ts) (map (λ (l : Bor Leaf). l.now) ls)) (rows_of c.args.certificate.now)) (rest_of ts i c.in-Some.table.now c.in-Some.ensures.lookup.3.0 c.in-Some.ensures.lookup.1) (rest_of ls i c.index-leaves-index.result c.loop-index-test.true c.index-leaves-index.is)
    c.in_ok-add_leaf.ensures c.loop-index.invariant

pub returns : goal.returns
returns c =
    let ls = c.args.leaves.now in
    last_leaf (λ (l : Bor Leaf). l.now) (map spans_of (drop c.loop-index.index c.args.tables.now)) ls c.loop-index.index (rows_of c.loop-index.certificate)
    (adding (all_rows (map spans_of c.args.tables.now) (map (λ (l : Bor Leaf). l.now) ls)) (rows_of c.args.certificate.now)) (omega (arith, c.loop-index-test.false)) c.loop-index.invariant
