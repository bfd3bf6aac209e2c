use Rattle.std.proofs.Common.{◌≡◌, true, sym, subst, string_bytes}
use Rattle.std.specs.List.{AllByRecursion}
use Rattle.fb_ranges_intervals.specs.Views.{span_of}
use Rattle.fb_check_rows.proofs.Members.{rest_at}
use Rattle.fb_find.specs.Bounds.{Stands}
use Rattle.fb_find.proofs.Lists.{any_at}
use Rattle.fb_find.proofs.stand.rows_stand.Goals as goal

pub returns-then-not-row_stands-clause-refused : goal.returns-then-not-row_stands-clause-refused
returns-then-not-row_stands-clause-refused c =
    any_at (λ r. (r.0 ≡ string_bytes c.in_ok-from_str.field-0) × (Stands c.args.certificate.now r → ⊥)) c.args.rows.now.ranges c.loop-index.index (c.in-Some.path.now, span_of c.in-Some.interval) (sym c.in-Some.ensures.row) (
      sym c.in_ok-from_str.ensures.ok,
      λ stands.
          let f = c.if-not-row_stands.true in
          let t : c.row_stands.result ≡ true = c.row_stands.ensures.1 stands in
          let z : ⊥ = cc in
          z,
    )

pub loop-index-preserved : goal.loop-index-preserved
loop-index-preserved c = λ h.
    c.loop-index.invariant
    (subst (λ rs. AllByRecursion (Stands c.args.certificate.now) rs) (sym (rest_at c.args.rows.now.ranges c.loop-index.index (c.in-Some.path.now, span_of c.in-Some.interval) (sym c.in-Some.ensures.row))) (c.row_stands.ensures.0 c.if-not-row_stands.false, h))
