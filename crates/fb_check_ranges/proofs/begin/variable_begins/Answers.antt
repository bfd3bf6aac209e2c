use Rattle.std.proofs.Common.{refl, subst}
use Rattle.fb_model.specs.Spans.{Span}
use Rattle.fb_ranges_intervals.specs.Views.{span_of}
use Rattle.fb_model.specs.Misfits.{Begins}
use Rattle.fb_check_ranges.proofs.Blaming.{denied}
use Rattle.fb_check_ranges.proofs.begin.variable_begins.Goals as goal

pub returns-then-begins : goal.returns-then-begins
returns-then-begins c = λ value only. subst (λ (r : Span). Begins r c.args.of value) c.in_ok-row.ensures ((c.begins.ensures value only).0 c.if-begins.true)

pub returns-in_ok-joined : goal.returns-in_ok-joined
returns-in_ok-joined c =
    λ value only. (
      c.args.name.now,
      c.in_ok-joined.ensures,
      (refl, (refl, subst (λ (r : Span). Begins r c.args.of value → ⊥) c.in_ok-row.ensures (denied c.begins.result (Begins (span_of c.in_ok-row.row) c.args.of value) (c.begins.ensures value only) c.if-begins.false))),
    )
