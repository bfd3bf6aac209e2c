use denote.Ref.{Bor}
use Rattle.std.proofs.Common.{refl, subst}
use Rattle.std.specs.Option.{option_map}
use Rattle.fb_model.specs.Spans.{Span}
use Rattle.fb_flat.specs.declared.flat.Source.{Source}
use Rattle.fb_ranges_intervals.specs.Views.{span_of}
use Rattle.fb_check_ranges.specs.Places.{held, SourceLies}
use Rattle.fb_check_ranges.proofs.Blaming.{denied}
use Rattle.fb_check_ranges.proofs.link.link_lies.Goals as goal

pub returns-in_ok-joined : goal.returns-in_ok-joined
returns-in_ok-joined c =
    λ ls h.
    let source = held (option_map (λ (s : Bor Source). s.now) c.args.input.now.source) in (
      c.args.input.now.name.now,
      c.in_ok-joined.ensures,
      (refl, (refl, subst (λ (r : Span). SourceLies c.args.certificate.now ls r source → ⊥) c.in_ok-row.ensures (denied c.in_ok-lies.field-0 (SourceLies c.args.certificate.now ls (span_of c.in_ok-row.row) source) (c.in_ok-lies.ensures ls h) c.if-branch.false))),
    )
