use denote.Ref.{Bor}
use Rattle.std.proofs.Common.{◌↔◌, Option, sym, subst}
use Rattle.std.specs.Prelude.{IfOk, IsTrue}
use Rattle.std.specs.Option.{option_map}
use Rattle.fb_flat.specs.declared.flat.Source.{Source}
use Rattle.fb_ranges_intervals.specs.Views.{span_of}
use Rattle.fb_check_ranges.specs.Places.{held, SourceLies}
use Rattle.fb_check_ranges.proofs.link.lies.Goals as goal

pub returns-in-Some : goal.returns-in-Some
returns-in-Some c =
    λ ls h.
    subst (λ (o : Option (Bor Source)). IfOk c.source_lies.result (λ b. IsTrue b ↔ SourceLies c.args.certificate.now ls (span_of c.args.row) (held (option_map (λ (s : Bor Source). s.now) o)))) (sym c.in-Some.is)
    (c.source_lies.ensures ls h)
