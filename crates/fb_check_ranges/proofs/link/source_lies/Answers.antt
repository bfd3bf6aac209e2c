use Rattle.std.proofs.Common.{◌↔◌, sym, subst}
use Rattle.std.specs.Prelude.{IfOk, IsTrue}
use Rattle.fb_flat.specs.declared.flat.Source.{Source}
use Rattle.fb_flat.specs.Tables.{book_source}
use Rattle.fb_ranges_intervals.specs.Views.{span_of}
use Rattle.fb_check_ranges.specs.Places.{SourceLies}
use Rattle.fb_check_ranges.proofs.link.source_lies.Goals as goal

pub returns-in-Output : goal.returns-in-Output
returns-in-Output c =
    λ ls h.
    subst (λ (s : Source). IfOk c.output_lies.result (λ b. IsTrue b ↔ SourceLies c.args.certificate.now ls (span_of c.args.row) (book_source s))) (sym {A = Source} c.in-Output.is)
    (rw (c.as_str.ensures.value, c.as_str-in-Output.ensures.value) at (c.output_lies.ensures ls h))
