use Rattle.std.proofs.Common.{◌∙◌, sym, Some, None}
use Rattle.fb_model.specs.CertificateText.{names_in}
use Rattle.fb_ranges_intervals.specs.Views.{span_of}
use Rattle.fb_find_ranges.proofs.Putting.{fed_at}
use Rattle.fb_find_ranges.proofs.near.output_fed.Goals as goal

pub returns-in-Some : goal.returns-in-Some
returns-in-Some c =
    c.number_fed.ensures ∙ fed_at c.args.leaves.now (names_in c.args.path.now) c.args.name.now (span_of c.args.range) (Some c.in-Some.number.now) (sym (c.requires c.args.path.now) ∙ sym c.in-Some.ensures.value)

pub returns-in-None : goal.returns-in-None
returns-in-None c = fed_at c.args.leaves.now (names_in c.args.path.now) c.args.name.now (span_of c.args.range) None (sym (c.requires c.args.path.now) ∙ sym c.in-None.ensures.value)
