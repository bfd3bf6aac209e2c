use Rattle.std.proofs.Common.{◌≡◌, sym, ap, subst}
use Rattle.std.proofs.lemmas.Result.{IfOk-weaker}
use Rattle.fb_model.specs.Wires.{Kind}
use Rattle.fb_flat.specs.Leaves.{kind_of}
use Rattle.fb_ranges.specs.declared.rows.Ranges.{Ranges}
use Rattle.fb_ranges.specs.Views.{spans_of}
use Rattle.fb_find_ranges.specs.Lines.{grown_by, IsAsked}
use Rattle.fb_find_ranges.proofs.Entries.{none_asks}
use Rattle.fb_find_ranges.proofs.work.asked.Goals as goal

pub returns-in-Served : goal.returns-in-Served
returns-in-Served c =
    let spans = spans_of c.args.ranges.now in
    IfOk-weaker c.copied.result (λ (r : Ranges). spans_of r ≡ spans) (λ (r : Ranges). IsAsked (spans_of r) (grown_by spans (kind_of c.args.leaf.now.body)) spans)
    (λ r e. subst (λ (k : Kind). IsAsked (spans_of r) (grown_by spans k) spans) (sym (ap kind_of c.in-Served.is)) (none_asks (spans_of r) spans e)) c.copied.ensures
