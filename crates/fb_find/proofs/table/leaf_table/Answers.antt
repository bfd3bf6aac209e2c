use Rattle.std.proofs.Common.{◌≡◌, ◌∙◌, ap, sym, string_bytes}
use Rattle.std.specs.Prelude.{None}
use Rattle.std.proofs.lemmas.Result.{IfOk-weaker}
use Rattle.fb_flat.specs.declared.flat.Body.{Body}
use Rattle.fb_flat.specs.Leaves.{kind_of}
use Rattle.fb_ranges.specs.declared.rows.Ranges.{Ranges}
use Rattle.fb_ranges.specs.Views.{spans_of}
use Rattle.fb_check_ranges.specs.Rows.{numbers_in}
use Rattle.fb_find.specs.Parts.{kind_table, table_in}
use Rattle.fb_find.proofs.table.leaf_table.Goals as goal

pub returns-in-Served : goal.returns-in-Served
returns-in-Served c =
    IfOk-weaker c.new.result (λ (r : Ranges). spans_of r ≡ (λ x. numbers_in None)) (λ (r : Ranges). spans_of r ≡ table_in c.args.certificate.now c.args.leaf.now)
    (λ r h. h ∙ sym (ap (λ (b : Body). kind_table c.args.certificate.now (string_bytes c.args.leaf.now.path) (kind_of b)) c.in-Served.is)) c.new.ensures
