use Rattle.std.proofs.Common.{◌≤◌, sym, subst, string_bytes}
use Rattle.fb_model.specs.CertificateText.{most_steps}
use Rattle.fb_flat.specs.Sites.{dotted}
use Rattle.fb_check_columns.specs.Reckoning.{weight_of, weight_row, table_names}
use Rattle.fb_check_columns.proofs.Values.{number_at, some_at, image_got, capped}
use Rattle.fb_check_columns.proofs.rows.Rows.weight_at.Goals as goal

pub returns-clause-small : goal.returns-clause-small
returns-clause-small c =
    let rows = c.args.self.now in
    let i = c.args.index in
    let table = rows.block.now.face.event_inputs in
    let item = some_at table.entries i c.requires.within in
    let x = string_bytes item.0.0 in
    let number = weight_of rows.column rows.certificate.now rows.path.now in
    let same = number_at number (table_names table) rows.weights.now x i 0 c.requires.read.weights (image_got (λ p. string_bytes p.0) table.entries i item.0 item.1) in
    subst (λ n. n ≤ most_steps) (sym same) (capped (weight_row rows.column rows.certificate.now (dotted rows.path.now x)))
