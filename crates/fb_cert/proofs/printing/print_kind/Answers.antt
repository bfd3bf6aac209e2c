use Rattle.std.proofs.Common.{◌≡◌, ◌∙◌, ◌++◌, ◌+◌, ap, string_bytes}
use Rattle.fb_cert.specs.Printed.{row_line, entries_of}
use Rattle.fb_cert.specs.Views.{rows_of, text_row_of}
use Rattle.fb_cert.proofs.Rests.{with_left, some_left, none_left}
use Rattle.fb_cert.proofs.printing.print_kind.Goals as goal
use Rattle.fb_cert.proofs.printing.print_kind.Goals.{in-Some+in_ok-print_row, in_default}

pub loop-index-preserved : goal.loop-index-preserved
loop-index-preserved c =
    let rows = entries_of c.args.kind (rows_of c.args.certificate.now) in
    elim c.match-row_at.branch [
      | in-Some+in_ok-print_row w ↦ (let row = text_row_of w.in-Some.row in
          let e : string_bytes c.match-row_at.text ≡ string_bytes c.loop-index.text ++ row_line row = ap string_bytes w.text-is ∙ w.in_ok-print_row.ensures in
          ap (with_left rows (c.loop-index.index + 1)) e ∙ some_left rows c.loop-index.index row _ _ w.in-Some.ensures c.loop-index.invariant)
      | in_default w ↦ ap (λ t. with_left rows (c.loop-index.index + 1) (string_bytes t)) w.text-is ∙ none_left rows c.loop-index.index _ _ w.in_default.ensures c.loop-index.invariant
    ]
