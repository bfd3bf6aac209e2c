use Rattle.std.proofs.Common.{string_bytes}
use Rattle.fb_model.specs.Wires.{resource_leaves}
use Rattle.fb_cert.specs.Views.{certificate_of}
use Rattle.fb_model.specs.Finding.{needed_depth}
use Rattle.fb_find_rows.proofs.QueueRows.{row_read, some_needed}
use Rattle.fb_find_rows.proofs.adding.add_resource.Goals as goal

pub returns-clause-rows : goal.returns-clause-rows
returns-clause-rows c = λ n path r is fresh.
    row_read (string_bytes c.args.resource.now.path) c.as_str.result.now (needed_depth (certificate_of c.args.certificate.now) (resource_leaves n path r)) c.in_ok-depth.depth c.args.certificate.now c.add.new.self c.in_ok-add.field-0 c.as_str.ensures.value fresh.0 fresh.1
    (c.in_ok-depth.ensures (resource_leaves n path r) is.leaves) c.if-depth-gt-LIMIT.false (some_needed (certificate_of c.args.certificate.now) (resource_leaves n path r)) c.in_ok-add.ensures.tells c.in_ok-add.ensures.added
