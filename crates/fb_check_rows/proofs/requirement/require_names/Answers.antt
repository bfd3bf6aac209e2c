use Rattle.std.proofs.Common.{Bor}
use Rattle.fb_model.specs.Names.{Name}
use Rattle.fb_types_blocks.specs.Views.{names_of}
use Rattle.fb_flat.specs.Sites.{dotted}
use Rattle.fb_check_rows.proofs.Members.{next_item, rest_got}
use Rattle.fb_check_rows.proofs.requirement.require_names.Goals as goal

pub loop-name-preserved : goal.loop-name-preserved
loop-name-preserved c =
    let p = c.args.path.now in
    let xs = c.args.names.now in
    let k = c.loop-name.name-index in
    next_item (λ n. dotted p n) (λ (n : Bor Name). n.now) xs k _ (names_of c.loop-name.rows) (names_of c.require_name.new.rows) _ (rest_got xs k _ c.loop-name-test.true) c.in_ok-require_name.ensures.rows c.loop-name.invariant
