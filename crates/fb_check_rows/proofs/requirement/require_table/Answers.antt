use Rattle.std.proofs.Common.{◌≡◌, map, sym, subst, string_bytes}
use Rattle.fb_types_blocks.specs.Views.{names_of}
use Rattle.fb_flat.specs.Sites.{dotted}
use Rattle.fb_check_rows.specs.Members.{gathered, with_name}
use Rattle.fb_check_rows.specs.Texts.{texts_in}
use Rattle.fb_check_rows.proofs.Members.{next_item, rest_at}
use Rattle.fb_check_rows.proofs.requirement.require_table.Goals as goal

pub loop-index-preserved : goal.loop-index-preserved
loop-index-preserved g c =
    let p = c.args.path.now in
    let xs = c.args.table.now.entries in
    let k = c.loop-index.index in
    next_item (λ n. dotted p n) (λ e. string_bytes e.0) xs k _ (names_of c.loop-index.rows) (names_of c.require_name.new.rows) (gathered (names_of c.args.rows.now) (texts_in p (map (λ e. string_bytes e.0) xs)))
    (rest_at xs k _ (sym c.in-Some.ensures.entry))
    (subst (λ n. names_of c.require_name.new.rows ≡ with_name (names_of c.loop-index.rows) (dotted p n)) c.as_str.ensures.value c.in_ok-require_name.ensures.rows)
    c.loop-index.invariant
