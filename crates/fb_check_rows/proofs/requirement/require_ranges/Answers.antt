use Rattle.std.proofs.Common.{◌≡◌, ◌++◌, sym, ap, subst, ◌∙◌}
use Rattle.std.proofs.lemmas.List.{map-append}
use Rattle.fb_types_blocks.specs.Views.{names_of, variables_of}
use Rattle.fb_types_blocks.proofs.Lists.{on_ok}
use Rattle.fb_flat.specs.Sites.{dotted}
use Rattle.fb_check_rows.specs.Members.{gathered}
use Rattle.fb_check_rows.specs.Texts.{texts_in, ranged_names}
use Rattle.fb_check_rows.proofs.Members.{gathered_both}
use Rattle.fb_check_rows.proofs.requirement.require_ranges.Goals as goal

pub returns-clause-rows : goal.returns-clause-rows
returns-clause-rows c =
    let p = c.args.path.now in
    let b = c.args.block.now in
    let ins = ranged_names (variables_of b.face.inputs) in
    let outs = ranged_names (variables_of b.face.outputs) in
    let inner = ranged_names (variables_of b.internals) in
    let old = names_of c.args.rows.now in
    let all : (texts_in p ins ++ texts_in p outs) ++ texts_in p inner ≡ texts_in p ((ins ++ outs) ++ inner) =
    ap (λ ts. ts ++ texts_in p inner) (sym (map-append (λ n. dotted p n) ins outs)) ∙ sym (map-append (λ n. dotted p n) (ins ++ outs) inner) in
    on_ok
    (λ h. subst (λ ts. names_of c.require_variables-3.new.rows ≡ gathered old ts) all
    (gathered_both old (names_of c.require_variables-2.new.rows) (names_of c.require_variables-3.new.rows) (texts_in p ins ++ texts_in p outs) (texts_in p inner)
    (gathered_both old (names_of c.require_variables.new.rows) (names_of c.require_variables-2.new.rows) (texts_in p ins) (texts_in p outs) c.in_ok-require_variables.ensures.rows c.in_ok-require_variables-2.ensures.rows) h))
    c.require_variables-3.result c.require_variables-3.ensures.rows
