use Rattle.std.proofs.Common.{◌++◌, ◌∷◌, [], sym, ap, ◌∙◌, map, take, string_bytes, arith}
use Rattle.std.proofs.lemmas.List.{map_push}
use Rattle.fb_model.specs.Store.{variable_names}
use Rattle.fb_types_blocks.specs.Views.{variables_of}
use Rattle.fb_flat.proofs.Systems.{take_got}
use Rattle.fb_flat.proofs.Sources.{all_named}
use Rattle.fb_flat.proofs.inputs.variable_names.Goals as goal

pub loop-index-preserved : goal.loop-index-preserved
loop-index-preserved c =
    let all = variable_names (variables_of c.args.variables.now) in
    let name = c.in-Some.name in
    ap (map string_bytes) c.in_ok-push-in-Some.ensures.items ∙ map_push string_bytes c.loop-index.names.items c.in_ok-from_str-in-Some.field-0
    ∙ ap (λ ns. ns ++ string_bytes c.in_ok-from_str-in-Some.field-0 ∷ []) c.loop-index.invariant
    ∙ ap (λ n. take c.loop-index.index all ++ n ∷ []) c.in_ok-from_str-in-Some.ensures.ok
    ∙ sym (take_got all c.loop-index.index name.now (sym c.in-Some.ensures))

pub returns : goal.returns
returns c =
    c.loop-index.invariant
    ∙ all_named c.args.variables.now.entries c.loop-index.index (let l = c.loop-index-test.false in let e = c.len-index-end.ensures.len in omega (arith, l, e))
