use Rattle.std.proofs.Common.{◌≡◌, Option, Some, None, sym, ap, subst, ◌∙◌}
use Rattle.fb_model.specs.Names.{Name}
use Rattle.fb_types_blocks.specs.Views.{name_of, block_of}
use Rattle.fb_chart.specs.Tables.{IsAlgorithm}
use Rattle.fb_device_tables.proofs.Numbers.{placed}
use Rattle.fb_device_tables.proofs.Routines.{routine_found, routine_missing}
use Rattle.fb_device_tables.proofs.state.algorithm.Goals as goal

pub returns-in-Some-get_index_of : goal.returns-in-Some-get_index_of
returns-in-Some-get_index_of c =
    λ few.
    let k = c.args.block.now in
    let x = c.as_str.result.now in
    let name : Some x ≡ name_of c.args.name.now = ap Some c.as_str.ensures.value ∙ sym (ap name_of c.in-Some.is) in
    subst (λ (o : Option Name). IsAlgorithm (block_of k) o (Some c.short.result)) name
    (routine_found k x c.in-Some-get_index_of.index c.short.result (placed k.procedures x ∙ sym c.in-Some-get_index_of.ensures.index) c.short.ensures few)

pub returns-in-None-get_index_of : goal.returns-in-None-get_index_of
returns-in-None-get_index_of c =
    λ few.
    let k = c.args.block.now in
    let x = c.as_str.result.now in
    let name : Some x ≡ name_of c.args.name.now = ap Some c.as_str.ensures.value ∙ sym (ap name_of c.in-Some.is) in
    subst (λ (o : Option Name). IsAlgorithm (block_of k) o None) name (routine_missing k x (placed k.procedures x ∙ sym c.in-None-get_index_of.ensures.index))
