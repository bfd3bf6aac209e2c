use Rattle.std.proofs.Common.{rules, ◌≡◌, ◌∙◌, string_bytes, w64, to_z, of_z}
use Rattle.std.proofs.lemmas.Int.{to_z-of_z}
use Rattle.fb_device_values.specs.Drafts.{cells_in}
use Rattle.fb_device_values.proofs.Adding.{NamedVariable, entry_next}
use Rattle.fb_device_values.proofs.declare.add_variables.Goals as goal

pub loop-index-preserved : goal.loop-index-preserved
loop-index-preserved c =
    let e : NamedVariable = (c.in-Some.name.now, c.in-Some.variable.now) in
    let v = c.start_number.result in
    let q : to_z w64 (of_z w64 v) ≡ v = to_z-of_z w64 v (search rules) in
    entry_next c.args.variables.now.entries c.loop-index.index e (cells_in c.args.drafts.now.items) (cells_in c.loop-index.drafts.items) (cells_in c.add.new.drafts.items) c.as_str.result.now (to_z w64 (of_z w64 v)) c.in-Some.ensures.entry c.as_str.ensures.value
    (q ∙ c.start_number.ensures (string_bytes c.in-Some.name.now)) c.loop-index.invariant c.in_ok-add.ensures
