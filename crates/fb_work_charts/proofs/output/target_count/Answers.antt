use Rattle.std.proofs.Common.{◌≡◌, length, true, sym, ap, ◌∙◌, string_bytes}
use Rattle.std.specs.Str.{bytes_eq}
use Rattle.std.proofs.lemmas.List.{length-map}
use Rattle.fb_flat.specs.Tables.{target_place}
use Rattle.fb_find_demands.proofs.Loops.{rest_of}
use Rattle.fb_find_demands.proofs.Outputs.{targets_here}
use Rattle.fb_work_charts.proofs.output.target_count.Goals as goal

pub returns-then-eq : goal.returns-then-eq
returns-then-eq c =
    let xs = c.args.outputs.now in
    let i = c.loop-output.output-index in
    let x = c.output-item.result in
    let o = c.args.name.now in
    let same : bytes_eq o (string_bytes x.name) ≡ true = ap (bytes_eq o) (sym c.as_str.ensures.value) ∙ sym c.eq.ensures ∙ c.if-eq.true in
    let here = targets_here xs i x o (rest_of xs i x c.loop-output-test.true c.output-item.is) same c.loop-output.invariant in
    c.len.ensures ∙ x.targets.ok.0 ∙ sym (length-map x.targets.items target_place) ∙ ap length here
