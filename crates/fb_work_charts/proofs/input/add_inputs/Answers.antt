use Rattle.std.proofs.Common.{◌≡◌, ◌+◌, List, ◌++◌, map, drop, ap, ◌∙◌, string_bytes}
use Rattle.std.specs.List.{flat_map}
use Rattle.std.proofs.lemmas.List.{map-append}
use Rattle.std.specs.declared.string.String.{String}
use Rattle.std.specs.declared.vec.Vec.{Vec}
use Rattle.std.specs.declared.alloc.Global.{Global}
use Rattle.fb_model.specs.Certificates.{event_names}
use Rattle.fb_types_blocks.specs.Views.{block_of}
use Rattle.fb_find_laws.specs.Nodes.{capped}
use Rattle.fb_find_demands.proofs.Loops.{rest_at, turn}
use Rattle.fb_work_charts.specs.Charges.{input_works}
use Rattle.fb_work_charts.specs.Reckoning.{all_capped}
use Rattle.fb_work_charts.proofs.Named.{event_in}
use Rattle.fb_work_charts.proofs.Tariffs.{tariff_in}
use Rattle.fb_work_charts.proofs.input.add_inputs.Goals as goal

pub loop-index-preserved : goal.loop-index-preserved
loop-index-preserved c =
    let block = block_of c.args.block.now in
    let f = input_works (tariff_in c.args.scene.now c.args.block.now) block in
    let xs = c.args.block.now.face.event_inputs.entries in
    let i = c.loop-index.index in
    let x : String Global × Vec (String Global) Global = (c.in-Some.event.now, c.in-Some.field-0-1.now) in
    let old = c.loop-index.works.items in
    let here = f (string_bytes x.0) in
    let left = flat_map f (event_names (map event_in (drop (i + 1) xs))) in
    let one : c.add_input.new.works.items ≡ old ++ all_capped here =
    c.in_ok-add_input.ensures ∙ ap (λ e. old ++ all_capped (f e)) c.as_str.ensures.value in
    let all = λ (es : List (String Global × Vec (String Global) Global)). all_capped (flat_map f (event_names (map event_in es))) in
    let rest = rest_at xs i x c.in-Some.ensures.entry in
    turn all xs i x (all_capped here) old c.add_input.new.works.items _ rest (map-append capped here left) one c.loop-index.invariant
