use Rattle.std.proofs.Common.{[], length, string_bytes, sym, ap, ◌∙◌}
use Rattle.std.proofs.lemmas.List.{length-map}
use Rattle.fb_work_charts.proofs.Named.{names_in, some_seen, none_seen, carried_seen}
use Rattle.fb_work_charts.proofs.output.carried_count.Goals as goal

pub returns-in-Some : goal.returns-in-Some
returns-in-Some c =
    let es = c.args.events.now.entries in
    let x = c.args.name.now in
    let v = c.in-Some.carries.now in
    c.len.ensures
    ∙ v.ok.0
    ∙ sym (length-map v.items string_bytes)
    ∙ ap length (some_seen names_in [] es x v c.in-Some.ensures.value ∙ carried_seen es x)

pub returns-in-None : goal.returns-in-None
returns-in-None c =
    let es = c.args.events.now.entries in
    let x = c.args.name.now in
    ap length (none_seen names_in [] es x c.in-None.ensures.value ∙ carried_seen es x)
