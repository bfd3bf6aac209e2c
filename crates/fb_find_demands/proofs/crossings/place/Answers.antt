use Rattle.std.proofs.Common.{sym, ap, ◌∙◌}
use Rattle.std.proofs.lemmas.List.{length-map}
use Rattle.fb_find_laws.specs.Nodes.{index_in}
use Rattle.indexmap.specs.IndexMap.{keys}
use Rattle.fb_find_demands.proofs.Numbers.{index_some, index_none}
use Rattle.fb_find_demands.proofs.Opened.{names_are}
use Rattle.fb_find_demands.proofs.crossings.place.Goals as goal

pub returns-in-Some : goal.returns-in-Some
returns-in-Some c =
    let m = c.args.inputs.now in
    let x = c.args.name.now in
    index_some (keys m) x c.in-Some.index c.in-Some.ensures.index ∙ ap (λ ns. index_in ns x) (names_are m.entries)

pub returns-in-None : goal.returns-in-None
returns-in-None c =
    let m = c.args.inputs.now in
    let x = c.args.name.now in
    c.len-count.ensures.len ∙ sym (length-map m.entries (λ e. e.0)) ∙ index_none (keys m) x c.in-None.ensures.index ∙ ap (λ ns. index_in ns x) (names_are m.entries)
