use Rattle.std.proofs.Common.{◌++◌, ◌∷◌, [], sym, ap, ◌∙◌, map, Bor}
use Rattle.std.proofs.lemmas.List.{map_push}
use Rattle.fb_model.specs.Names.{Name}
use Rattle.fb_model.specs.Typing.{names_of}
use Rattle.fb_types_blocks.specs.Views.{events_of}
use Rattle.fb_flat.proofs.Systems.{take_got}
use Rattle.fb_flat.proofs.leaves.names.Goals as goal

pub loop-index-preserved : goal.loop-index-preserved
loop-index-preserved c =
    let all = names_of (events_of c.args.events.now) in
    let name = c.in-Some.name in
    ap (map (λ (s : Bor Name). s.now)) c.in_ok-push-in-Some.ensures.items ∙ map_push (λ (s : Bor Name). s.now) c.loop-index.names.items name
    ∙ ap (λ ns. ns ++ name.now ∷ []) c.loop-index.invariant ∙ sym (take_got all c.loop-index.index name.now (sym c.in-Some.ensures))
