use Rattle.std.proofs.Common.{Some, ap, ◌∙◌, string_bytes}
use Rattle.std.specs.Option.{option_map}
use Rattle.fb_flat.proofs.Systems.{named_at}
use Rattle.fb_flat.proofs.leaves.name_at.Goals as goal

pub returns : goal.returns
returns c =
    let es = c.args.events.now.entries in
    ap Some c.as_str.ensures.value ∙ ap (option_map (λ p. string_bytes p.0)) c.in_ok-name.ensures.entry ∙ named_at es c.args.index
