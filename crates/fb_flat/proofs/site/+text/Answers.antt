use Rattle.std.proofs.Common.{◌≡◌, ap, sym, ◌∙◌, string_bytes}
use Rattle.fb_flat.specs.Sites.{path_of, text_of, dotted}
use Rattle.fb_flat.proofs.Texts.{text_inside}
use Rattle.fb_flat.proofs.Following.{ok_along}
use Rattle.fb_flat.proofs.site.+text.Goals as goal

pub returns-in_ok-text-in-Inside : goal.returns-in_ok-text-in-Inside
returns-in_ok-text-in-Inside t c =
    let outer = c.in-Inside.outer.now in
    let name = c.in-Inside.name.now in
    let whole : text_of (path_of c.args.trail.now) ≡ dotted (text_of (path_of outer)) name = ap (λ u. text_of (path_of u)) c.in-Inside.is ∙ text_inside outer name in
    ok_along string_bytes (ap (λ s. dotted s name) c.in_ok-text-in-Inside.ensures ∙ sym whole) c.longer-in-Inside.result c.longer-in-Inside.ensures
