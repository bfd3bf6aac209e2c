use Rattle.std.proofs.Common.{◌≡◌, cond, None, ap, subst, ◌∙◌}
use Rattle.std.specs.Str.{bytes_eq}
use Rattle.fb_tree.specs.Files as trees_of
use Rattle.fb_types.specs.Rings.{found_in}
use Rattle.fb_types.proofs.Tabled.{found_without}
use Rattle.fb_types.proofs.Ringed.{search_begun}
use Rattle.fb_types.proofs.rings.ring.Goals as goal

pub returns : goal.returns
returns c = λ bs table named.
    let b = trees_of.block_of c.args.block.now in
    let old = c.in_ok-left.left in
    let new = c.swap_remove.new.self in
    c.searched.ensures bs (search_begun bs b (found_in new) named (λ x.
    subst (λ n. found_in new x ≡ cond (bytes_eq n x) None (found_in old x)) c.as_str.ensures.value (found_without c.as_str.result.now old new c.swap_remove.ensures.updates x)
    ∙ ap (cond (bytes_eq b.name.text x) None) (c.in_ok-left.ensures x ∙ table x)))
