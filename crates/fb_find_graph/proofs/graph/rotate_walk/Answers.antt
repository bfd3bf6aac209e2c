use Rattle.std.proofs.Common.{◌≡◌, ◌+◌, ◌-◌, ◌<◌, ◌++◌, length, take, arith, ap, ◌∙◌}
use Rattle.std.proofs.lemmas.List.{length-take-le, get_or-take}
use Rattle.fb_find_graph.proofs.graph.rotate_walk.Goals as goal

pub returns : goal.returns
returns c =
    let n = length c.args.walk.now - 1 in
    let size : length (take n c.args.walk.now) ≡ n = length-take-le n c.args.walk.now (omega arith) in
    let at = c.least_at-at.result in
    let within : at < n = omega (arith, c.least_at-at.ensures.within, size) in
    (at, omega (arith, within), c.in_ok-extend_from_slice.ensures.items ∙ ap (λ xs. xs ++ take (at + 1) c.args.walk.now) (c.in_ok-rotated.ensures.items_if_clones_equal (λ x y e. e)), λ k h. rw (get_or-take n c.args.walk.now at 0 within, get_or-take n c.args.walk.now k 0 (omega (arith, h))) at (c.least_at-at.ensures.least k (omega (arith, h, size))))
