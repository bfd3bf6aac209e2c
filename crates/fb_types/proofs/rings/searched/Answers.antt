use Rattle.std.proofs.Common.{◌≡◌, ◌++◌, ◌∷◌, [], map, sym, ap, subst, ◌∙◌}
use Rattle.std.specs.Option.{MatchOption, option_to_list}
use Rattle.std.proofs.lemmas.List.{map_push}
use Rattle.fb_tree.specs.Files as trees_of
use Rattle.fb_types.specs.Made.{tree_of}
use Rattle.fb_types.specs.Rings.{found_in, IsSearching, IsRingBelow}
use Rattle.fb_types.proofs.rings.searched.Goals as goal

pub loop-top-init : goal.loop-top-init
loop-top-init c = λ bs begun.
    let items = c.in_ok-push.ensures.items ∙ ap (λ l. l ++ c.args.block ∷ []) c.new-path.ensures.items in
    subst (λ l. IsSearching bs (trees_of.block_of c.args.block.now) (found_in c.args.left.now) (map tree_of l)) (sym items) begun

pub returns-in-Some-2 : goal.returns-in-Some-2
returns-in-Some-2 c = λ bs begun.
    let b = trees_of.block_of c.args.block.now in
    let top = c.in-Some.top in
    let xs = c.pop.new.self.items in
    let popped : c.loop-top.path.items ≡ xs ++ top ∷ [] = c.pop.ensures.items ∙ ap (λ o. xs ++ option_to_list o) c.in-Some.is in
    let h = subst (IsSearching bs b (found_in c.loop-top.left)) (ap (map tree_of) popped ∙ map_push tree_of xs top) (c.loop-top.invariant bs begun) in
    subst (λ o. MatchOption o (IsSearching bs b (found_in c.advance.new.left) (map tree_of c.advance.new.path.items)) (λ at. IsRingBelow bs b at)) c.in-Some-2.is (c.in_ok-at.ensures.search bs b h)

pub loop-top-preserved : goal.loop-top-preserved
loop-top-preserved c = λ bs begun.
    let b = trees_of.block_of c.args.block.now in
    let top = c.in-Some.top in
    let xs = c.pop.new.self.items in
    let popped : c.loop-top.path.items ≡ xs ++ top ∷ [] = c.pop.ensures.items ∙ ap (λ o. xs ++ option_to_list o) c.in-Some.is in
    let h = subst (IsSearching bs b (found_in c.loop-top.left)) (ap (map tree_of) popped ∙ map_push tree_of xs top) (c.loop-top.invariant bs begun) in
    subst (λ o. MatchOption o (IsSearching bs b (found_in c.advance.new.left) (map tree_of c.advance.new.path.items)) (λ at. IsRingBelow bs b at)) c.in_default-2.is (c.in_ok-at.ensures.search bs b h)
