use Rattle.std.proofs.Common.{◌≡◌, ◌++◌, ◌∷◌, [], map, sym, ap, subst, ◌∙◌}
use Rattle.std.proofs.lemmas.List.{map_push}
use Rattle.fb_tree.specs.Files as trees_of
use Rattle.fb_types.specs.Made.{tree_of}
use Rattle.fb_types.specs.Rings.{found_in, parts_of, IsStep, IsSearching}
use Rattle.fb_types.proofs.Ringed.{search_passed, search_inside, search_closing}
use Rattle.fb_types.proofs.rings.advance.Goals as goal

pub returns-in-Passed-clause-search : goal.returns-in-Passed-clause-search
returns-in-Passed-clause-search c = λ bs b h.
    let top = trees_of.block_of c.args.top.now in
    let xs = map tree_of c.args.path.now.items in
    let s = subst (λ l. IsStep (found_in c.args.left.now) (found_in c.look_into.new.left) (map tree_of l ++ top ∷ []) (parts_of top.body) c.look_into.result) c.deref.ensures.value c.look_into.ensures.step in
    let p = subst (IsStep (found_in c.args.left.now) (found_in c.look_into.new.left) (xs ++ top ∷ []) (parts_of top.body)) c.in-Passed.is s in
    search_passed bs b (found_in c.args.left.now) (found_in c.look_into.new.left) xs top h p.0 p.1

pub returns-in-Closing-clause-search : goal.returns-in-Closing-clause-search
returns-in-Closing-clause-search c = λ bs b h.
    let top = trees_of.block_of c.args.top.now in
    let xs = map tree_of c.args.path.now.items in
    let s = subst (λ l. IsStep (found_in c.args.left.now) (found_in c.look_into.new.left) (map tree_of l ++ top ∷ []) (parts_of top.body) c.look_into.result) c.deref.ensures.value c.look_into.ensures.step in
    let p = subst (IsStep (found_in c.args.left.now) (found_in c.look_into.new.left) (xs ++ top ∷ []) (parts_of top.body)) c.in-Closing.is s in
    search_closing bs b (found_in c.args.left.now) xs top p.0 c.in-Closing.at h p.1 p.2

pub returns-in_ok-push-in-Inside-2-clause-search : goal.returns-in_ok-push-in-Inside-2-clause-search
returns-in_ok-push-in-Inside-2-clause-search c = λ bs b h.
    let top = trees_of.block_of c.args.top.now in
    let xs = map tree_of c.args.path.now.items in
    let inner = c.in-Inside.inner in
    let s = subst (λ l. IsStep (found_in c.args.left.now) (found_in c.look_into.new.left) (map tree_of l ++ top ∷ []) (parts_of top.body) c.look_into.result) c.deref.ensures.value c.look_into.ensures.step in
    let p = subst (IsStep (found_in c.args.left.now) (found_in c.look_into.new.left) (xs ++ top ∷ []) (parts_of top.body)) c.in-Inside.is s in
    let first : map tree_of c.push.new.self.items ≡ xs ++ top ∷ [] = ap (map tree_of) c.in_ok-push-in-Inside.ensures.items ∙ map_push tree_of c.args.path.now.items c.args.top in
    let both = ap (map tree_of) c.in_ok-push-in-Inside-2.ensures.items ∙ map_push tree_of c.push.new.self.items inner ∙ ap (λ l. l ++ tree_of inner ∷ []) first in
    subst (IsSearching bs b (found_in c.look_into.new.left)) (sym both) (search_inside bs b (found_in c.args.left.now) (found_in c.look_into.new.left) xs top p.0 (tree_of inner) h p.1 p.2)
