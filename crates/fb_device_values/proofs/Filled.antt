-- Leaves of tables and their stores, one by one.
use Rattle.std.proofs.Common.{◌≡◌, ℕ, ◌+◌, ◌<◌, List, [], ◌∷◌, ◌++◌, take, length, get_or, sym, ap, subst, ◌∙◌}
use Rattle.std.proofs.lemmas.List.{take_more, append_assoc, append-nil}
use Rattle.st_exec.specs.Cells.{Cell}
use Rattle.fb_flat.specs.declared.flat.Leaf.{Leaf}
use Rattle.fb_flat.specs.declared.flat.FlatResource.{FlatResource}
use Rattle.fb_device_values.specs.Filling.{IsFilled, AreFilled, leaves_in}

abbrev Stores : Type 0
Stores = List (List Cell)

filled_push : (ls : List Leaf) (owns issues : Stores) (l : Leaf) (own issued : List Cell) → AreFilled ls owns issues → IsFilled l own issued → AreFilled (ls ++ l ∷ []) (owns ++ own ∷ []) (issues ++ issued ∷ [])
filled_push [] [] [] l own issued h k = (k, tt)
filled_push [] [] (i ∷ is) l own issued h k = absurd h
filled_push [] (o ∷ os) [] l own issued h k = absurd h
filled_push [] (o ∷ os) (i ∷ is) l own issued h k = absurd h
filled_push (m ∷ ls) [] [] l own issued h k = absurd h
filled_push (m ∷ ls) [] (i ∷ is) l own issued h k = absurd h
filled_push (m ∷ ls) (o ∷ os) [] l own issued h k = absurd h
filled_push (m ∷ ls) (o ∷ os) (i ∷ is) l own issued h k = (h.0, filled_push ls os is l own issued h.1 k)

-- one more leaf, with its stores
pub filled_next : (before ls : List Leaf) (n : ℕ) (l : Leaf) (owns issues new_owns new_issues : Stores) (own issued : List Cell) → n < length ls → l ≡ get_or ls n l → new_owns ≡ owns ++ own ∷ [] → new_issues ≡ issues ++ issued ∷ []
    → AreFilled (before ++ take n ls) owns issues → IsFilled l own issued → AreFilled (before ++ take (n + 1) ls) new_owns new_issues
filled_next before ls n l owns issues new_owns new_issues own issued m e f g h k =
    let more : before ++ take (n + 1) ls ≡ (before ++ take n ls) ++ l ∷ [] =
    ap (λ zs. before ++ zs) (take_more ls n l m ∙ ap (λ x. take n ls ++ x ∷ []) (sym e)) ∙ sym (append_assoc before (take n ls) (l ∷ [])) in
    subst (λ zs. AreFilled zs new_owns new_issues) (sym more)
    (subst (λ os. AreFilled ((before ++ take n ls) ++ l ∷ []) os new_issues) (sym f) (subst (λ is. AreFilled ((before ++ take n ls) ++ l ∷ []) (owns ++ own ∷ []) is) (sym g) (filled_push (before ++ take n ls) owns issues l own issued h k)))

leaves_append : (rs : List FlatResource) (r : FlatResource) → leaves_in (rs ++ r ∷ []) ≡ leaves_in rs ++ r.leaves.items
leaves_append [] r = append-nil r.leaves.items
leaves_append (q ∷ rs) r = ap (λ ls. q.leaves.items ++ ls) (leaves_append rs r) ∙ sym (append_assoc q.leaves.items (leaves_in rs) r.leaves.items)

-- the leaves of one more resource
pub leaves_next : (rs : List FlatResource) (n : ℕ) (r : FlatResource) → n < length rs → r ≡ get_or rs n r → leaves_in (take n rs) ++ r.leaves.items ≡ leaves_in (take (n + 1) rs)
leaves_next rs n r l e = sym (ap leaves_in (take_more rs n r l ∙ ap (λ x. take n rs ++ x ∷ []) (sym e)) ∙ leaves_append (take n rs) r)

pub leaves_added : (rs : List FlatResource) (n : ℕ) (r : FlatResource) (owns issues : Stores) → n < length rs → r ≡ get_or rs n r → AreFilled (leaves_in (take n rs) ++ r.leaves.items) owns issues → AreFilled (leaves_in (take (n + 1) rs)) owns issues
leaves_added rs n r owns issues l e h = subst (λ ls. AreFilled ls owns issues) (leaves_next rs n r l e) h
