-- Loops over items, one item more.
use Rattle.std.proofs.Common.{◌≡◌, ℕ, ◌+◌, ◌<◌, List, [], ◌∷◌, ◌++◌, map, take, drop, length, get_or, Vec, sym, ap, ◌∙◌, append_assoc}
use Rattle.std.specs.Prelude.{max}
use Rattle.std.specs.declared.alloc.Global.{Global}
use Rattle.std.proofs.lemmas.List.{append-nil, map_more, map-append}
use Rattle.fb_find_laws.specs.Nodes.{capped}
use Rattle.fb_find_demands.proofs.Loops.{rest_of}
use Rattle.fb_work_charts.specs.Reckoning.{all_capped}
use Rattle.fb_work_charts.proofs.Capping.{added_more, greater}

module _ {X : Type 0} (F : List X → ℕ) (xs : List X) (i : ℕ) (x : X) (whole : ℕ) (rest : drop i xs ≡ x ∷ drop (i + 1) xs) where
  -- what is left of a sum
  pub sum_turn : (here sum item new : ℕ) → F (x ∷ drop (i + 1) xs) ≡ here + F (drop (i + 1) xs) → new ≡ capped (sum + item) → item ≡ capped here
      → capped (sum + F (drop i xs)) ≡ whole → capped (new + F (drop (i + 1) xs)) ≡ whole
  sum_turn here sum item new s n p k =
      added_more sum new item (F (drop (i + 1) xs)) here n p
      ∙ ap (λ m. capped (sum + m)) (sym s)
      ∙ ap (λ ys. capped (sum + F ys)) (sym rest)
      ∙ k

  -- one that adds nothing
  pub sum_past : (sum new : ℕ) → F (x ∷ drop (i + 1) xs) ≡ F (drop (i + 1) xs) → new ≡ sum
      → capped (sum + F (drop i xs)) ≡ whole → capped (new + F (drop (i + 1) xs)) ≡ whole
  sum_past sum new s n k =
      ap (λ m. capped (m + F (drop (i + 1) xs))) n
      ∙ ap (λ m. capped (sum + m)) (sym s)
      ∙ ap (λ ys. capped (sum + F ys)) (sym rest)
      ∙ k

  -- the greatest of what is left
  pub most_turn : (here most tried new : ℕ) → F (x ∷ drop (i + 1) xs) ≡ max here (F (drop (i + 1) xs)) → new ≡ max most tried
      → tried ≡ capped here → capped (max most (F (drop i xs))) ≡ whole → capped (max new (F (drop (i + 1) xs))) ≡ whole
  most_turn here most tried new s n p k =
      greater most tried new (F (drop (i + 1) xs)) here n p
      ∙ ap (λ m. capped (max most m)) (sym s)
      ∙ ap (λ ys. capped (max most (F ys))) (sym rest)
      ∙ k

module _ {X Y : Type 0} (f : X → Y) (xs : List X) (i : ℕ) (x : X) (l : i < length xs) (e : x ≡ get_or xs i x) where
  -- the first items, and the one behind them
  pub taken_more : map f (take (i + 1) xs) ≡ map f (take i xs) ++ f x ∷ []
  taken_more = map_more f xs i x l ∙ ap (λ y. map f (take i xs) ++ f y ∷ []) (sym e)

  -- what comes of an item with those before it
  pub turn_after : (F : List Y → List Y → List ℕ) (here old new whole : List ℕ)
      → F (map f (take i xs)) (f x ∷ map f (drop (i + 1) xs)) ≡ here ++ F (map f (take i xs) ++ f x ∷ []) (map f (drop (i + 1) xs))
      → new ≡ old ++ all_capped here
      → old ++ all_capped (F (map f (take i xs)) (map f (drop i xs))) ≡ whole
      → new ++ all_capped (F (map f (take (i + 1) xs)) (map f (drop (i + 1) xs))) ≡ whole
  turn_after F here old new whole s n k =
      let rest = map f (drop (i + 1) xs) in
      let then = map f (take i xs) ++ f x ∷ [] in
      ap (λ ys. new ++ all_capped (F ys rest)) taken_more
      ∙ ap (λ ys. ys ++ all_capped (F then rest)) n
      ∙ append_assoc old (all_capped here) (all_capped (F then rest))
      ∙ ap (λ ys. old ++ ys) (sym (map-append capped here (F then rest)))
      ∙ ap (λ ys. old ++ all_capped ys) (sym s)
      ∙ ap (λ ys. old ++ all_capped (F (map f (take i xs)) (map f ys))) (sym (rest_of xs i x l e))
      ∙ k

-- what is in a vector that is another, to which one number was added or none
pub same_items : (v w : Vec ℕ Global) (ys : List ℕ) → v ≡ w → w.items ≡ ys → v.items ≡ ys
same_items v w ys e h = ap (λ (u : Vec ℕ Global). u.items) e ∙ h

pub one_pushed : (v w : Vec ℕ Global) (old : List ℕ) (k n : ℕ) → v ≡ w → w.items ≡ old ++ k ∷ [] → k ≡ n → v.items ≡ old ++ n ∷ []
one_pushed v w old k n e h s = same_items v w (old ++ n ∷ []) e (h ∙ ap (λ m. old ++ m ∷ []) s)

pub none_pushed : (v w : Vec ℕ Global) → v ≡ w → v.items ≡ w.items ++ []
none_pushed v w e = same_items v w (w.items ++ []) e (sym (append-nil w.items))
