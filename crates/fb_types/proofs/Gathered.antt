-- What is gathered from the items of a list, one after another.
use Rattle.std.proofs.Common.{◌≡◌, ℕ, ◌+◌, ◌<◌, ◌≤◌, List, [], ◌∷◌, ◌++◌, drop, length, get_or, sym, ap, ◌∙◌, append_assoc}
use Rattle.std.proofs.lemmas.List.{append-nil}
use Rattle.fb_types_blocks.proofs.Refused.{drop_step, drop_all}

module _ {X Y : Type 0} (all_of : List X → List Y) (one_of : X → List Y) (step : (x : X) (xs : List X) → all_of (x ∷ xs) ≡ one_of x ++ all_of xs) where
  pub gathered_more : (xs : List X) (i : ℕ) (x : X) → i < length xs → x ≡ get_or xs i x → (made next whole : List Y) → made ++ all_of (drop i xs) ≡ whole → next ≡ made ++ one_of x → next ++ all_of (drop (i + 1) xs) ≡ whole
  gathered_more xs i x lt at made next whole so e =
      ap (λ n. n ++ all_of (drop (i + 1) xs)) e ∙ append_assoc made (one_of x) (all_of (drop (i + 1) xs)) ∙ ap (λ r. made ++ r) (sym (step x (drop (i + 1) xs))) ∙ ap (λ l. made ++ all_of l) (sym (drop_step xs i x lt at)) ∙ so

pub gathered_all : {X Y : Type 0} (all_of : List X → List Y) → all_of [] ≡ [] → (xs : List X) (i : ℕ) → length xs ≤ i → (made whole : List Y) → made ++ all_of (drop i xs) ≡ whole → made ≡ whole
gathered_all all_of none xs i le made whole so = sym (append-nil made) ∙ ap (λ r. made ++ r) (sym none) ∙ ap (λ l. made ++ all_of l) (sym (drop_all xs i le)) ∙ so
