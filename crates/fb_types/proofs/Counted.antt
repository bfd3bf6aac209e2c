-- Budgets of instances.
use Rattle.std.proofs.Common.{◌≡◌, ℕ, ◌+◌, ◌<◌, ◌≤◌, List, [], ◌∷◌, ◌++◌, drop, take, length, get_or, sym, ap, ◌∙◌, arith}
use Rattle.std.proofs.lemmas.List.{take-append-drop, take_more}
use Rattle.fb_model.specs.NetworkTyping.{instance_count}
use Rattle.fb_types_networks.specs.declared.typed.Instance.{Instance}
use Rattle.fb_types_networks.specs.Views.{instances_of}
use Rattle.fb_types_blocks.proofs.Refused.{drop_step, drop_all}
use Rattle.fb_types.specs.Counts.{one_count}

abbrev pub total : List Instance → ℕ
total is = instance_count (instances_of is)

-- the next of what is left to count
pub total_next : (xs : List Instance) (i : ℕ) (x : Instance) → i < length xs → x ≡ get_or xs i x → total (drop i xs) ≡ one_count x + total (drop (i + 1) xs)
total_next xs i x lt at = ap total (drop_step xs i x lt at)

pub total_none : (xs : List Instance) (i : ℕ) → length xs ≤ i → total (drop i xs) ≡ 0
total_none xs i le = ap total (drop_all xs i le)

joined : (a b c : ℕ) → a + (b + c) ≡ a + b + c
joined a b c = omega arith

zero_first : (n : ℕ) → n ≡ 0 + n
zero_first n = omega arith

pub total_append : (xs ys : List Instance) → total (xs ++ ys) ≡ total xs + total ys
total_append [] ys = zero_first (total ys)
total_append (x ∷ xs) ys = ap (λ n. one_count x + n) (total_append xs ys) ∙ joined (one_count x) (total xs) (total ys)

pub parts : {X : Type 0} (xs : List X) (i : ℕ) (x : X) → i < length xs → x ≡ get_or xs i x → xs ≡ take i xs ++ x ∷ drop (i + 1) xs
parts xs i x lt at = sym (take-append-drop i xs) ∙ ap (λ l. take i xs ++ l) (drop_step xs i x lt at)

-- the count of those before the next, and of it
pub total_more : (xs : List Instance) (i : ℕ) (x : Instance) → i < length xs → x ≡ get_or xs i x → total (take (i + 1) xs) ≡ total (take i xs) + one_count x
total_more xs i x lt at = ap total (take_more xs i x lt ∙ ap (λ y. take i xs ++ y ∷ []) (sym at)) ∙ total_append (take i xs) (x ∷ []) ∙ ap (λ n. total (take i xs) + n) (alone (one_count x)) where
  alone : (n : ℕ) → n + 0 ≡ n
  alone n = omega arith

-- a budget behind the next one
pub spent : (left rest one whole budget now next : ℕ) → left + whole ≡ budget + now → now ≡ one + next → rest + one ≡ left → rest + whole ≡ budget + next
spent left rest one whole budget now next a b c = omega (arith, a, b, c)

pub overspent : (left one whole budget now next : ℕ) → left + whole ≡ budget + now → now ≡ one + next → left < one → budget < whole
overspent left one whole budget now next a b c = omega (arith, a, b, c)
