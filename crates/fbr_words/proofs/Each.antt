-- What each of some words is read as.
use Rattle.std.proofs.Common.{◌≡◌, ◌<◌, ◌≤◌, ◌+◌, ◌==◌, ℕ, suc, Bool, true, false, List, [], ◌∷◌, ◌++◌, length, map, drop, get_or, refl, sym, ap, subst, ◌∙◌, arith, append_assoc, append-nil, Option, None, Some, Bor}
use Rattle.std.specs.Prelude.{option_map, nat_le, if◌then◌else◌}
use Rattle.std.proofs.Math.Seq.{drop-cons}
use Rattle.std.proofs.lemmas.Bool.{le-leb}
use Rattle.std.proofs.lemmas.List.{drop_all, length-map}
use Rattle.fbr_words.specs.Program.{before, each_in, few_in}

abbrev pub now_of : List (Bor (List ℕ)) → List (List ℕ)
now_of ws = map (λ w. w.now) ws

module _ {X : Type 0} (read : List ℕ → Option X) where
  pub none_yet : (xs : List X) (o : Option (List X)) → xs ≡ [] → option_map (λ rest. xs ++ rest) o ≡ o
  none_yet xs None e = refl
  none_yet xs (Some ys) e = ap (λ t. Some (t ++ ys)) e

  one : (i : ℕ) → suc i ≡ i + 1
  one i = omega arith

  -- the words from one on
  here : (ws : List (Bor (List ℕ))) (i : ℕ) (d : Bor (List ℕ)) → i < length ws → each_in read (now_of (drop i ws)) ≡ before (read (get_or ws i d).now) (each_in read (now_of (drop (i + 1) ws)))
  here ws i d less =
      ap (λ l. each_in read (now_of l)) (drop-cons ws i d less) ∙ ap (λ k. before (read (get_or ws i d).now) (each_in read (now_of (drop k ws)))) (one i)

  -- one word more
  pub next_word : (ws : List (Bor (List ℕ))) (i : ℕ) (d : Bor (List ℕ)) (x : X) (xs more : List X) (all : Option (List X)) → i < length ws → read (get_or ws i d).now ≡ Some x → more ≡ xs ++ x ∷ []
      → option_map (λ rest. xs ++ rest) (each_in read (now_of (drop i ws))) ≡ all → option_map (λ rest. more ++ rest) (each_in read (now_of (drop (i + 1) ws))) ≡ all
  next_word ws i d x xs more all less is grows h =
      by (each_in read (now_of (drop (i + 1) ws)))
      ∙ sym (ap (λ p. option_map (λ rest. xs ++ rest) (before p (each_in read (now_of (drop (i + 1) ws))))) is)
      ∙ sym (ap (option_map (λ rest. xs ++ rest)) (here ws i d less))
      ∙ h
    where
      by : (o : Option (List X)) → option_map (λ rest. more ++ rest) o ≡ option_map (λ rest. xs ++ rest) (before (Some x) o)
      by None = refl
      by (Some ys) = ap Some (ap (λ t. t ++ ys) grows ∙ append_assoc xs (x ∷ []) ys)

  chosen : (b : Bool) (o : Option (List X)) → o ≡ None → None ≡ (if b then o else None)
  chosen true o e = sym e
  chosen false o e = refl

  -- a word that is read as nothing
  pub no_word : (ws : List (Bor (List ℕ))) (i : ℕ) (d : Bor (List ℕ)) (xs : List X) → i < length ws → read (get_or ws i d).now ≡ None
      → option_map (λ rest. xs ++ rest) (each_in read (now_of (drop i ws))) ≡ each_in read (now_of ws) → None ≡ few_in read (Some (now_of ws))
  no_word ws i d xs less is h =
      let none : each_in read (now_of (drop i ws)) ≡ None = here ws i d less ∙ ap (λ p. before p (each_in read (now_of (drop (i + 1) ws)))) is in
      chosen (nat_le (length (now_of ws)) 64) (each_in read (now_of ws)) (sym h ∙ ap (option_map (λ rest. xs ++ rest)) none)

  -- all words are read
  pub all_words : (ws : List (Bor (List ℕ))) (i : ℕ) (xs : List X) → length ws ≤ i → length ws ≤ 64
      → option_map (λ more. xs ++ more) (each_in read (now_of (drop i ws))) ≡ each_in read (now_of ws) → Some xs ≡ few_in read (Some (now_of ws))
  all_words ws i xs end few h =
      let within : nat_le (length (now_of ws)) 64 ≡ true = le-leb (length (now_of ws)) 64 (subst (λ n. n ≤ 64) (sym (length-map ws (λ w. w.now))) few) in
      ap Some (sym (append-nil xs)) ∙ sym (ap (λ r. option_map (λ more. xs ++ more) (each_in read (now_of r))) (drop_all i ws end)) ∙ h ∙ sym (ap (λ b. if b then each_in read (now_of ws) else None) within)
