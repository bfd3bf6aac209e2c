-- Lists of items stop at the same token whatever stands behind it.
use Rattle.std.proofs.Common.{◌≡◌, ℕ, zero, suc, ◌<◌, ◌≤◌, Bool, true, false, List, [], ◌∷◌, length, Ok, refl, subst, arith, inr}
use Rattle.fb_words.specs.declared.mark.Mark.{Mark}
use Rattle.fb_model.specs.Tokens.{Token}
use Rattle.fb_model.specs.Productions.{Gram}
use Rattle.fb_read.specs.Reading.{Read, next_is, after, many_step, many_at, while_step, while_at, separated_step, separated_at, items_at, all_at, list_at, closed_at, section_at}
use Rattle.fb_read.proofs.Readers.{Meets, Sound, Shorter}
use Rattle.fb_read.proofs.Steady.{Same, here, there, Within, Goes, Steady, within_more, within_then, past, goes_then, SeesFirst, same_next, steady_then, steady_done, steady_if, steady_expect}

-- Something is taken by each tree that is read.
abbrev pub Shrinks : {A : Type 0} → Read A → Type 0
Shrinks {A} r = (ts : List Token) (x : A) (rest : List Token) → r ts ≡ Ok (x, rest) → length rest < length ts

pub shrinks_of : {A : Type 0} (G : Gram A) (r : Read A) → Sound G r → Shorter G → Shrinks r
shrinks_of G r sound short ts x rest e = short ts x rest (subst (λ z. Meets (G ts) z) e (sound ts))

some_first : {t : Token} {q q' ts us : List Token} → Same t q q' ts us → 0 < length ts
some_first here = omega arith
some_first (there s) = omega arith

some_second : {t : Token} {q q' ts us : List Token} → Same t q q' ts us → 0 < length us
some_second here = omega arith
some_second (there s) = omega arith

after_less : (ts : List Token) → length (after ts) ≤ length ts
after_less [] = omega arith
after_less (t ∷ ts) = omega arith

-- no more is left than was there
abbrev Bounded : {A : Type 0} → Read A → Type 0
Bounded r = (ts : List Token) → Within (length ts) (r ts)

-- texts of at most so many tokens are read alike
abbrev Alike : {A : Type 0} → ℕ → ℕ → Read A → Read A → Type 0
Alike n n' r r' = (t : Token) (q q' ts us : List Token) → length ts ≤ n → length us ≤ n' → Same t q q' ts us → Goes t q q' (r ts) (r' us)

module _ {A : Type 0} (item : Read A) (steady : Steady item) (shrinks : Shrinks item) where
  many_turn_within : (others : Read (List A)) → Bounded others → (ts : List Token) (b : Bool) → Within (length ts) (many_step item others b ts)
  many_turn_within others w ts true = omega arith
  many_turn_within others w ts false = within_then (length ts) _ (item ts) (steady.bounded ts) (λ x mid le. within_then (length ts) _ (others mid) (within_more (length mid) (length ts) (others mid) le (w mid)) (λ xs rest le. le))

  many_within : (close : Mark) (n : ℕ) → Bounded (many_at close item n)
  unfolding many_at
  many_within close zero ts = omega arith
  many_within close (suc n) ts = many_turn_within (many_at close item n) (many_within close n) ts (next_is close ts)

  many_turn_alike : (n n' : ℕ) (others others' : Read (List A)) → Bounded others → Alike n n' others others' → (b : Bool) → Alike (suc n) (suc n') (many_step item others b) (many_step item others' b)
  many_turn_alike n n' others others' w h true t q q' ts us le le' s = inr (us, s, refl)
  many_turn_alike n n' others others' w h false t q q' ts us le le' s =
      goes_then t q q' _ _ (item ts) (item us) (steady.local t q q' ts us s)
      (λ x rest c. within_then (length q) _ (others rest) (within_more (length rest) (length q) (others rest) c (w rest)) (λ xs end d. d))
      (λ x rest rest' e e' s'.
      let a = shrinks ts x rest e in
      let a' = shrinks us x rest' e' in
      goes_then t q q' _ _ (others rest) (others' rest') (h t q q' rest rest' (omega arith) (omega arith) s') (λ xs end d. d) (λ xs end end' d d' s''. inr (end', s'', refl)))

  many_alike : (close : Mark) (n n' : ℕ) → Alike n n' (many_at close item n) (many_at close item n')
  unfolding many_at
  many_alike close zero n' t q q' ts us le le' s = let a = some_first s in absurd (omega arith)
  many_alike close (suc n) zero t q q' ts us le le' s = let a = some_second s in absurd (omega arith)
  many_alike close (suc n) (suc n') t q q' ts us le le' s =
      subst (λ b. Goes t q q' (many_step item (many_at close item n) (next_is close ts) ts) (many_step item (many_at close item n') b us)) (same_next close s)
      (many_turn_alike n n' (many_at close item n) (many_at close item n') (many_within close n) (many_alike close n n') (next_is close ts) t q q' ts us le le' s)

  pub steady_items : (close : Mark) → Steady (items_at close item)
  steady_items close = record { bounded = λ ts. many_within close (length ts) ts; local = λ t q q' ts us s. many_alike close (length ts) (length us) t q q' ts us (omega arith) (omega arith) s }

  while_turn_within : (others : Read (List A)) → Bounded others → (ts : List Token) (b : Bool) → Within (length ts) (while_step item others b ts)
  while_turn_within others w ts false = many_turn_within others w ts true
  while_turn_within others w ts true = many_turn_within others w ts false

  while_within : (begins : List Token → Bool) (n : ℕ) → Bounded (while_at begins item n)
  unfolding while_at
  while_within begins zero ts = omega arith
  while_within begins (suc n) ts = while_turn_within (while_at begins item n) (while_within begins n) ts (begins ts)

  while_turn_alike : (n n' : ℕ) (others others' : Read (List A)) → Bounded others → Alike n n' others others' → (b : Bool) → Alike (suc n) (suc n') (while_step item others b) (while_step item others' b)
  while_turn_alike n n' others others' w h false = many_turn_alike n n' others others' w h true
  while_turn_alike n n' others others' w h true = many_turn_alike n n' others others' w h false

  while_alike : (begins : List Token → Bool) → SeesFirst begins → (n n' : ℕ) → Alike n n' (while_at begins item n) (while_at begins item n')
  unfolding while_at
  while_alike begins sees zero n' t q q' ts us le le' s = let a = some_first s in absurd (omega arith)
  while_alike begins sees (suc n) zero t q q' ts us le le' s = let a = some_second s in absurd (omega arith)
  while_alike begins sees (suc n) (suc n') t q q' ts us le le' s =
      subst (λ b. Goes t q q' (while_step item (while_at begins item n) (begins ts) ts) (while_step item (while_at begins item n') b us)) (sees t q q' ts us s)
      (while_turn_alike n n' (while_at begins item n) (while_at begins item n') (while_within begins n) (while_alike begins sees n n') (begins ts) t q q' ts us le le' s)

  pub steady_all : (begins : List Token → Bool) → SeesFirst begins → Steady (all_at begins item)
  steady_all begins sees = record { bounded = λ ts. while_within begins (length ts) ts; local = λ t q q' ts us s. while_alike begins sees (length ts) (length us) t q q' ts us (omega arith) (omega arith) s }

  separated_turn_within : (n : ℕ) (others : Read (List A)) → Bounded others → (x : A) (mid : List Token) → length mid ≤ n → (b : Bool) → Within n (separated_step others x b mid)
  separated_turn_within n others w x mid le true =
      let a = after_less mid in
      within_then n _ (others (after mid)) (within_more (length (after mid)) n (others (after mid)) (omega arith) (w (after mid))) (λ xs rest d. d)
  separated_turn_within n others w x mid le false = le

  separated_within : (k : Mark) (n : ℕ) → Bounded (separated_at k item n)
  unfolding separated_at
  separated_within k zero ts = omega arith
  separated_within k (suc n) ts = within_then (length ts) _ (item ts) (steady.bounded ts) (λ x mid le. separated_turn_within (length ts) (separated_at k item n) (separated_within k n) x mid le (next_is k mid))

  after_alike : (n n' : ℕ) (others others' : Read (List A)) → Bounded others → Alike n n' others others' → (t : Token) (q q' ts us : List Token) → length ts ≤ n → length us ≤ n' → Same t q q' ts us → Goes t q q' (others (after ts)) (others' (after us))
  after_alike n n' others others' w h t q q' ts us le le' here = past t q q' (others q) (others' q') (w q)
  after_alike n n' others others' w h t q q' ts us le le' (there {ts = ts'} {us = us'} s) = h t q q' ts' us' (omega arith) (omega arith) s

  separated_turn_alike : (n n' : ℕ) (others others' : Read (List A)) → Bounded others → Alike n n' others others' → (x : A) (b : Bool) → Alike n n' (separated_step others x b) (separated_step others' x b)
  separated_turn_alike n n' others others' w h x true t q q' ts us le le' s =
      goes_then t q q' _ _ (others (after ts)) (others' (after us)) (after_alike n n' others others' w h t q q' ts us le le' s) (λ xs end d. d) (λ xs end end' d d' s'. inr (end', s', refl))
  separated_turn_alike n n' others others' w h x false t q q' ts us le le' s = inr (us, s, refl)

  separated_alike : (k : Mark) (n n' : ℕ) → Alike n n' (separated_at k item n) (separated_at k item n')
  unfolding separated_at
  separated_alike k zero n' t q q' ts us le le' s = let a = some_first s in absurd (omega arith)
  separated_alike k (suc n) zero t q q' ts us le le' s = let a = some_second s in absurd (omega arith)
  separated_alike k (suc n) (suc n') t q q' ts us le le' s =
      let others = separated_at k item n in
      let others' = separated_at k item n' in
      goes_then t q q' _ _ (item ts) (item us) (steady.local t q q' ts us s)
      (λ x rest c. separated_turn_within (length q) others (separated_within k n) x rest c (next_is k rest))
      (λ x rest rest' e e' s'.
      let a = shrinks ts x rest e in
      let a' = shrinks us x rest' e' in
      subst (λ b. Goes t q q' (separated_step others x (next_is k rest) rest) (separated_step others' x b rest')) (same_next k s')
      (separated_turn_alike n n' others others' (separated_within k n) (separated_alike k n n') x (next_is k rest) t q q' rest rest' (omega arith) (omega arith) s'))

  pub steady_list : (k : Mark) → Steady (list_at k item)
  steady_list k = record { bounded = λ ts. separated_within k (length ts) ts; local = λ t q q' ts us s. separated_alike k (length ts) (length us) t q q' ts us (omega arith) (omega arith) s }

  pub steady_closed : (close : Mark) → Steady (closed_at close item)
  unfolding closed_at
  steady_closed close = steady_then (items_at close item) _ (steady_items close) (λ xs. steady_expect close _ (steady_done xs))

  pub steady_section : (opening closing : Mark) → Steady (section_at opening closing item)
  unfolding section_at
  steady_section opening closing = steady_if opening (closed_at closing item) (λ ts. Ok ([], ts)) (steady_closed closing) (steady_done [])
