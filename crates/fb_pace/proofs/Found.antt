-- The bucket of a peer, by its place.
use Rattle.std.proofs.Common.{arith, ◌≡◌, ◌⊎◌, inl, inr, ℕ, suc, ◌+◌, true, false, List, [], ◌∷◌, None, Some, refl, sym, ◌∙◌, ap, subst, get_or}
use Rattle.std.specs.Prelude.{slice_set}
use Rattle.std.specs.List.{position_from}
use Rattle.std.proofs.lemmas.Bool.{cases_Bool, cond-true, cond-false}
use Rattle.fb_pace.specs.declared.buckets.Paced.{Paced}
use Rattle.fb_pace.specs.Bucket.{after}
use Rattle.fb_pace.specs.Buckets.{after_ask, bucket_of, has_number, with_bucket}

some_same : {A : Type 0} (x y : A) → Some x ≡ Some y → x ≡ y
some_same x y h = cc

none_some : {A : Type 0} (x : A) → None ≡ Some x → ⊥
none_some x h = cc

some_none : {A : Type 0} (x : A) → Some x ≡ None → ⊥
some_none x h = cc

-- at the place of a peer stands its bucket, which alone changes
pub record IsAt (number now : ℕ) (peers : List Paced) (place : ℕ) (default : Paced) : Type 0 where
  pub bucket : bucket_of number peers ≡ Some (get_or peers place default).bucket
  pub changed : slice_set peers place (with_bucket (get_or peers place default) (after (get_or peers place default).bucket now)) ≡ after_ask number now peers

-- so it is, from some place on
pub found : (number now i : ℕ) (peers : List Paced) (k : ℕ) (default : Paced) → position_from (has_number number) i peers ≡ Some k
    → (j : ℕ) × (k ≡ i + j) × IsAt number now peers j default
found number now i [] k default h = absurd (none_some k h)
found number now i (x ∷ xs) k default h = choose (cases_Bool (has_number number x)) (λ e. found number now (i + 1) xs k default e)
  where
    choose : (has_number number x ≡ true) ⊎ (has_number number x ≡ false)
        → (position_from (has_number number) (i + 1) xs ≡ Some k → (j : ℕ) × (k ≡ i + 1 + j) × IsAt number now xs j default)
        → (j : ℕ) × (k ≡ i + j) × IsAt number now (x ∷ xs) j default
    choose (inl right) rest =
        let here : i ≡ k = some_same i k (sym (cond-true (has_number number x) (Some i) (position_from (has_number number) (i + 1) xs) right) ∙ h) in (
          0,
          omega (arith, here),
          record {
            bucket = cond-true (has_number number x) (Some x.bucket) (bucket_of number xs) right;
            changed = sym (cond-true (has_number number x) (with_bucket x (after x.bucket now) ∷ xs) (x ∷ after_ask number now xs) right);
          },
        )
    choose (inr wrong) rest =
        let at = rest (sym (cond-false (has_number number x) (Some i) (position_from (has_number number) (i + 1) xs) wrong) ∙ h) in (
          suc at.0,
          omega (arith, at.1),
          record {
            bucket = cond-false (has_number number x) (Some x.bucket) (bucket_of number xs) wrong ∙ at.2.bucket;
            changed = ap (λ (ps : List Paced). x ∷ ps) at.2.changed
                ∙ sym (cond-false (has_number number x) (with_bucket x (after x.bucket now) ∷ xs) (x ∷ after_ask number now xs) wrong);
          },
        )

-- at the place that was found
pub found_there : (number now : ℕ) (peers : List Paced) (k : ℕ) (default : Paced) → position_from (has_number number) 0 peers ≡ Some k → IsAt number now peers k default
found_there number now peers k default h =
    let at = found number now 0 peers k default h in
    let place : at.0 ≡ k = omega (arith, at.1) in
    subst (λ (j : ℕ). IsAt number now peers j default) place at.2

-- a peer that is not there has no bucket, and none changes
pub missing : (number now i : ℕ) (peers : List Paced) → position_from (has_number number) i peers ≡ None
    → (bucket_of number peers ≡ None) × (after_ask number now peers ≡ peers)
missing number now i [] h = (refl, refl)
missing number now i (x ∷ xs) h = choose (cases_Bool (has_number number x)) (λ e. missing number now (i + 1) xs e)
  where
    choose : (has_number number x ≡ true) ⊎ (has_number number x ≡ false)
        → (position_from (has_number number) (i + 1) xs ≡ None → (bucket_of number xs ≡ None) × (after_ask number now xs ≡ xs))
        → (bucket_of number (x ∷ xs) ≡ None) × (after_ask number now (x ∷ xs) ≡ x ∷ xs)
    choose (inl right) rest = absurd (some_none i (sym (cond-true (has_number number x) (Some i) (position_from (has_number number) (i + 1) xs) right) ∙ h))
    choose (inr wrong) rest =
        let none = rest (sym (cond-false (has_number number x) (Some i) (position_from (has_number number) (i + 1) xs) wrong) ∙ h) in (
          cond-false (has_number number x) (Some x.bucket) (bucket_of number xs) wrong ∙ none.0,
          cond-false (has_number number x) (with_bucket x (after x.bucket now) ∷ xs) (x ∷ after_ask number now xs) wrong ∙ ap (λ (ps : List Paced). x ∷ ps) none.1,
        )
