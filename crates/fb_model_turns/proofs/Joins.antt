-- Sums, and largest numbers, of what is emitted together.
use Rattle.std.proofs.Common.{◌≡◌, ℕ, ◌≤◌, List, [], ◌∷◌, ◌++◌, refl, sym, ◌∙◌, ap, arith}
use Rattle.std.specs.List.{sum_by, AllByRecursion}
use Rattle.std.proofs.lemmas.List.Sums.{sum_by-cons}
use Rattle.fb_model.specs.Names.{Name, Place}
use Rattle.fb_model.specs.Certificates.{reached}
use Rattle.fb_model.proofs.Charting.{reached-append}
use Rattle.fb_model_turns.specs.Turns.{Counts, Join, added, largest, joined, caused}

-- what the laws need of sums and of largest numbers
pub record IsJoin (join : Join) : Type 0 where
  pub none : (a : ℕ) → join 0 a ≡ a
  pub alone : (a : ℕ) → join a 0 ≡ a
  pub assoc : (a b c : ℕ) → join (join a b) c ≡ join a (join b c)
  pub more : (a b c d : ℕ) → a ≤ c → b ≤ d → join a b ≤ join c d
  pub left : (a b : ℕ) → a ≤ join a b
  pub right : (a b : ℕ) → b ≤ join a b

pub added_joins : IsJoin added
added_joins =
    record {
      none = λ a. omega arith;
      alone = λ a. omega arith;
      assoc = λ a b c. omega arith;
      more = λ a b c d h k. omega (arith, h, k);
      left = λ a b. omega arith;
      right = λ a b. omega arith;
    }

pub largest_joins : IsJoin largest
largest_joins =
    record {
      none = λ a. omega arith;
      alone = λ a. omega arith;
      assoc = λ a b c. omega arith;
      more = λ a b c d h k. omega (arith, h, k);
      left = λ a b. omega arith;
      right = λ a b. omega arith;
    }

-- what is added is a sum
pub added_sum : (weight : Place → ℕ) (ps : List Place) → joined added weight ps ≡ sum_by weight ps
added_sum weight [] = refl
added_sum weight (p ∷ ps) = omega (arith, sum_by-cons weight p ps, added_sum weight ps)

-- the largest is within the sum
pub largest_le : (weight : Place → ℕ) (ps : List Place) → joined largest weight ps ≤ joined added weight ps
largest_le weight [] = omega arith
largest_le weight (p ∷ ps) = omega (arith, largest_le weight ps)

module _ (join : Join) (is : IsJoin join) where
  pub joined-append : {A : Type 0} (weight : A → ℕ) (xs ys : List A) → joined join weight (xs ++ ys) ≡ join (joined join weight xs) (joined join weight ys)
  joined-append weight [] ys = sym (is.none (joined join weight ys))
  joined-append weight (x ∷ xs) ys = ap (join (weight x)) (joined-append weight xs ys) ∙ sym (is.assoc (weight x) (joined join weight xs) (joined join weight ys))

  pub caused-append : (counts : Counts) (targets : Name → List Place) (xs ys : List Name) → caused join counts targets (xs ++ ys) ≡ join (caused join counts targets xs) (caused join counts targets ys)
  caused-append counts targets xs ys = ap (joined join counts.weight) (reached-append targets xs ys) ∙ joined-append counts.weight (reached targets xs) (reached targets ys)

  -- each of them is within
  pub each_within : (weight : Place → ℕ) (ps : List Place) (b : ℕ) → joined join weight ps ≤ b → AllByRecursion (λ p. weight p ≤ b) ps
  each_within weight [] b h = tt
  each_within weight (p ∷ ps) b h =
      (omega (arith, h, is.left (weight p) (joined join weight ps)), each_within weight ps b (omega (arith, h, is.right (weight p) (joined join weight ps))))
