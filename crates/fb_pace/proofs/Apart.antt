-- No peer costs another one anything.
use Rattle.std.proofs.Common.{◌≡◌, ℕ, Bool, true, false, cond, List, [], ◌∷◌, None, Some, refl, sym, ◌∙◌, ap, subst}
use Rattle.std.specs.Prelude.{◌==◌, Option, option_map, map}
use Rattle.std.specs.List.{AllByRecursion}
use Rattle.std.proofs.lemmas.Bool.{cond-true, cond-false, eqb-true}
use Rattle.fb_pace.specs.declared.bucket.Bucket.{Bucket}
use Rattle.fb_pace.specs.declared.buckets.Paced.{Paced}
use Rattle.fb_pace.specs.Rates.{AreInOrder, IsWithin}
use Rattle.fb_pace.specs.Bucket.{after}
use Rattle.fb_pace.specs.Buckets.{Ask, after_ask, answers_by, answers_for, answers_to_all, bucket_of, has_number, moments_of, passes_by, with_bucket}
use Rattle.fb_pace.proofs.Keeping.{keeper_passes}

-- a bucket once its own peer has asked
own_bucket : (number now : ℕ) (peers : List Paced) → bucket_of number (after_ask number now peers) ≡ option_map (λ b. after b now) (bucket_of number peers)
own_bucket number now [] = refl
own_bucket number now (x ∷ xs) = choose (has_number number x) refl (own_bucket number now xs)
  where
    choose : (p : Bool) → has_number number x ≡ p → bucket_of number (after_ask number now xs) ≡ option_map (λ b. after b now) (bucket_of number xs)
        → bucket_of number (cond p (with_bucket x (after x.bucket now) ∷ xs) (x ∷ after_ask number now xs))
        ≡ option_map (λ b. after b now) (cond p (Some x.bucket) (bucket_of number xs))
    choose true is rest = cond-true (has_number number x) (Some (after x.bucket now)) (bucket_of number xs) is
    choose false is rest = cond-false (has_number number x) (Some x.bucket) (bucket_of number (after_ask number now xs)) is ∙ rest

-- a bucket once another peer has asked
other_bucket : (number other now : ℕ) (peers : List Paced) → (other == number) ≡ false → bucket_of number (after_ask other now peers) ≡ bucket_of number peers
other_bucket number other now [] apart = refl
other_bucket number other now (x ∷ xs) apart = choose (has_number other x) refl (other_bucket number other now xs apart)
  where
    choose : (p : Bool) → has_number other x ≡ p → bucket_of number (after_ask other now xs) ≡ bucket_of number xs
        → bucket_of number (cond p (with_bucket x (after x.bucket now) ∷ xs) (x ∷ after_ask other now xs)) ≡ cond (has_number number x) (Some x.bucket) (bucket_of number xs)
    choose true is rest =
        let wrong : has_number number x ≡ false = ap (λ (n : ℕ). n == number) (eqb-true x.number other is) ∙ apart in
        cond-false (has_number number x) (Some (after x.bucket now)) (bucket_of number xs) wrong
        ∙ sym (cond-false (has_number number x) (Some x.bucket) (bucket_of number xs) wrong)
    choose false is rest = ap (λ (o : Option Bucket). cond (has_number number x) (Some x.bucket) o) rest

nothing : (o : Option Bucket) → [] ≡ answers_by o []
nothing None = refl
nothing (Some b) = refl

one_more : (o : Option Bucket) (now : ℕ) (ts : List ℕ) → passes_by o now ∷ answers_by (option_map (λ b. after b now) o) ts ≡ answers_by o (now ∷ ts)
one_more None now ts = refl
one_more (Some b) now ts = refl

pub alone : (peers : List Paced) (asks : List Ask) (number : ℕ) → answers_for number asks (answers_to_all peers asks) ≡ answers_by (bucket_of number peers) (moments_of number asks)
alone peers [] number = nothing (bucket_of number peers)
alone peers (a ∷ more) number = choose (a.number == number) refl (alone (after_ask a.number a.moment peers) more number)
  where
    rest : List Bool
    rest = answers_for number more (answers_to_all (after_ask a.number a.moment peers) more)

    choose : (p : Bool) → (a.number == number) ≡ p → rest ≡ answers_by (bucket_of number (after_ask a.number a.moment peers)) (moments_of number more)
        → cond p (passes_by (bucket_of a.number peers) a.moment ∷ rest) rest ≡ answers_by (bucket_of number peers) (cond p (a.moment ∷ moments_of number more) (moments_of number more))
    choose true is same =
        let one : a.number ≡ number = eqb-true a.number number is in
        let own : bucket_of number (after_ask a.number a.moment peers) ≡ option_map (λ b. after b a.moment) (bucket_of number peers) =
        ap (λ (n : ℕ). bucket_of number (after_ask n a.moment peers)) one ∙ own_bucket number a.moment peers in
        ap (λ (n : ℕ). passes_by (bucket_of n peers) a.moment ∷ rest) one
        ∙ ap (λ (bs : List Bool). passes_by (bucket_of number peers) a.moment ∷ bs) (same ∙ ap (λ (o : Option Bucket). answers_by o (moments_of number more)) own)
        ∙ one_more (bucket_of number peers) a.moment (moments_of number more)
    choose false is same = same ∙ ap (λ (o : Option Bucket). answers_by o (moments_of number more)) (other_bucket number a.number a.moment peers is)

all_yes : (ts : List ℕ) → AllByRecursion (λ answer. answer ≡ true) (map (λ _. true) ts)
all_yes [] = tt
all_yes (t ∷ ts) = (refl, all_yes ts)

pub loses_nothing : (peers : List Paced) (asks : List Ask) (number : ℕ) (b : Bucket) → bucket_of number peers ≡ Some b → b.due ≡ 0 → AreInOrder (moments_of number asks)
    → IsWithin b.rate (moments_of number asks) → AllByRecursion (λ answer. answer ≡ true) (answers_for number asks (answers_to_all peers asks))
loses_nothing peers asks number b there new order within =
    subst (λ (bs : List Bool). AllByRecursion (λ answer. answer ≡ true) bs) (sym (alone peers asks number ∙ ap (λ (o : Option Bucket). answers_by o (moments_of number asks)) there))
    (keeper_passes b (moments_of number asks) new order within)

pub loses_nothing_without : (peers : List Paced) (asks : List Ask) (number : ℕ) → bucket_of number peers ≡ None
    → AllByRecursion (λ answer. answer ≡ true) (answers_for number asks (answers_to_all peers asks))
loses_nothing_without peers asks number none =
    subst (λ (bs : List Bool). AllByRecursion (λ answer. answer ≡ true) bs) (sym (alone peers asks number ∙ ap (λ (o : Option Bucket). answers_by o (moments_of number asks)) none))
    (all_yes (moments_of number asks))
