-- Counters over many lives.
use Rattle.std.proofs.Common.{ℕ, ◌<◌, ◌≤◌, List, [], ◌∷◌, ◌++◌, arith}
use Rattle.std.specs.List.{AllByRecursion}
use Rattle.fb_keys.specs.State.{Lives}

all_weaker : {A : Type 0} (P Q : A → Type 0) → ((x : A) → P x → Q x) → (xs : List A) → AllByRecursion P xs → AllByRecursion Q xs
all_weaker P Q f [] h = tt
all_weaker P Q f (x ∷ xs) h = (f x h.0, all_weaker P Q f xs h.1)

-- no counter of a life lies below what the file held before
later : (before : List (List ℕ)) (held : ℕ) (used : List ℕ) (after : ℕ) → Lives held (before ++ used ∷ []) after → AllByRecursion (λ counter. held ≤ counter) used
later [] held used after h = h.1.from
later (life ∷ lives) held used after h =
    let grows = h.1.grows in
    all_weaker (λ counter. h.0 ≤ counter) (λ counter. held ≤ counter) (λ counter le. omega (arith, le, grows)) used (later lives h.0 used after h.2)

pub growing : (held after : ℕ) (before : List (List ℕ)) (used : List ℕ) → Lives held (before ++ used ∷ []) after
    → AllByRecursion (λ life. AllByRecursion (λ old. AllByRecursion (λ counter. old < counter) used) life) before
growing held after [] used h = tt
growing held after (life ∷ lives) used h =
    let last = later lives h.0 used after h.2 in (
      all_weaker (λ old. old < h.0) (λ old. AllByRecursion (λ counter. old < counter) used)
          (λ old less. all_weaker (λ counter. h.0 ≤ counter) (λ counter. old < counter) (λ counter le. omega (arith, less, le)) used last) life h.1.below,
      growing h.0 after lives used h.2,
    )
