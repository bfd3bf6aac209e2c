-- Names of conversions, taken apart from the left.
use Rattle.std.proofs.Common.{◌≡◌, ◌≢◌, ℕ, Bool, true, false, cond, List, [], ◌∷◌, ◌++◌, Option, Some, refl, sym, ap, ◌∙◌}
use Rattle.std.specs.Prelude.{codes, if◌then◌else◌}
use Rattle.std.specs.Str.{bytes_eq}
use Rattle.std.proofs.lemmas.Slice.Eq.{bytes_eq-Decides}
use Rattle.fb_words.specs.declared.elem_type.TheConstants.{TYPES}
use Rattle.fb_words.specs.declared.operator.Operation.{Operation}
use Rattle.fb_words.specs.declared.operator.Operation.TheVariants.{Abs, Min, Max, Limit}
use Rattle.fb_model.specs.Names.{Name}
use Rattle.fb_model.specs.TextTyping.{conversion_from, called}

bool_false : (b : Bool) → (b ≡ true → ⊥) → b ≡ false
bool_false true h = absurd (h refl)
bool_false false h = refl

pub grouped_left : (p q r : List ℕ) → p ++ (q ++ r) ≡ (p ++ q) ++ r
grouped_left [] q r = refl
grouped_left (x ∷ p) q r = ap (λ l. x ∷ l) (grouped_left p q r)

-- what does not begin so is no such text
pub no_front : (s p q : List ℕ) → ((rest : List ℕ) → s ≢ p ++ rest) → false ≡ bytes_eq s (p ++ q)
no_front s p q h = sym (bool_false (bytes_eq s (p ++ q)) (λ e. h q ((bytes_eq-Decides s (p ++ q)).0 e)))

same_tails : (p q r : List ℕ) → p ++ q ≡ p ++ r → q ≡ r
same_tails [] q r e = e
same_tails (x ∷ p) q r e = same_tails p q r cc

-- texts that begin alike are the same where their tails are
pub tails_tell : (s p q r : List ℕ) → s ≡ p ++ q → bytes_eq q r ≡ bytes_eq s (p ++ r)
tails_tell s p q r e = by (bytes_eq q r) refl where
  by : (b : Bool) → bytes_eq q r ≡ b → b ≡ bytes_eq s (p ++ r)
  by true h = sym ((bytes_eq-Decides s (p ++ r)).1 (e ∙ ap (λ x. p ++ x) ((bytes_eq-Decides q r).0 h)))
  by false h = sym (bool_false (bytes_eq s (p ++ r)) (λ f. let g : q ≡ r = same_tails p q r (sym e ∙ (bytes_eq-Decides s (p ++ r)).0 f) in let t = (bytes_eq-Decides q r).1 g in cc))

-- ---- functions by their names

after_max : Name → Option Operation
after_max x = if bytes_eq x (codes "LIMIT") then Some Limit else conversion_from x TYPES

after_min : Name → Option Operation
after_min x = if bytes_eq x (codes "MAX") then Some Max else after_max x

after_abs : Name → Option Operation
after_abs x = if bytes_eq x (codes "MIN") then Some Min else after_min x

pub called_abs : (x : Name) → bytes_eq x (codes "ABS") ≡ true → Some Abs ≡ called x
unfolding called after_abs after_min after_max
called_abs x h = sym (ap (λ b. cond b (Some Abs) (after_abs x)) h)

pub called_min : (x : Name) → bytes_eq x (codes "ABS") ≡ false → bytes_eq x (codes "MIN") ≡ true → Some Min ≡ called x
unfolding called after_abs after_min after_max
called_min x h₁ h = sym (ap (λ b. cond b (Some Abs) (after_abs x)) h₁ ∙ ap (λ b. cond b (Some Min) (after_min x)) h)

pub called_max : (x : Name) → bytes_eq x (codes "ABS") ≡ false → bytes_eq x (codes "MIN") ≡ false → bytes_eq x (codes "MAX") ≡ true → Some Max ≡ called x
unfolding called after_abs after_min after_max
called_max x h₁ h₂ h = sym (ap (λ b. cond b (Some Abs) (after_abs x)) h₁ ∙ ap (λ b. cond b (Some Min) (after_min x)) h₂ ∙ ap (λ b. cond b (Some Max) (after_max x)) h)

pub called_limit : (x : Name) → bytes_eq x (codes "ABS") ≡ false → bytes_eq x (codes "MIN") ≡ false → bytes_eq x (codes "MAX") ≡ false → bytes_eq x (codes "LIMIT") ≡ true → Some Limit ≡ called x
unfolding called after_abs after_min after_max
called_limit x h₁ h₂ h₃ h = sym (ap (λ b. cond b (Some Abs) (after_abs x)) h₁ ∙ ap (λ b. cond b (Some Min) (after_min x)) h₂ ∙ ap (λ b. cond b (Some Max) (after_max x)) h₃ ∙ ap (λ b. cond b (Some Limit) (conversion_from x TYPES)) h)

pub called_other : (x : Name) → bytes_eq x (codes "ABS") ≡ false → bytes_eq x (codes "MIN") ≡ false → bytes_eq x (codes "MAX") ≡ false → bytes_eq x (codes "LIMIT") ≡ false → conversion_from x TYPES ≡ called x
unfolding called after_abs after_min after_max
called_other x h₁ h₂ h₃ h = sym (ap (λ b. cond b (Some Abs) (after_abs x)) h₁ ∙ ap (λ b. cond b (Some Min) (after_min x)) h₂ ∙ ap (λ b. cond b (Some Max) (after_max x)) h₃ ∙ ap (λ b. cond b (Some Limit) (conversion_from x TYPES)) h)
