-- When one type widens to another.
use Rattle.std.proofs.Common.{◌≡◌, Bool, true, false, true≢false, sym, ap, refl, ◌∙◌}
use Rattle.std.specs.Prelude.{◌&&◌, ◌||◌, int_le}
use Rattle.fb_words.specs.declared.elem_type.ElemType.{ElemType}
use Rattle.fb_words.specs.declared.elem_type.ElemType.TheVariants as t
use Rattle.fb_model.specs.Spelling.{is_integer}
use Rattle.fb_model.specs.Values.{lowest, highest}
use Rattle.fb_model.specs.TextTyping.{same_type, widens}

pub widens_same : (a b : ElemType) → same_type a b ≡ true → widens a b ≡ true
unfolding widens
widens_same a b h = ap (λ c. c || (is_integer a && (is_integer b && (int_le (lowest b) (lowest a) && int_le (highest a) (highest b))))) h

pub widens_by : (a b : ElemType) → same_type a b ≡ false → widens a b ≡ (is_integer a && (is_integer b && (int_le (lowest b) (lowest a) && int_le (highest a) (highest b))))
unfolding widens
widens_by a b h = ap (λ c. c || (is_integer a && (is_integer b && (int_le (lowest b) (lowest a) && int_le (highest a) (highest b))))) h

pub first_not : (a b c : Bool) → a ≡ false → (a && (b && c)) ≡ false
first_not a b c h = ap (λ x. x && (b && c)) h

pub second_not : (a b c : Bool) → b ≡ false → (a && (b && c)) ≡ false
second_not true b c h = ap (λ x. x && c) h
second_not false b c h = refl

pub both_are : (a b c : Bool) → a ≡ true → b ≡ true → (a && (b && c)) ≡ c
both_are a b c h g = ap (λ x. x && (b && c)) h ∙ ap (λ x. x && c) g

-- of two types that widen to each other both are one
pub one_type : (a b : ElemType) → widens a b ≡ true → widens b a ≡ true → a ≡ b
unfolding widens
one_type t.Bool t.Bool h k = refl
one_type t.Bool t.Sint h k = absurd (true≢false (sym h))
one_type t.Bool t.Int h k = absurd (true≢false (sym h))
one_type t.Bool t.Dint h k = absurd (true≢false (sym h))
one_type t.Bool t.Lint h k = absurd (true≢false (sym h))
one_type t.Bool t.Usint h k = absurd (true≢false (sym h))
one_type t.Bool t.Uint h k = absurd (true≢false (sym h))
one_type t.Bool t.Udint h k = absurd (true≢false (sym h))
one_type t.Bool t.Time h k = absurd (true≢false (sym h))
one_type t.Sint t.Bool h k = absurd (true≢false (sym h))
one_type t.Sint t.Sint h k = refl
one_type t.Sint t.Int h k = absurd (true≢false (sym k))
one_type t.Sint t.Dint h k = absurd (true≢false (sym k))
one_type t.Sint t.Lint h k = absurd (true≢false (sym k))
one_type t.Sint t.Usint h k = absurd (true≢false (sym h))
one_type t.Sint t.Uint h k = absurd (true≢false (sym h))
one_type t.Sint t.Udint h k = absurd (true≢false (sym h))
one_type t.Sint t.Time h k = absurd (true≢false (sym h))
one_type t.Int t.Bool h k = absurd (true≢false (sym h))
one_type t.Int t.Sint h k = absurd (true≢false (sym h))
one_type t.Int t.Int h k = refl
one_type t.Int t.Dint h k = absurd (true≢false (sym k))
one_type t.Int t.Lint h k = absurd (true≢false (sym k))
one_type t.Int t.Usint h k = absurd (true≢false (sym h))
one_type t.Int t.Uint h k = absurd (true≢false (sym h))
one_type t.Int t.Udint h k = absurd (true≢false (sym h))
one_type t.Int t.Time h k = absurd (true≢false (sym h))
one_type t.Dint t.Bool h k = absurd (true≢false (sym h))
one_type t.Dint t.Sint h k = absurd (true≢false (sym h))
one_type t.Dint t.Int h k = absurd (true≢false (sym h))
one_type t.Dint t.Dint h k = refl
one_type t.Dint t.Lint h k = absurd (true≢false (sym k))
one_type t.Dint t.Usint h k = absurd (true≢false (sym h))
one_type t.Dint t.Uint h k = absurd (true≢false (sym h))
one_type t.Dint t.Udint h k = absurd (true≢false (sym h))
one_type t.Dint t.Time h k = absurd (true≢false (sym h))
one_type t.Lint t.Bool h k = absurd (true≢false (sym h))
one_type t.Lint t.Sint h k = absurd (true≢false (sym h))
one_type t.Lint t.Int h k = absurd (true≢false (sym h))
one_type t.Lint t.Dint h k = absurd (true≢false (sym h))
one_type t.Lint t.Lint h k = refl
one_type t.Lint t.Usint h k = absurd (true≢false (sym h))
one_type t.Lint t.Uint h k = absurd (true≢false (sym h))
one_type t.Lint t.Udint h k = absurd (true≢false (sym h))
one_type t.Lint t.Time h k = absurd (true≢false (sym h))
one_type t.Usint t.Bool h k = absurd (true≢false (sym h))
one_type t.Usint t.Sint h k = absurd (true≢false (sym h))
one_type t.Usint t.Int h k = absurd (true≢false (sym k))
one_type t.Usint t.Dint h k = absurd (true≢false (sym k))
one_type t.Usint t.Lint h k = absurd (true≢false (sym k))
one_type t.Usint t.Usint h k = refl
one_type t.Usint t.Uint h k = absurd (true≢false (sym k))
one_type t.Usint t.Udint h k = absurd (true≢false (sym k))
one_type t.Usint t.Time h k = absurd (true≢false (sym h))
one_type t.Uint t.Bool h k = absurd (true≢false (sym h))
one_type t.Uint t.Sint h k = absurd (true≢false (sym h))
one_type t.Uint t.Int h k = absurd (true≢false (sym h))
one_type t.Uint t.Dint h k = absurd (true≢false (sym k))
one_type t.Uint t.Lint h k = absurd (true≢false (sym k))
one_type t.Uint t.Usint h k = absurd (true≢false (sym h))
one_type t.Uint t.Uint h k = refl
one_type t.Uint t.Udint h k = absurd (true≢false (sym k))
one_type t.Uint t.Time h k = absurd (true≢false (sym h))
one_type t.Udint t.Bool h k = absurd (true≢false (sym h))
one_type t.Udint t.Sint h k = absurd (true≢false (sym h))
one_type t.Udint t.Int h k = absurd (true≢false (sym h))
one_type t.Udint t.Dint h k = absurd (true≢false (sym h))
one_type t.Udint t.Lint h k = absurd (true≢false (sym k))
one_type t.Udint t.Usint h k = absurd (true≢false (sym h))
one_type t.Udint t.Uint h k = absurd (true≢false (sym h))
one_type t.Udint t.Udint h k = refl
one_type t.Udint t.Time h k = absurd (true≢false (sym h))
one_type t.Time t.Bool h k = absurd (true≢false (sym h))
one_type t.Time t.Sint h k = absurd (true≢false (sym h))
one_type t.Time t.Int h k = absurd (true≢false (sym h))
one_type t.Time t.Dint h k = absurd (true≢false (sym h))
one_type t.Time t.Lint h k = absurd (true≢false (sym h))
one_type t.Time t.Usint h k = absurd (true≢false (sym h))
one_type t.Time t.Uint h k = absurd (true≢false (sym h))
one_type t.Time t.Udint h k = absurd (true≢false (sym h))
one_type t.Time t.Time h k = refl
