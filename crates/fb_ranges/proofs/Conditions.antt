-- Conditions of chains, a link at a time.
use Rattle.std.proofs.Common.{◌≡◌, ℕ, suc, ◌+◌, ◌-◌, ◌<◌, ◌≤◌, Bool, true, false, List, [], ◌∷◌, ◌++◌, length, map, take, get_or, None, refl, sym, ap, ◌∙◌, arith, rules}
use Rattle.std.specs.Prelude.{if◌then◌else◌}
use Rattle.std.proofs.lemmas.List.{map_push, take_more}
use Rattle.fb_words.specs.declared.elem_type.ElemType.{ElemType}
use Rattle.fb_words.specs.declared.operator.Operator.{Operator}
use Rattle.fb_words.specs.declared.operator.Operator.TheVariants as o
use Rattle.fb_words.specs.declared.operator.Operation.{Operation}
use Rattle.fb_words.specs.declared.operator.Operation.TheVariants.{Infix, Negate, Not, Abs, Min, Max, Limit, Convert}
use Rattle.fb_model.specs.TypedText.{Term, constant, read, part, single, double}
use Rattle.fb_model.specs.Clear.{Spans, is_truth, opposite, related, narrowed}
use Rattle.st_types.specs.declared.term.TypedExpr.{the_lemmas}
use Rattle.st_types.specs.declared.term.TypedLink.{TypedLink}
use Rattle.st_types.specs.Views.{joined, term_of, tail_of}
use Rattle.st_types.proofs.Chains.{joined_push}
use Rattle.fb_ranges.specs.Narrowing.{number_in, variable_in, splits}
use Rattle.fb_ranges.proofs.Sides.{operations_hide}

-- where an operation splits the condition, its operands narrow in iteration
parts_narrow : (b : Bool) (f : Operation) (a : ElemType) (e g : Term) (s : Spans) → splits b f ≡ true → narrowed (double f a e g) b s ≡ narrowed g b (narrowed e b s)
parts_narrow true (Infix o.And) a e g s h = refl
parts_narrow false (Infix o.Or) a e g s h = refl
parts_narrow false (Infix o.And) a e g s h = cc
parts_narrow true (Infix o.Or) a e g s h = cc
parts_narrow true (Infix o.Xor) a e g s h = cc
parts_narrow false (Infix o.Xor) a e g s h = cc
parts_narrow true (Infix o.Equal) a e g s h = cc
parts_narrow false (Infix o.Equal) a e g s h = cc
parts_narrow true (Infix o.NotEqual) a e g s h = cc
parts_narrow false (Infix o.NotEqual) a e g s h = cc
parts_narrow true (Infix o.Less) a e g s h = cc
parts_narrow false (Infix o.Less) a e g s h = cc
parts_narrow true (Infix o.Greater) a e g s h = cc
parts_narrow false (Infix o.Greater) a e g s h = cc
parts_narrow true (Infix o.LessEqual) a e g s h = cc
parts_narrow false (Infix o.LessEqual) a e g s h = cc
parts_narrow true (Infix o.GreaterEqual) a e g s h = cc
parts_narrow false (Infix o.GreaterEqual) a e g s h = cc
parts_narrow true (Infix o.Plus) a e g s h = cc
parts_narrow false (Infix o.Plus) a e g s h = cc
parts_narrow true (Infix o.Minus) a e g s h = cc
parts_narrow false (Infix o.Minus) a e g s h = cc
parts_narrow true (Infix o.Times) a e g s h = cc
parts_narrow false (Infix o.Times) a e g s h = cc
parts_narrow true (Infix o.Over) a e g s h = cc
parts_narrow false (Infix o.Over) a e g s h = cc
parts_narrow true (Infix o.Modulo) a e g s h = cc
parts_narrow false (Infix o.Modulo) a e g s h = cc
parts_narrow true Negate a e g s h = cc
parts_narrow false Negate a e g s h = cc
parts_narrow true Not a e g s h = cc
parts_narrow false Not a e g s h = cc
parts_narrow true Abs a e g s h = cc
parts_narrow false Abs a e g s h = cc
parts_narrow true Min a e g s h = cc
parts_narrow false Min a e g s h = cc
parts_narrow true Max a e g s h = cc
parts_narrow false Max a e g s h = cc
parts_narrow true Limit a e g s h = cc
parts_narrow false Limit a e g s h = cc
parts_narrow true (Convert from to) a e g s h = cc
parts_narrow false (Convert from to) a e g s h = cc

-- a relation with an operation on its left says nothing
related_none : (f : Operator) (e g : Term) (s : Spans) → number_in e ≡ None → variable_in e ≡ None → related f e g s ≡ s
related_none f (constant k) g s h p = cc
related_none f (read x) g s h p = cc
related_none f (part x low high i) g s h p = refl
related_none f (single h' a e) g s h p = refl
related_none f (double h' a e e') g s h p = refl

relation_none : (f : Operator) (a : ElemType) (b : Bool) (e g : Term) (s : Spans) → number_in e ≡ None → variable_in e ≡ None → (if is_truth a then s else related (if b then f else opposite f) e g s) ≡ s
relation_none f a b e g s h p = by (is_truth a) where
  by : (c : Bool) → (if c then s else related (if b then f else opposite f) e g s) ≡ s
  by true = refl
  by false = related_none (if b then f else opposite f) e g s h p

nothing_said : (b : Bool) (f : Operation) (a : ElemType) (e g : Term) (s : Spans) → number_in e ≡ None → variable_in e ≡ None → splits b f ≡ false → narrowed (double f a e g) b s ≡ s
nothing_said true (Infix o.And) a e g s h p n = cc
nothing_said false (Infix o.And) a e g s h p n = relation_none o.And a false e g s h p
nothing_said true (Infix o.Or) a e g s h p n = relation_none o.Or a true e g s h p
nothing_said false (Infix o.Or) a e g s h p n = cc
nothing_said b (Infix o.Xor) a e g s h p n = relation_none o.Xor a b e g s h p
nothing_said b (Infix o.Equal) a e g s h p n = relation_none o.Equal a b e g s h p
nothing_said b (Infix o.NotEqual) a e g s h p n = relation_none o.NotEqual a b e g s h p
nothing_said b (Infix o.Less) a e g s h p n = relation_none o.Less a b e g s h p
nothing_said b (Infix o.Greater) a e g s h p n = relation_none o.Greater a b e g s h p
nothing_said b (Infix o.LessEqual) a e g s h p n = relation_none o.LessEqual a b e g s h p
nothing_said b (Infix o.GreaterEqual) a e g s h p n = relation_none o.GreaterEqual a b e g s h p
nothing_said b (Infix o.Plus) a e g s h p n = relation_none o.Plus a b e g s h p
nothing_said b (Infix o.Minus) a e g s h p n = relation_none o.Minus a b e g s h p
nothing_said b (Infix o.Times) a e g s h p n = relation_none o.Times a b e g s h p
nothing_said b (Infix o.Over) a e g s h p n = relation_none o.Over a b e g s h p
nothing_said b (Infix o.Modulo) a e g s h p n = relation_none o.Modulo a b e g s h p
nothing_said b Negate a e g s h p n = refl
nothing_said b Not a e g s h p n = refl
nothing_said b Abs a e g s h p n = refl
nothing_said b Min a e g s h p n = refl
nothing_said b Max a e g s h p n = refl
nothing_said b Limit a e g s h p n = refl
nothing_said b (Convert from to) a e g s h p n = refl

-- ---- chains

pub tail_is : (l : TypedLink) → tail_of l ≡ (l.operation, l.of_type, term_of l.operand)
tail_is l = search (rules, the_lemmas)

front_push : (x : Term) (links : List TypedLink) (i : ℕ) (d l : TypedLink) → i < length links → l ≡ get_or links i d
    → joined x (map tail_of (take (i + 1) links)) ≡ double (tail_of l).0 (tail_of l).1 (joined x (map tail_of (take i links))) (tail_of l).2
front_push x links i d l lt e =
    ap (λ ls. joined x (map tail_of ls)) (take_more links i d lt ∙ ap (λ y. take i links ++ y ∷ []) (sym e))
    ∙ ap (joined x) (map_push tail_of (take i links) l)
    ∙ joined_push x (map tail_of (take i links)) (tail_of l)

-- one more operation that splits the condition
pub one_more : (x : Term) (links : List TypedLink) (i : ℕ) (l : TypedLink) (b : Bool) (s : Spans) → i < length links → l ≡ get_or links i l → splits b (tail_of l).0 ≡ true
    → narrowed (joined x (map tail_of (take (i + 1) links))) b s ≡ narrowed (tail_of l).2 b (narrowed (joined x (map tail_of (take i links))) b s)
one_more x links i l b s lt e h =
    let t = tail_of l in
    let y = joined x (map tail_of (take i links)) in
    ap (λ z. narrowed z b s) (front_push x links i l l lt e) ∙ parts_narrow b t.0 t.1 y t.2 s h

-- behind a first operation, one that does not split the condition says nothing
pub front_none : (x : Term) (links : List TypedLink) (n : ℕ) (b : Bool) (s : Spans) → 2 ≤ n → n ≤ length links → ((d : TypedLink) → 0 < n → splits b (tail_of (get_or links (n - 1) d)).0 ≡ false)
    → narrowed (joined x (map tail_of (take n links))) b s ≡ s
front_none x [] n b s some lt h = absurd (omega (arith, lt, some))
front_none x (k ∷ links) n b s some lt h =
    let l = get_or (k ∷ links) (n - 1) k in
    let t = tail_of l in
    let u = tail_of k in
    let again : n ≡ (n - 1) + 1 = omega (arith, some) in
    let first : take (n - 1) (k ∷ links) ≡ k ∷ take (n - 2) links = ap (λ m. take m (k ∷ links)) (let f : n - 1 ≡ suc (n - 2) = omega (arith, some) in f) in
    let y = joined (double u.0 u.1 x u.2) (map tail_of (take (n - 2) links)) in
    ap (λ m. narrowed (joined x (map tail_of (take m (k ∷ links)))) b s) again
    ∙ ap (λ z. narrowed z b s) (front_push x (k ∷ links) (n - 1) k l (omega (arith, lt, some)) refl)
    ∙ ap (λ ls. narrowed (double t.0 t.1 (joined x (map tail_of ls)) t.2) b s) first
    ∙ nothing_said b t.0 t.1 y t.2 s
    (operations_hide number_in (λ f a p q. refl) u.0 u.1 x u.2 (map tail_of (take (n - 2) links)))
    (operations_hide variable_in (λ f a p q. refl) u.0 u.1 x u.2 (map tail_of (take (n - 2) links)))
    (h k (omega (arith, some)))
