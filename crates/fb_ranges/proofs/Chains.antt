-- Ranges of chains, a link at a time.
use Rattle.std.proofs.Common.{◌≡◌, ℕ, ◌+◌, ◌<◌, List, [], ◌∷◌, ◌++◌, length, drop, get_or, map, Option, Some, None, refl, sym, ap, ◌∙◌, Vec, rules}
use Rattle.std.specs.Option.{unwrap_or}
use Rattle.std.proofs.lemmas.List.{append-nil, append_assoc}
use Rattle.std.specs.declared.alloc.Global.{Global}
use Rattle.std.specs.declared.boxed.Box.{Box}
use Rattle.fb_model.specs.Language.{given}
use Rattle.fb_model.specs.TypedText.{Term, double}
use Rattle.fb_model.specs.Spans.{Span, whole, range_two}
use Rattle.fb_model.specs.Clear.{Spans, range_of}
use Rattle.st_types.specs.declared.term.TypedExpr.{TypedExpr, Chain, the_lemmas}
use Rattle.st_types.specs.declared.term.TypedLink.{TypedLink}
use Rattle.st_types.specs.Views.{Tail, joined, term_of, tail_of}
use Rattle.st_types.proofs.Chains.{view_chain}
use Rattle.st_types.proofs.Gathering.{drop_step}
use Rattle.fb_model.specs.Asking.{range_in}
use Rattle.fb_ranges.specs.Narrowing.{read_behind, read_in}
use Rattle.fb_ranges.specs.Views.{linked, linked_in}

given_some : {A : Type 0} (o : Option A) → o ≡ given o (λ x. Some x)
given_some None = refl
given_some (Some x) = refl

given_again : {A B C : Type 0} (o : Option A) (f : A → Option B) (g : B → Option C) → given (given o f) g ≡ given o (λ x. given (f x) g)
given_again None f g = refl
given_again (Some x) f g = refl

given_same : {A B : Type 0} (o : Option A) (f g : A → Option B) → ((x : A) → f x ≡ g x) → given o f ≡ given o g
given_same None f g h = refl
given_same (Some x) f g h = h x

pub range_joined : (spans : Spans) (x : Term) (ls : List Tail) → range_of (joined x ls) spans ≡ given (range_of x spans) (linked spans ls)
range_joined spans x [] = given_some (range_of x spans)
range_joined spans x (l ∷ ls) =
    range_joined spans (double l.0 l.1 x l.2) ls
    ∙ given_again (range_of x spans) (λ r. given (range_of l.2 spans) (λ s. range_two l.0 l.1 r s)) (linked spans ls)
    ∙ given_same (range_of x spans) (λ r. given (given (range_of l.2 spans) (λ s. range_two l.0 l.1 r s)) (linked spans ls)) (linked spans (l ∷ ls)) (λ r. given_again (range_of l.2 spans) (λ s. range_two l.0 l.1 r s) (linked spans ls))

-- the range of a chain, from that of its first operand
pub range_chain : (spans : Spans) (b : Box TypedExpr Global) (v : Vec TypedLink Global) → range_of (term_of (Chain b v)) spans ≡ given (range_of (term_of b.value) spans) (linked spans (map tail_of v.items))
range_chain spans b v = ap (λ x. range_of x spans) (view_chain b v) ∙ range_joined spans (term_of b.value) (map tail_of v.items)

in_joined : (spans : Spans) (x : Term) (ls : List Tail) → range_in (joined x ls) spans ≡ linked_in spans ls (range_in x spans)
in_joined spans x [] = refl
in_joined spans x (l ∷ ls) = in_joined spans (double l.0 l.1 x l.2) ls

-- and its range whatever its operands and divisors are
pub in_chain : (spans : Spans) (b : Box TypedExpr Global) (v : Vec TypedLink Global) → range_in (term_of (Chain b v)) spans ≡ linked_in spans (map tail_of v.items) (range_in (term_of b.value) spans)
in_chain spans b v = ap (λ x. range_in x spans) (view_chain b v) ∙ in_joined spans (term_of b.value) (map tail_of v.items)

tail_is : (y : TypedLink) → tail_of y ≡ (y.operation, y.of_type, term_of y.operand)
tail_is y = search (rules, the_lemmas)

-- the next operation
pub next_in : (spans : Spans) (links : List TypedLink) (i : ℕ) (y : TypedLink) (r s q all : Span) → i < length links → y ≡ get_or links i y → linked_in spans (map tail_of (drop i links)) r ≡ all
    → s ≡ range_in (term_of y.operand) spans → q ≡ unwrap_or (range_two y.operation y.of_type r s) (whole y.of_type) → linked_in spans (map tail_of (drop (i + 1) links)) q ≡ all
next_in spans links i y r s q all lt is h operand put =
    let rest = map tail_of (drop (i + 1) links) in
    ap (linked_in spans rest) (put ∙ ap (λ (u : Span). unwrap_or (range_two y.operation y.of_type r u) (whole y.of_type)) operand)
    ∙ ap (λ (l : Tail). linked_in spans (l ∷ rest) r) (sym (tail_is y))
    ∙ ap (λ (l : List TypedLink). linked_in spans (map tail_of l) r) (sym (drop_step links i y lt is))
    ∙ h

pub next_linked : (spans : Spans) (links : List TypedLink) (i : ℕ) (y : TypedLink) (o u p all : Option Span) → i < length links → y ≡ get_or links i y → given o (linked spans (map tail_of (drop i links))) ≡ all
    → u ≡ range_of (term_of y.operand) spans → p ≡ given o (λ r. given u (range_two y.operation y.of_type r)) → given p (linked spans (map tail_of (drop (i + 1) links))) ≡ all
next_linked spans links i y o u p all lt is h operand put =
    let rest = map tail_of (drop (i + 1) links) in
    let f = λ (r : Span). given (range_of (term_of y.operand) spans) (range_two y.operation y.of_type r) in
    ap (λ (v : Option Span). given v (linked spans rest)) (put ∙ ap (λ (v : Option Span). given o (λ r. given v (range_two y.operation y.of_type r))) operand)
    ∙ given_again o f (linked spans rest)
    ∙ given_same o (λ r. given (f r) (linked spans rest)) (linked spans ((y.operation, y.of_type, term_of y.operand) ∷ rest)) (λ r. given_again (range_of (term_of y.operand) spans) (range_two y.operation y.of_type r) (linked spans rest))
    ∙ ap (λ (l : Tail). given o (linked spans (l ∷ rest))) (sym (tail_is y))
    ∙ ap (λ (l : List TypedLink). given o (linked spans (map tail_of l))) (sym (drop_step links i y lt is))
    ∙ h

read_joined : (x : Term) (ls : List Tail) → read_in (joined x ls) ≡ read_in x ++ read_behind ls
read_joined x [] = sym (append-nil (read_in x))
read_joined x (l ∷ ls) = read_joined (double l.0 l.1 x l.2) ls ∙ append_assoc (read_in x) (read_in l.2) (read_behind ls)

-- the variables that a chain reads
pub read_chain : (b : Box TypedExpr Global) (v : Vec TypedLink Global) → read_in (term_of (Chain b v)) ≡ read_in (term_of b.value) ++ read_behind (map tail_of v.items)
read_chain b v = ap read_in (view_chain b v) ∙ read_joined (term_of b.value) (map tail_of v.items)
