-- Chains a link at a time.
use Rattle.std.proofs.Common.{◌≡◌, ℕ, List, [], ◌∷◌, ◌++◌, map, refl, sym, ap, ◌∙◌, rules, Vec}
use Rattle.std.proofs.lemmas.List.{map_push}
use Rattle.std.specs.declared.alloc.Global.{Global}
use Rattle.std.specs.declared.boxed.Box.{Box}
use Rattle.fb_model.specs.StructuredText.{grouped}
use Rattle.fb_tree.specs.declared.expression.Expr.{Expr}
use Rattle.fb_tree.specs.declared.expression.Expr as source
use Rattle.fb_tree.specs.declared.expression.Link.{Link}
use Rattle.fb_tree.specs.Algorithms.{expr_of, link_of}
use Rattle.fb_words.specs.declared.elem_type.ElemType.{ElemType}
use Rattle.fb_words.specs.declared.operator.Operation.{Operation}
use Rattle.fb_model.specs.TypedText.{Term, double}
use Rattle.fb_model.specs.TextTyping as typing
use Rattle.st_types.specs.declared.term.TypedExpr.{TypedExpr, Chain, the_lemmas}
use Rattle.st_types.specs.declared.term.TypedLink.{TypedLink, roll-TypedLink}
use Rattle.st_types.specs.declared.term.Loose as loose
use Rattle.st_types.specs.declared.term.LooseLink.{LooseLink, roll-LooseLink}
use Rattle.st_types.specs.Views.{Tail, joined, term_of, tail_of, LooseTail, joined_loose, loose_of, loose_tail_of}

pub view_chain : (b : Box TypedExpr Global) (v : Vec TypedLink Global) → term_of (Chain b v) ≡ joined (term_of b.value) (map tail_of v.items)
view_chain b v = search (rules, the_lemmas)

pub view_loose_chain : (b : Box loose.Loose Global) (v : Vec LooseLink Global) → loose_of (loose.Chain b v) ≡ joined_loose (loose_of b.value) (map loose_tail_of v.items)
view_loose_chain b v = search (rules, loose.the_lemmas)

pub joined_push : (x : Term) (ls : List Tail) (l : Tail) → joined x (ls ++ l ∷ []) ≡ double l.0 l.1 (joined x ls) l.2
joined_push x [] l = refl
joined_push x (k ∷ ls) l = joined_push (double k.0 k.1 x k.2) ls l

pub joined_loose_push : (x : typing.Loose) (ls : List LooseTail) (l : LooseTail) → joined_loose x (ls ++ l ∷ []) ≡ typing.loose_double l.0 l.1 (joined_loose x ls) l.2
joined_loose_push x [] l = refl
joined_loose_push x (k ∷ ls) l = joined_loose_push (typing.loose_double k.0 k.1 x k.2) ls l

tail_roll : (f : Operation) (a : ElemType) (x : TypedExpr) → tail_of (roll-TypedLink (record { operation = f; of_type = a; operand = x })) ≡ (f, a, term_of x)
tail_roll f a x = search (rules, the_lemmas)

-- a chain with one more link
pub chain_push : (b : Box TypedExpr Global) (v w : Vec TypedLink Global) (f : Operation) (a : ElemType) (x : TypedExpr) → w.items ≡ v.items ++ roll-TypedLink (record { operation = f; of_type = a; operand = x }) ∷ []
    → term_of (Chain b w) ≡ double f a (term_of (Chain b v)) (term_of x)
chain_push b v w f a x e =
    let l = roll-TypedLink (record { operation = f; of_type = a; operand = x }) in
    view_chain b w
    ∙ ap (λ ls. joined (term_of b.value) (map tail_of ls)) e
    ∙ ap (joined (term_of b.value)) (map_push tail_of v.items l)
    ∙ joined_push (term_of b.value) (map tail_of v.items) (tail_of l)
    ∙ ap (λ (t : Tail). double t.0 t.1 (joined (term_of b.value) (map tail_of v.items)) t.2) (tail_roll f a x)
    ∙ ap (λ y. double f a y (term_of x)) (sym (view_chain b v))

loose_tail_roll : (f : Operation) (s : ℕ) (x : loose.Loose) → loose_tail_of (roll-LooseLink (record { operation = f; at = s; operand = x })) ≡ (f, s, loose_of x)
loose_tail_roll f s x = search (rules, loose.the_lemmas)

pub loose_chain_push : (b : Box loose.Loose Global) (v w : Vec LooseLink Global) (f : Operation) (s : ℕ) (x : loose.Loose) → w.items ≡ v.items ++ roll-LooseLink (record { operation = f; at = s; operand = x }) ∷ []
    → loose_of (loose.Chain b w) ≡ typing.loose_double f s (loose_of (loose.Chain b v)) (loose_of x)
loose_chain_push b v w f s x e =
    let l = roll-LooseLink (record { operation = f; at = s; operand = x }) in
    view_loose_chain b w
    ∙ ap (λ ls. joined_loose (loose_of b.value) (map loose_tail_of ls)) e
    ∙ ap (joined_loose (loose_of b.value)) (map_push loose_tail_of v.items l)
    ∙ joined_loose_push (loose_of b.value) (map loose_tail_of v.items) (loose_tail_of l)
    ∙ ap (λ (t : LooseTail). typing.loose_double t.0 t.1 (joined_loose (loose_of b.value) (map loose_tail_of v.items)) t.2) (loose_tail_roll f s x)
    ∙ ap (λ y. typing.loose_double f s y (loose_of x)) (sym (view_loose_chain b v))

-- ---- chains of the source

pub view_source_chain : (b : Box Expr Global) (v : Vec Link Global) → expr_of (source.Chain b v) ≡ grouped (expr_of b.value) (map link_of v.items)
view_source_chain b v = search (rules, source.the_lemmas)
