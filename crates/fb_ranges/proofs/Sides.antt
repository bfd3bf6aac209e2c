-- What stands on a side of a relation, and what the relation says.
use Rattle.std.proofs.Common.{◌≡◌, ◌≢◌, ◌==◌, Bool, true, false, List, [], ◌∷◌, length, map, Option, None, refl, sym, ap, ◌∙◌, Vec, vec_len, eq-eqb, arith, rules}
use Rattle.std.proofs.Math.Path.{fun_ext}
use Rattle.std.specs.Prelude.{if◌then◌else◌}
use Rattle.std.specs.Str.{bytes_eq}
use Rattle.std.specs.declared.alloc.Global.{Global}
use Rattle.std.specs.declared.boxed.Box.{Box}
use Rattle.fb_words.specs.declared.elem_type.ElemType.{ElemType}
use Rattle.fb_words.specs.declared.operator.Operation.{Operation}
use Rattle.fb_model.specs.Names.{Name}
use Rattle.fb_model.specs.TypedText.{Term, double}
use Rattle.fb_model.proofs.Lists.{same_name}
use Rattle.fb_model.specs.Spans.{Span}
use Rattle.fb_model.specs.Clear.{Spans, changed}
use Rattle.st_types.specs.declared.term.TypedExpr.{TypedExpr, Chain}
use Rattle.st_types.specs.declared.term.TypedLink.{TypedLink}
use Rattle.st_types.specs.Views.{Tail, joined, term_of, tail_of}
use Rattle.st_types.proofs.Chains.{view_chain}

-- a variable has the range that a function gives of its own
pub changed_known : (x : Name) (f : Span → Span) (spans : Spans) (s : Span) → s ≡ f (spans x) → changed x (λ r. s) spans ≡ changed x f spans
changed_known x f spans s e = fun_ext (λ y. by y (bytes_eq x y) refl) where
  by : (y : Name) (b : Bool) → bytes_eq x y ≡ b → (if b then s else spans y) ≡ (if b then f (spans y) else spans y)
  by y true h = e ∙ ap (λ z. f (spans z)) (same_name x y h)
  by y false h = refl

-- a variable has the range that a function gives of its own already
pub changed_same : (x : Name) (f : Span → Span) (spans : Spans) → f (spans x) ≡ spans x → spans ≡ changed x f spans
changed_same x f spans e = fun_ext (λ y. by y (bytes_eq x y) refl) where
  by : (y : Name) (b : Bool) → bytes_eq x y ≡ b → spans y ≡ (if b then f (spans y) else spans y)
  by y true h = ap spans (sym (same_name x y h)) ∙ sym e ∙ ap (λ z. f (spans z)) (same_name x y h)
  by y false h = refl

-- ---- chains

module _ {A : Type 0} (view : Term → Option A) (hidden : (f : Operation) (a : ElemType) (e g : Term) → view (double f a e g) ≡ None) where
  pub operations_hide : (f : Operation) (a : ElemType) (e g : Term) (ls : List Tail) → view (joined (double f a e g) ls) ≡ None
  operations_hide f a e g [] = hidden f a e g
  operations_hide f a e g (l ∷ ls) = operations_hide l.0 l.1 (double f a e g) l.2 ls

  links_hide : (x : Term) (ls : List TypedLink) → length ls ≢ 0 → view (joined x (map tail_of ls)) ≡ None
  links_hide x [] h = absurd (h refl)
  links_hide x (l ∷ ls) h = let t = tail_of l in operations_hide t.0 t.1 x t.2 (map tail_of ls)

  -- a chain of some operations
  pub chain_hides : (b : Box TypedExpr Global) (v : Vec TypedLink Global) → (vec_len v == 0) ≡ false → view (term_of (Chain b v)) ≡ None
  chain_hides b v h =
      ap view (view_chain b v)
      ∙ links_hide (term_of b.value) v.items (λ e. let f : vec_len v ≡ 0 = grind (arith, rules) in let g : (vec_len v == 0) ≡ true = eq-eqb (vec_len v) 0 f in cc)

no_links : (x : Term) (ls : List TypedLink) → length ls ≡ 0 → joined x (map tail_of ls) ≡ x
no_links x [] h = refl
no_links x (l ∷ ls) h = absurd (omega (arith, h))

-- and one of none
pub chain_shows : (b : Box TypedExpr Global) (v : Vec TypedLink Global) → (vec_len v == 0) ≡ true → term_of (Chain b v) ≡ term_of b.value
chain_shows b v h = view_chain b v ∙ no_links (term_of b.value) v.items (grind (arith, rules))
