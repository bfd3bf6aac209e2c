-- Chains are typed and settled a link at a time.
use Rattle.std.proofs.Common.{◌≡◌, Bool, true, false, cond, List, [], ◌∷◌, Result, Ok, Err, refl, sym, ap, subst, ◌∙◌}
use Rattle.fb_words.specs.declared.elem_type.ElemType.{ElemType}
use Rattle.fb_words.specs.declared.operator.Operation.TheVariants.{Infix}
use Rattle.fb_model.specs.StructuredText.{Expression, binary, Link, grouped}
use Rattle.fb_model.specs.TypedText.{Term, double}
use Rattle.fb_model.specs.TextTyping.{allows, Symbol, Loose, loose_double, Operand}
use Rattle.fb_model.specs.TextFaults.{Fault, type_mismatch}
use Rattle.fb_faults.specs.declared.statement.TypingFault.{TypingFault}
use Rattle.fb_faults.specs.declared.statement.TypingFault.TheVariants.{OutOfMemory, UnknownName, TypeMismatch, BadLiteral, NotWritable}
use Rattle.st_types.specs.Answers.{Fails}
use Rattle.st_types.specs.Views.{LooseTail, joined_loose}
use Rattle.st_types.specs.Elaborating.{◌>>=◌, settled, settled_tails, on_two, typed, typed_links}

pub bind_ok : {A : Type 0} (r : Result A Fault) → r ≡ (r >>= λ x. Ok x)
bind_ok (Ok x) = refl
bind_ok (Err e) = refl

pub bind_again : {A B C : Type 0} (r : Result A Fault) (f : A → Result B Fault) (g : B → Result C Fault) → ((r >>= f) >>= g) ≡ (r >>= λ x. f x >>= g)
bind_again (Ok x) f g = refl
bind_again (Err e) f g = refl

pub bind_same : {A B : Type 0} (r : Result A Fault) (f g : A → Result B Fault) → ((x : A) → f x ≡ g x) → (r >>= f) ≡ (r >>= g)
bind_same (Ok x) f g h = h x
bind_same (Err e) f g h = refl

typed_turn : (env : List Symbol) (l : Link) (ls : List Link) (p : Operand) → ((typed env l.2 >>= λ q. on_two (Infix l.0) l.1 p q) >>= λ r. typed_links env r ls) ≡ typed_links env p (l ∷ ls)
typed_turn env l ls p = bind_again (typed env l.2) (λ q. on_two (Infix l.0) l.1 p q) (λ r. typed_links env r ls)

pub typed_grouped : (env : List Symbol) (x : Expression) (ls : List Link) → typed env (grouped x ls) ≡ (typed env x >>= λ p. typed_links env p ls)
typed_grouped env x [] = bind_ok (typed env x)
typed_grouped env x (l ∷ ls) =
    typed_grouped env (binary l.0 l.1 x l.2) ls
    ∙ bind_again (typed env x) (λ p. typed env l.2 >>= λ q. on_two (Infix l.0) l.1 p q) (λ r. typed_links env r ls)
    ∙ bind_same (typed env x) (λ p. (typed env l.2 >>= λ q. on_two (Infix l.0) l.1 p q) >>= λ r. typed_links env r ls) (λ p. typed_links env p (l ∷ ls)) (typed_turn env l ls)

settled_turn : (a : ElemType) (l : LooseTail) (ls : List LooseTail) (y : Term)
    → (cond (allows l.0 a) (settled a l.2 >>= λ z. Ok (double l.0 a y z)) (Err (type_mismatch l.1)) >>= λ r. settled_tails a r ls) ≡ settled_tails a y (l ∷ ls)
settled_turn a l ls y = by (allows l.0 a) where
  by : (b : Bool) → (cond b (settled a l.2 >>= λ z. Ok (double l.0 a y z)) (Err (type_mismatch l.1)) >>= λ r. settled_tails a r ls)
      ≡ cond b (settled a l.2 >>= λ z. settled_tails a (double l.0 a y z) ls) (Err (type_mismatch l.1))
  by true = bind_again (settled a l.2) (λ z. Ok (double l.0 a y z)) (λ r. settled_tails a r ls)
  by false = refl

pub settled_joined : (a : ElemType) (x : Loose) (ls : List LooseTail) → settled a (joined_loose x ls) ≡ (settled a x >>= λ y. settled_tails a y ls)
settled_joined a x [] = bind_ok (settled a x)
settled_joined a x (l ∷ ls) =
    settled_joined a (loose_double l.0 l.1 x l.2) ls
    ∙ bind_again (settled a x) (λ y. cond (allows l.0 a) (settled a l.2 >>= λ z. Ok (double l.0 a y z)) (Err (type_mismatch l.1))) (λ r. settled_tails a r ls)
    ∙ bind_same (settled a x) (λ y. cond (allows l.0 a) (settled a l.2 >>= λ z. Ok (double l.0 a y z)) (Err (type_mismatch l.1)) >>= λ r. settled_tails a r ls) (λ y. settled_tails a y (l ∷ ls)) (settled_turn a l ls)

-- ---- in the words of the answers

pub fails_then : {A B : Type 0} (e : TypingFault) (r : Result A Fault) (f : A → Result B Fault) → Fails e r → Fails e (r >>= f)
fails_then OutOfMemory r f h = tt
fails_then (UnknownName at) r f h = ap (λ q. q >>= f) h
fails_then (TypeMismatch at) r f h = ap (λ q. q >>= f) h
fails_then (BadLiteral at) r f h = ap (λ q. q >>= f) h
fails_then (NotWritable at) r f h = ap (λ q. q >>= f) h

pub settling_fails : (a : ElemType) (x : Loose) (ls : List LooseTail) (e : TypingFault) → Fails e (settled a x) → Fails e (settled a (joined_loose x ls))
settling_fails a x ls e h = subst (λ r. Fails e r) (sym (settled_joined a x ls)) (fails_then e (settled a x) (λ y. settled_tails a y ls) h)

pub settling_goes_on : (a : ElemType) (x : Loose) (ls : List LooseTail) (y : Term) → settled a x ≡ Ok y → settled a (joined_loose x ls) ≡ settled_tails a y ls
settling_goes_on a x ls y h = settled_joined a x ls ∙ ap (λ r. r >>= λ z. settled_tails a z ls) h

pub typing_fails : (env : List Symbol) (x : Expression) (ls : List Link) (e : TypingFault) → Fails e (typed env x) → Fails e (typed env (grouped x ls))
typing_fails env x ls e h = subst (λ r. Fails e r) (sym (typed_grouped env x ls)) (fails_then e (typed env x) (λ p. typed_links env p ls) h)

pub typing_goes_on : (env : List Symbol) (x : Expression) (ls : List Link) (p : Operand) → typed env x ≡ Ok p → typed env (grouped x ls) ≡ typed_links env p ls
typing_goes_on env x ls p h = typed_grouped env x ls ∙ ap (λ r. r >>= λ q. typed_links env q ls) h
