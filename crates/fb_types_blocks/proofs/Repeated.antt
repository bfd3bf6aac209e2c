-- Names that are declared again.
use Rattle.std.proofs.Common.{◌≡◌, ℕ, List, [], ◌∷◌, ◌++◌, Bool, true, false, cond, Option, Some, sym, ap, subst, ◌∙◌, append_assoc}
use Rattle.std.proofs.lemmas.List.{append-nil}
use Rattle.fb_model.specs.Names.{Name, is_in}
use Rattle.fb_model.specs.Productions.{Word}
use Rattle.fb_model.specs.Typing.{AreNew, texts}
use Rattle.fb_faults.specs.declared.typing.TypeFault.{TypeFault}
use Rattle.fb_faults.specs.declared.typing.TypeFault.TheVariants.{OutOfMemory, DuplicateName}
use Rattle.fb_model.specs.BlockFaults.{repeated, IsRepetition}
use Rattle.fb_types_blocks.proofs.Lists.{texts_append, new_append}

-- the first of two lists decides
front : (before : List Name) (xs ys : List Word) (at : ℕ) → repeated before xs ≡ Some at → repeated before (xs ++ ys) ≡ Some at
front before [] ys at h = absurd cc
front before (x ∷ xs) ys at h = by (is_in x.text before) h (front (before ++ x.text ∷ []) xs ys at)
  where
    by : (b : Bool) → cond b (Some x.at) (repeated (before ++ x.text ∷ []) xs) ≡ Some at → (repeated (before ++ x.text ∷ []) xs ≡ Some at → repeated (before ++ x.text ∷ []) (xs ++ ys) ≡ Some at) → cond b (Some x.at) (repeated (before ++ x.text ∷ []) (xs ++ ys)) ≡ Some at
    by true e again = e
    by false e again = again e

-- the second one, where the names of the first are new
behind : (before : List Name) (xs ys : List Word) → AreNew before (texts xs) → repeated before (xs ++ ys) ≡ repeated (before ++ texts xs) ys
behind before [] ys new = ap (λ b. repeated b ys) (sym (append-nil before))
behind before (x ∷ xs) ys new =
    ap (λ b. cond b (Some x.at) (repeated (before ++ x.text ∷ []) (xs ++ ys))) new.0
    ∙ behind (before ++ x.text ∷ []) xs ys new.1
    ∙ ap (λ b. repeated b ys) (append_assoc before (x.text ∷ []) (texts xs))

pub in_front : (before : List Name) (xs ys : List Word) (f : TypeFault) → IsRepetition before xs f → IsRepetition before (xs ++ ys) f
in_front before xs ys OutOfMemory h = tt
in_front before xs ys (DuplicateName at) h = front before xs ys at h
in_front before xs ys f h = absurd h

pub from_behind : (before : List Name) (xs ys : List Word) (f : TypeFault) → AreNew before (texts xs) → IsRepetition (before ++ texts xs) ys f → IsRepetition before (xs ++ ys) f
from_behind before xs ys OutOfMemory new h = tt
from_behind before xs ys (DuplicateName at) new h = behind before xs ys new ∙ h
from_behind before xs ys f new h = absurd h

-- the names of the next declaration are added
pub declared_step : {N : Type 0} (before after whole : List Name) (ws rest : List Word) (place : Option ℕ) → AreNew before (texts ws) → after ≡ before ++ texts ws
    → (AreNew before (texts (ws ++ rest)) → N) → before ++ texts (ws ++ rest) ≡ whole → repeated before (ws ++ rest) ≡ place
    → (AreNew after (texts rest) → N) × (after ++ texts rest ≡ whole) × (repeated after rest ≡ place)
declared_step before after whole ws rest place new e all sum first = (
  λ h. all (subst (AreNew before) (sym (texts_append ws rest)) (new_append before (texts ws) (texts rest) new (subst (λ b. AreNew b (texts rest)) e h))),
  ap (λ b. b ++ texts rest) e ∙ append_assoc before (texts ws) (texts rest) ∙ ap (λ ts. before ++ ts) (sym (texts_append ws rest)) ∙ sum,
  ap (λ b. repeated b rest) e ∙ sym (behind before ws rest new) ∙ first,
)

-- a name of the next declaration is there already, and is the first such of all
pub declared_again : (before start : List Name) (ws rest all : List Word) (f : TypeFault) → repeated before (ws ++ rest) ≡ repeated start all → IsRepetition before ws f → IsRepetition start all f
declared_again before start ws rest all OutOfMemory same h = tt
declared_again before start ws rest all (DuplicateName at) same h = sym same ∙ front before ws rest at h
declared_again before start ws rest all f same h = absurd h

-- ---- names of two declarations, one after the other

pub both_new : (old mid : List Name) (ws vs : List Word) (ts us : List Name) → ts ≡ texts ws → us ≡ texts vs → AreNew old ts → mid ≡ old ++ ts → AreNew mid us → AreNew old (texts (ws ++ vs))
both_new old mid ws vs ts us t u new e others =
    subst (AreNew old) (ap (λ xs. xs ++ us) t ∙ ap (λ xs. texts ws ++ xs) u ∙ sym (texts_append ws vs)) (new_append old ts us new (subst (λ b. AreNew b us) e others))

pub both_added : (old mid after : List Name) (ws vs : List Word) (ts us : List Name) → ts ≡ texts ws → us ≡ texts vs → mid ≡ old ++ ts → after ≡ mid ++ us → after ≡ old ++ texts (ws ++ vs)
both_added old mid after ws vs ts us t u e f =
    f ∙ ap (λ xs. xs ++ us) e ∙ append_assoc old ts us ∙ ap (λ xs. old ++ xs) (ap (λ xs. xs ++ us) t ∙ ap (λ xs. texts ws ++ xs) u ∙ sym (texts_append ws vs))

pub second_again : (old mid : List Name) (ws vs us : List Word) (ts : List Name) (f : TypeFault) → ts ≡ texts ws → us ≡ vs → AreNew old ts → mid ≡ old ++ ts → IsRepetition mid us f → IsRepetition old (ws ++ vs) f
second_again old mid ws vs us ts f t u new e h =
    from_behind old ws vs f (subst (AreNew old) t new) (subst (λ b. IsRepetition b vs f) (e ∙ ap (λ xs. old ++ xs) t) (subst (λ xs. IsRepetition mid xs f) u h))
