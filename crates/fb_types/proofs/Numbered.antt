-- Numbers of services, one after another.
use Rattle.std.proofs.Common.{◌≡◌, ℕ, nat_eq, true, false, not, Bool, List, [], ◌∷◌, ◌++◌, Result, Ok, Err, IfErr, refl, sym, subst, ◌∙◌, append_assoc}
use Rattle.std.specs.List.{list_any}
use Rattle.std.proofs.lemmas.List.{append-nil}
use Rattle.fb_model.specs.Typing.{AreNewNumbers}
use Rattle.fb_faults.specs.declared.typing.TypeFault.{TypeFault}
use Rattle.fb_faults.specs.declared.typing.TypeFault.TheVariants.{OutOfMemory}
use Rattle.fb_words.specs.declared.number.NumberKind.{NumberKind}
use Rattle.fb_model.specs.Nesting.{Used}
use Rattle.fb_model.specs.NumberFaults.{given, number_of, numbers_in, IsTaken, no_memory_for_number, number_taken, IsRepeated, this_use, later_use}

-- numbers that are new one list after another are new together
pub new_append : (before xs ys : List ℕ) → AreNewNumbers before xs → AreNewNumbers (before ++ xs) ys → AreNewNumbers before (xs ++ ys)
new_append before [] ys h k = subst (λ b. AreNewNumbers b ys) (append-nil before) k
new_append before (x ∷ xs) ys h k = (h.0, new_append (before ++ x ∷ []) xs ys h.1 (subst (λ b. AreNewNumbers b ys) (sym (append_assoc before (x ∷ []) xs)) k))

pub new_split : (before xs ys : List ℕ) → AreNewNumbers before (xs ++ ys) → AreNewNumbers before xs × AreNewNumbers (before ++ xs) ys
new_split before [] ys h = (tt, subst (λ b. AreNewNumbers b ys) (sym (append-nil before)) h)
new_split before (x ∷ xs) ys h =
    let k = new_split (before ++ x ∷ []) xs ys h.1 in
    ((h.0, k.0), subst (λ b. AreNewNumbers b ys) (append_assoc before (x ∷ []) xs) k.1)

-- what is so of the services left, with these numbers taken, is so of all
pub record NumbersSo (kind : NumberKind) (all : List Used) (taken : List ℕ) (left : List Used) : Type 0 where
  pub new : AreNewNumbers taken (numbers_in kind left) → AreNewNumbers [] (numbers_in kind all)
  pub faulty : (f : TypeFault) → IsRepeated kind taken left f → IsRepeated kind [] all f

pub numbers_begun : (kind : NumberKind) (all : List Used) → NumbersSo kind all [] all
numbers_begun kind all = record { new = λ h. h; faulty = λ f h. h }

module _ (kind : NumberKind) (all : List Used) (taken : List ℕ) (u : Used) (left : List Used) (so : NumbersSo kind all taken (u ∷ left)) where
  pub numbers_more : (next : List ℕ) → next ≡ taken ++ given (number_of kind (u.1)) → AreNewNumbers taken (given (number_of kind (u.1))) → NumbersSo kind all next left
  numbers_more next e new =
      record {
        new = λ h. so.new (new_append taken (given (number_of kind (u.1))) (numbers_in kind left) new (subst (λ b. AreNewNumbers b (numbers_in kind left)) e h));
        faulty = λ f h. so.faulty f (later_use (subst (λ b. IsRepeated kind b left f) e h));
      }

  pub numbers_wrong : (f : TypeFault) → IsTaken kind taken u f → IsRepeated kind [] all f
  numbers_wrong f h = so.faulty f (this_use h)

pub numbers_done : (kind : NumberKind) (all : List Used) (taken : List ℕ) → NumbersSo kind all taken [] → AreNewNumbers [] (numbers_in kind all)
numbers_done kind all taken so = so.new tt

-- ---- numbers that are new have no fault

not_both : (b : Bool) → b ≡ true → b ≡ false → ⊥
not_both b e f = let h : true ≡ false = sym e ∙ f in cc

no_taken : (kind : NumberKind) (taken : List ℕ) (u : Used) (f : TypeFault) → AreNewNumbers taken (given (number_of kind (u.1))) → IsTaken kind taken u f → f ≡ OutOfMemory
no_taken kind taken u f new (no_memory_for_number e) = e
no_taken kind taken u f new (number_taken {n = n} is there e) =
    let h : AreNewNumbers taken (n ∷ []) = subst (λ o. AreNewNumbers taken (given o)) is new in
    absurd (not_both (list_any (nat_eq n) taken) there h.0)

nothing_repeated : {kind : NumberKind} {taken : List ℕ} {f : TypeFault} → IsRepeated kind taken [] f → ⊥
nothing_repeated x = elim x [ ]

pub no_repeated : (kind : NumberKind) (taken : List ℕ) (us : List Used) (f : TypeFault) → AreNewNumbers taken (numbers_in kind us) → IsRepeated kind taken us f → f ≡ OutOfMemory
no_repeated kind taken [] f new x = absurd (nothing_repeated x)
no_repeated kind taken (u ∷ us) f new (this_use x) = no_taken kind taken u f (new_split taken (given (number_of kind (u.1))) (numbers_in kind us) new).0 x
no_repeated kind taken (u ∷ us) f new (later_use x) = no_repeated kind (taken ++ given (number_of kind (u.1))) us f (new_split taken (given (number_of kind (u.1))) (numbers_in kind us) new).1 x

pub only_memory : {T : Type 0} (kind : NumberKind) (us : List Used) (r : Result T TypeFault) → AreNewNumbers [] (numbers_in kind us) → IfErr r (IsRepeated kind [] us) → IfErr r (λ f. f ≡ OutOfMemory)
only_memory kind us (Ok x) new h = h
only_memory kind us (Err f) new h = no_repeated kind [] us f new h

-- ---- what a set said

pub taken_already : (b said : Bool) → said ≡ not b → said ≡ false → b ≡ true
taken_already true said e f = refl
taken_already false said e f = let h : false ≡ true = sym f ∙ e in absurd cc
