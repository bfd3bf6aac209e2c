-- Parameters one after another, and what they are.
use Rattle.std.proofs.Common.{◌≡◌, ℤ, true, false, not, cond, List, [], ◌∷◌, ◌++◌, Option, None, Some, option_map, refl, sym, ap, subst, ◌∙◌}
use Rattle.std.proofs.lemmas.List.{append-nil, append_assoc}
use Rattle.fb_words.specs.declared.elem_type.ElemType.{ElemType}
use Rattle.fb_model.specs.Names.{Name, is_in}
use Rattle.fb_model.specs.Values.{One}
use Rattle.fb_model.specs.Trees.{ParameterTree}
use Rattle.fb_model.specs.System.{Variable, Parameter}
use Rattle.fb_model.specs.BlockTyping.{IsGiven}
use Rattle.fb_model.specs.NetworkTyping.{variable_named, lacking, AreParameters, no_parameter, a_parameter}
use Rattle.fb_faults.specs.declared.typing.TypeFault.{TypeFault}
use Rattle.fb_faults.specs.declared.typing.TypeFault.TheVariants as faults
use Rattle.fb_types_blocks.proofs.Faultless.{not_both, not_misgiven}
use Rattle.fb_types_blocks.proofs.Single.{one_given}
use Rattle.fb_types_networks.specs.Answers.{IsParameter}
use Rattle.fb_model.specs.NetworkFaults.{IsParameterFault, no_memory_for_parameter, unknown_input, given_again, misgiven, IsParametersFault, this_parameter, later_parameter}

-- what is so of the parameters left, with the names that have a value then, is so of all
pub record ParametersSo (vs : List Variable) (xs : List Name) (all : List ParameterTree) (made : List Parameter) (given : List Name) (left : List ParameterTree) : Type 0 where
  pub typed : (qs : List Parameter) → AreParameters vs given (lacking xs left) qs → AreParameters vs [] (lacking xs all) (made ++ qs)
  pub faulty : (w : TypeFault) → IsParametersFault vs given (lacking xs left) w → IsParametersFault vs [] (lacking xs all) w

pub parameters_begun : (vs : List Variable) (xs : List Name) (all : List ParameterTree) → ParametersSo vs xs all [] [] all
parameters_begun vs xs all = record { typed = λ qs h. h; faulty = λ w h. h }

module _ (vs : List Variable) (xs : List Name) (all : List ParameterTree) (made : List Parameter) (given : List Name) where
  stays : (p : ParameterTree) (left : List ParameterTree) → is_in p.name.text xs ≡ false → lacking xs (p ∷ left) ≡ p ∷ lacking xs left
  stays p left e = ap (λ b. cond (not b) (p ∷ lacking xs left) (lacking xs left)) e

  goes : (p : ParameterTree) (left : List ParameterTree) → is_in p.name.text xs ≡ true → lacking xs (p ∷ left) ≡ lacking xs left
  goes p left e = ap (λ b. cond (not b) (p ∷ lacking xs left) (lacking xs left)) e

  next_typed : (p : ParameterTree) (left : List ParameterTree) (q : Parameter) (qs : List Parameter) → is_in p.name.text xs ≡ false → IsParameter vs given p q
      → AreParameters vs (given ++ p.name.text ∷ []) (lacking xs left) qs → AreParameters vs given (lacking xs (p ∷ left)) (q ∷ qs)
  next_typed p left q qs e is t =
      subst (λ ps. AreParameters vs given ps (q ∷ qs)) (sym (stays p left e))
      (subst (λ r. AreParameters vs given (p ∷ lacking xs left) (r ∷ qs)) (sym is.parameter_is) (a_parameter is.found is.new is.given t))

  pub parameters_more : (p : ParameterTree) (left : List ParameterTree) (q : Parameter) → ParametersSo vs xs all made given (p ∷ left) → is_in p.name.text xs ≡ false → IsParameter vs given p q
      → ParametersSo vs xs all (made ++ q ∷ []) (given ++ p.name.text ∷ []) left
  parameters_more p left q h e is =
      record {
        typed = λ qs t. subst (AreParameters vs [] (lacking xs all)) (sym (append_assoc made (q ∷ []) qs)) (h.typed (q ∷ qs) (next_typed p left q qs e is t));
        faulty = λ w t. h.faulty w (subst (λ ps. IsParametersFault vs given ps w) (sym (stays p left e)) (later_parameter t));
      }

  pub parameters_past : (p : ParameterTree) (left : List ParameterTree) → ParametersSo vs xs all made given (p ∷ left) → is_in p.name.text xs ≡ true → ParametersSo vs xs all made given left
  parameters_past p left h e =
      record {
        typed = λ qs t. h.typed qs (subst (λ ps. AreParameters vs given ps qs) (sym (goes p left e)) t);
        faulty = λ w t. h.faulty w (subst (λ ps. IsParametersFault vs given ps w) (sym (goes p left e)) t);
      }

  pub parameters_done : ParametersSo vs xs all made given [] → AreParameters vs [] (lacking xs all) made
  parameters_done h = subst (AreParameters vs [] (lacking xs all)) (append-nil made) (h.typed [] no_parameter)

  pub parameters_wrong : (p : ParameterTree) (left : List ParameterTree) (w : TypeFault) → ParametersSo vs xs all made given (p ∷ left) → is_in p.name.text xs ≡ false → IsParameterFault vs given p w
      → IsParametersFault vs [] (lacking xs all) w
  parameters_wrong p left w h e is = h.faulty w (subst (λ ps. IsParametersFault vs given ps w) (sym (stays p left e)) (this_parameter is))

-- nothing is lacking of no names
pub lacking_none : (ps : List ParameterTree) → lacking [] ps ≡ ps
lacking_none [] = refl
lacking_none (p ∷ ps) = ap (λ qs. p ∷ qs) (lacking_none ps)

-- ---- one form, and no fault

same_variable : (vs : List Variable) (x : Name) (v u : Variable) → variable_named vs x ≡ Some v → variable_named vs x ≡ Some u → v ≡ u
same_variable vs x v u e f = let h : Some v ≡ Some u = sym e ∙ f in cc

pub one_parameters : (vs : List Variable) (before : List Name) (ps : List ParameterTree) (qs rs : List Parameter) → AreParameters vs before ps qs → AreParameters vs before ps rs → qs ≡ rs
one_parameters vs before [] qs rs no_parameter no_parameter = refl
one_parameters vs before (p ∷ ps) qs rs (a_parameter {v = v} {n = n} {qs = others} f new g more) (a_parameter {v = u} {n = m} {qs = rest} k again h less) =
    let same = same_variable vs p.name.text v u f k in
    ap (λ i. record { name = p.name.text; value = One i } ∷ others) (one_given v.type p.value n m g (subst (λ i. IsGiven i.type p.value m) (sym same) h))
    ∙ ap (λ l. record { name = p.name.text; value = One m } ∷ l) (one_parameters vs (before ++ p.name.text ∷ []) ps others rest more less)

parameter_true : (vs : List Variable) (before : List Name) (p : ParameterTree) (v : Variable) (n : _) (w : TypeFault) → variable_named vs p.name.text ≡ Some v → is_in p.name.text before ≡ false → IsGiven v.type p.value n
    → IsParameterFault vs before p w → w ≡ faults.OutOfMemory
parameter_true vs before p v n w f new g (no_memory_for_parameter e) = e
parameter_true vs before p v n w f new g (unknown_input none e) = let h : Some v ≡ None = sym f ∙ none in absurd cc
parameter_true vs before p v n w f new g (given_again already e) = absurd (not_both already new)
parameter_true vs before p v n w f new g (misgiven {v = u} k wrong) =
    absurd (not_misgiven u.type p.at p.value n w (subst (λ i. IsGiven i.type p.value n) (same_variable vs p.name.text v u f k) g) wrong)

pub parameters_true : (vs : List Variable) (before : List Name) (ps : List ParameterTree) (qs : List Parameter) (w : TypeFault) → AreParameters vs before ps qs → IsParametersFault vs before ps w → w ≡ faults.OutOfMemory
parameters_true vs before [] qs w no_parameter x = elim x [ ]
parameters_true vs before (p ∷ ps) qs w (a_parameter {v = v} {n = n} {qs = others} f new g more) (this_parameter x) = parameter_true vs before p v n w f new g x
parameters_true vs before (p ∷ ps) qs w (a_parameter {v = v} {n = n} {qs = others} f new g more) (later_parameter x) = parameters_true vs (before ++ p.name.text ∷ []) ps others w more x

-- ---- what is found by its type

pub record HasType (o : Option Variable) (t : ElemType) : Type 0 where
  pub variable : Variable
  pub found : o ≡ Some variable
  pub type_is : t ≡ variable.type

pub with_type : (o : Option Variable) (t : ElemType) → Some t ≡ option_map (λ v. v.type) o → HasType o t
with_type None t e = absurd cc
with_type (Some v) t e = record { variable = v; found = refl; type_is = cc }

pub none_typed : (o : Option Variable) → (let n : Option ElemType = None in n ≡ option_map (λ v. v.type) o) → o ≡ None
none_typed None e = refl
none_typed (Some v) e = absurd cc

pub parameter_of_parts : (vs : List Variable) (before : List Name) (p : ParameterTree) (name : Name) (n : ℤ) (t : ElemType) → HasType (variable_named vs p.name.text) t → name ≡ p.name.text → is_in p.name.text before ≡ false → IsGiven t p.value n
    → IsParameter vs before p (record { name = name; value = One n })
parameter_of_parts vs before p name n t k e new given =
    record { variable = k.variable; found = k.found; new = new; number = n; given = subst (λ u. IsGiven u p.value n) k.type_is given; parameter_is = rw e refl }
