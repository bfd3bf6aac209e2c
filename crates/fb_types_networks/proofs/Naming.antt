-- Names of instances one after another.
use Rattle.std.proofs.Common.{◌≡◌, Bool, true, false, cond, ◌||◌, List, [], ◌∷◌, ◌++◌, Some, refl, sym, ap, subst, ◌∙◌}
use Rattle.std.proofs.lemmas.List.{append-nil, append_assoc}
use Rattle.fb_model.specs.Names.{Name, is_in}
use Rattle.fb_model.specs.Productions.{Word}
use Rattle.fb_model.specs.Typing.{AreNew, texts}
use Rattle.fb_faults.specs.declared.typing.TypeFault.{TypeFault}
use Rattle.fb_faults.specs.declared.typing.TypeFault.TheVariants.{DuplicateName}
use Rattle.fb_model.specs.BlockFaults.{repeated, IsRepetition}
use Rattle.fb_types_blocks.proofs.Repeated.{from_behind}
use Rattle.fb_types_networks.proofs.Tables.{is_in_both}

-- what is so of the names left is so of all
pub record NamesSo (own : List Name) (all : List Word) (made : List Name) (left : List Word) : Type 0 where
  pub new : AreNew (own ++ made) (texts left) → AreNew own (texts all)
  pub faulty : (w : TypeFault) → IsRepetition (own ++ made) left w → IsRepetition own all w
  pub names : made ++ texts left ≡ texts all

pub names_begun : (own : List Name) (all : List Word) → NamesSo own all [] all
names_begun own all =
    record {
      new = λ h. subst (λ b. AreNew b (texts all)) (append-nil own) h;
      faulty = λ w h. subst (λ b. IsRepetition b all w) (append-nil own) h;
      names = refl;
    }

neither : (a b : Bool) → a ≡ false → b ≡ false → a || b ≡ false
neither a b e f = rw (e, f) refl

first_of : (a b : Bool) → a ≡ true → a || b ≡ true
first_of a b e = rw e refl

second_of : (a b : Bool) → b ≡ true → a || b ≡ true
second_of true b e = refl
second_of false b e = e

module _ (own : List Name) (all : List Word) (made : List Name) (x : Word) (left : List Word) where
  absent : is_in x.text own ≡ false → is_in x.text made ≡ false → is_in x.text (own ++ made) ≡ false
  absent e f = is_in_both x.text own made ∙ neither (is_in x.text own) (is_in x.text made) e f

  pub names_more : NamesSo own all made (x ∷ left) → is_in x.text own ≡ false → is_in x.text made ≡ false → NamesSo own all (made ++ x.text ∷ []) left
  names_more h e f =
      record {
        new = λ n. h.new (absent e f, subst (λ b. AreNew b (texts left)) (sym (append_assoc own made (x.text ∷ []))) n);
        faulty = λ w t. h.faulty w (from_behind (own ++ made) (x ∷ []) left w (absent e f, tt) (subst (λ b. IsRepetition b left w) (sym (append_assoc own made (x.text ∷ []))) t));
        names = append_assoc made (x.text ∷ []) (texts left) ∙ h.names;
      }

  again : is_in x.text (own ++ made) ≡ true → NamesSo own all made (x ∷ left) → IsRepetition own all (DuplicateName x.at)
  again e h = h.faulty (DuplicateName x.at) (ap (λ b. cond b (Some x.at) (repeated ((own ++ made) ++ x.text ∷ []) left)) e)

  pub own_again : NamesSo own all made (x ∷ left) → is_in x.text own ≡ true → IsRepetition own all (DuplicateName x.at)
  own_again h e = again (is_in_both x.text own made ∙ first_of (is_in x.text own) (is_in x.text made) e) h

  pub name_again : NamesSo own all made (x ∷ left) → is_in x.text made ≡ true → IsRepetition own all (DuplicateName x.at)
  name_again h e = again (is_in_both x.text own made ∙ second_of (is_in x.text own) (is_in x.text made) e) h

pub names_done : (own : List Name) (all : List Word) (made : List Name) → NamesSo own all made [] → AreNew own (texts all) × (made ≡ texts all)
names_done own all made h = (h.new tt, sym (append-nil made) ∙ h.names)
