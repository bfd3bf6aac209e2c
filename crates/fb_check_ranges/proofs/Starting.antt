-- What variables have at first is one number, or the same number in all elements.
use Rattle.std.proofs.Common.{◌≡◌, ◌↔◌, ℕ, zero, suc, ℤ, pos, true, false, Bool, List, [], ◌∷◌, map, replicate, Option, None, Some, refl, sym, ap, subst, ◌∙◌, string_bytes, Global}
use Rattle.std.specs.Prelude.{◌&&◌, int_le, unsigned_abs, ◌-ℤ◌, IsTrue}
use Rattle.std.proofs.lemmas.Bool.{and_parts}
use Rattle.std.specs.Option.{option_map}
use Rattle.std.specs.List.{AllByRecursion}
use Rattle.fb_words.specs.declared.elem_type.ElemType.{ElemType}
use Rattle.fb_model.specs.Names.{Name}
use Rattle.fb_model.specs.Values.{Value, One, Many}
use Rattle.fb_model.specs.System.{start_of, zeros}
use Rattle.fb_model.specs.BlockTyping.{extent, variable_of}
use Rattle.fb_model.specs.Spans.{Span, span, within, whole}
use Rattle.fb_model.specs.Shapes.{IsIn}
use Rattle.fb_words.proofs.Types.{le_is, le_true}
use Rattle.fb_types_blocks.specs.declared.typed.Variable.{Variable}
use Rattle.fb_types_blocks.specs.Views.{declared_of}
use Rattle.fb_check_ranges.specs.Beginning.{IsRange}
use Rattle.fb_model.specs.Misfits.{Begins}

-- a range of one number
one_both : (n : ℤ) (r : Span) → (within (span n n) r ≡ true) ↔ IsIn r n
one_both n r = (
  (λ h. let p = and_parts (int_le r.low n) (int_le n r.high) h in record { least = le_is r.low n p.0; most = le_is n r.high p.1 }),
  (λ h. ap (λ b. b && int_le n r.high) (le_true r.low n h.least) ∙ le_true n r.high h.most),
)

pub only_one : (n : ℤ) → IsRange (span n n) (One n)
only_one n = λ r. ((λ h. ((one_both n r).0 h, tt)), (λ h. (one_both n r).1 h.0))

all_alike : (r : Span) (n : ℤ) (k : ℕ) → IsIn r n → AllByRecursion (IsIn r) (replicate k n)
all_alike r n zero h = tt
all_alike r n (suc k) h = (h, all_alike r n k h)

pub only_many : (n : ℤ) (k : ℕ) → IsRange (span n n) (Many (replicate (suc k) n))
only_many n k = λ r. ((λ h. ((one_both n r).0 h, all_alike r n k ((one_both n r).0 h))), (λ h. (one_both n r).1 h.0))

only_zeros : (bounds : Option (ℤ × ℤ)) → IsRange (span (pos 0) (pos 0)) (zeros (option_map extent bounds))
only_zeros None = only_one (pos 0)
only_zeros (Some b) = only_many (pos 0) (unsigned_abs (b.1 -ℤ b.0))

-- a start value that is declared, and one that is not
pub start_some : (x : Name) (v : Variable) (n : ℤ) → v.start ≡ Some n → IsRange (span n n) (start_of (variable_of (declared_of x v)))
start_some x v n e = subst (λ (o : Option ℤ). IsRange (span n n) (elim (option_map One o) [ None ↦ zeros (option_map extent v.bounds) | Some value ↦ value ])) (sym e) (only_one n)

pub start_none : (x : Name) (v : Variable) → v.start ≡ None → IsRange (span (pos 0) (pos 0)) (start_of (variable_of (declared_of x v)))
start_none x v e = subst (λ (o : Option ℤ). IsRange (span (pos 0) (pos 0)) (elim (option_map One o) [ None ↦ zeros (option_map extent v.bounds) | Some value ↦ value ])) (sym e) (only_zeros v.bounds)

-- a row that lies in its type, and in which the range of a value lies
pub begins_both : (r w s : Span) (a : ElemType) (value : Value) (b c : Bool) → w ≡ whole a → b ≡ within r w → b ≡ true → c ≡ within s r → IsRange s value → IsTrue c ↔ Begins r a value
begins_both r w s a value b c e f g h only =
    let lies : within r (whole a) ≡ true = ap (within r) (sym e) ∙ sym f ∙ g in
    ((λ k. (lies, (only r).0 (sym h ∙ k))), (λ k. h ∙ (only r).1 k.1))
