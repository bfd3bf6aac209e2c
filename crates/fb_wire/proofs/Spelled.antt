-- The bytes of messages against the book's spelling.
use Rattle.std.proofs.Common.{ℕ, ◌≡◌, ◌/◌, ◌%◌, ◌++◌, ℤ, true, List, [], ◌∷◌, length, map, refl, sym, ◌∙◌, ap}
use Rattle.std.specs.Prelude.{FitsSigned}
use Rattle.std.specs.List.{AllByRecursion}
use Rattle.std.specs.Int.{w64}
use Rattle.std.proofs.lemmas.List.{length-map, append_assoc}
use Rattle.fb_words.specs.declared.elem_type.ElemType.{ElemType}
use Rattle.fb_words.specs.Numbers.{in_type}
use Rattle.fb_model.specs.Messages.{Message, spelling, version, purpose_code, stamp_bytes, fields}
use Rattle.fb_model_texts.proofs.Messages.{in_64, eight, eight_bytes}
use Rattle.fb_wire.specs.declared.message.Typed.{Typed}
use Rattle.fb_wire.specs.Views.{typed_of, code_of, value_bytes, all_bytes, head_bytes}

one_value : (e : ElemType) (x : ℤ) (rest : List ℕ) → FitsSigned w64 x → code_of e ∷ eight x ++ rest ≡ value_bytes (record { elem = e; value = x }) ++ rest
one_value e x rest f = ap (λ bs. code_of e ∷ bs ++ rest) (eight_bytes x f)

values_spelled : (vs : List Typed) → AllByRecursion (λ v. in_type v.elem v.value ≡ true) vs → fields (map typed_of vs) ≡ all_bytes vs
values_spelled [] h = refl
values_spelled (v ∷ vs) h = one_value v.elem v.value (fields (map typed_of vs)) (in_64 v.elem v.value h.0) ∙ ap (λ bs. value_bytes v ++ bs) (values_spelled vs h.1)

-- the first six bytes, and others behind them
abbrev pub behind_six : Message → List ℕ → List ℕ
behind_six m bs = 70 ∷ 66 ∷ version m.stamp ∷ purpose_code m.purpose ∷ m.number / 256 ∷ m.number % 256 ∷ bs

pub spelled : (m : Message) (vs : List Typed) → map typed_of vs ≡ m.values → AllByRecursion (λ v. in_type v.elem v.value ≡ true) vs → head_bytes m (length vs) ++ all_bytes vs ≡ spelling m
spelled m vs e h =
    ap (behind_six m) (append_assoc (stamp_bytes m.stamp) (length vs ∷ []) (all_bytes vs))
    ∙ ap (λ bs. behind_six m (stamp_bytes m.stamp ++ length vs ∷ bs)) (sym (values_spelled vs h) ∙ ap fields e)
    ∙ ap (λ k. behind_six m (stamp_bytes m.stamp ++ k ∷ fields m.values)) (sym (length-map vs typed_of) ∙ ap length e)
