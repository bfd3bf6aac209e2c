use Rattle.std.proofs.Common.{rules, ℕ, suc, ◌≡◌, ◌++◌, false, List, ℤ, sym, ◌∙◌, ap, subst, to_z, of_z, w64, take}
use Rattle.std.specs.Int.{w128}
use Rattle.fb_words.specs.Numbers.{in_type}
use Rattle.std.specs.Prelude.{Some}
use Rattle.std.proofs.lemmas.Int.{to_z-of_z}
use Rattle.std.proofs.lemmas.List.{take-append-drop}
use Rattle.fb_wire.specs.Views.{value_bytes}
use Rattle.fb_model.specs.Fields.{first_fault, values_in, Value}
use Rattle.fb_wire.proofs.Reading.{spelled, value_wrong}
use Rattle.fb_wire.proofs.decoding.value.Goals as goal

-- src/decoding.rt:101:9
pub returns-then-not-fits-clause-fault : goal.returns-then-not-fits-clause-fault
returns-then-not-fits-clause-fault c =
    λ n.
    let x = c.number-value.result in
    let e = c.in-Some.elem in
    let after = c.in_ok-code.rest.now in
    let part = c.in-Some-split_first_chunk.value.now in
    let rest = c.in-Some-split_first_chunk.rest.now in
    let parts = c.in-Some-split_first_chunk.ensures.cases in
    let whole : after ≡ part ++ rest = sym (ap (λ (p : List ℕ). p ++ rest) parts.0 ∙ ap (λ (r : List ℕ). take 8 after ++ r) parts.1 ∙ take-append-drop 8 after) in
    let bytes_are = spelled c.args.bytes.now c.in_ok-code.code.now after part rest e x c.in_ok-code.ensures.whole.0 c.in_ok-code.ensures.whole.1 c.in-Some.ensures.code whole c.number-value.ensures in
    let same : to_z w64 (of_z w64 x) ≡ x = to_z-of_z w64 x (search rules) in
    let wide : to_z w128 (of_z w128 c.from.result) ≡ x = to_z-of_z w128 c.from.result (search rules) ∙ c.from.ensures ∙ same in
    let wrong : in_type e x ≡ false = ap (in_type e) (sym wide) ∙ sym c.fits.ensures ∙ c.if-not-fits.true in
    subst (λ (bs : List ℕ). first_fault (values_in (suc n) bs) bs ≡ Some Value) (sym bytes_are) (value_wrong e x n rest (search rules) wrong)

-- src/decoding.rt:87:1
pub returns-clause-spelled : goal.returns-clause-spelled
returns-clause-spelled c =
    let x = c.number-value.result in
    let after = c.in_ok-code.rest.now in
    let part = c.in-Some-split_first_chunk.value.now in
    let rest = c.in-Some-split_first_chunk.rest.now in
    let parts = c.in-Some-split_first_chunk.ensures.cases in
    let whole : after ≡ part ++ rest = sym (ap (λ (p : List ℕ). p ++ rest) parts.0 ∙ ap (λ (r : List ℕ). take 8 after ++ r) parts.1 ∙ take-append-drop 8 after) in
    let same : to_z w64 (of_z w64 x) ≡ x = to_z-of_z w64 x (search rules) in
    subst (λ (y : ℤ). c.args.bytes.now ≡ value_bytes (record { elem = c.in-Some.elem; value = y }) ++ rest) (sym same)
    (spelled c.args.bytes.now c.in_ok-code.code.now after part rest c.in-Some.elem x c.in_ok-code.ensures.whole.0 c.in_ok-code.ensures.whole.1 c.in-Some.ensures.code whole c.number-value.ensures)
