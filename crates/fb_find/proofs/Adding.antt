-- Rows CHARGE and WEIGHT of nodes.
use Rattle.std.proofs.Common.{ℕ, ◌≡◌, ◌≤◌, suc, Option, true, sym, ap, ap₂, subst, ◌∙◌, arith, List, [], ◌∷◌, drop, length, string_bytes, Result, Ok, Err, OnOk}
use Rattle.std.specs.List.{All, AllByRecursion}
use Rattle.std.proofs.lemmas.List.{length-map}
use Rattle.std.proofs.lemmas.List.Elements.{All-drop}
use Rattle.fb_model.specs.Names.{Name}
use Rattle.fb_model.specs.System.{System}
use Rattle.fb_model.specs.Ranges.{Range}
use Rattle.fb_model.specs.Certificates.{all_leaves}
use Rattle.fb_model.specs.CertificateText.{most_places, most_steps}
use Rattle.fb_model.specs.Columns.{demands}
use Rattle.fb_cert.specs.Adding.{is_upper_path}
use Rattle.fb_cert.specs.Views.{Rows}
use Rattle.fb_flat.specs.declared.flat.FlatDevice.{FlatDevice}
use Rattle.fb_check_rows.specs.Texts.{texts_of}
use Rattle.fb_check_rows.specs.declared.kind.RowKind.{RowKind}
use Rattle.fb_check_rows.specs.declared.kind.RowKind.TheVariants.{Charge, Weight}
use Rattle.fb_find_ranges.proofs.Capitals.{rows_have_capitals}
use Rattle.fb_find_rows.specs.Numbers.{amounts, CanBeSaid, with_charges, with_weights}
use Rattle.fb_find_demands.specs.declared.numbered.Numbering.{Numbering}
use Rattle.fb_find.specs.Columns.{AreSmallest}
use Rattle.fb_find.specs.Parts.{CanBeAdded, events_in, HasRanges, IsReady, states_in, with_columns}

-- ---- one kind after the other

pub both_added : {E : Type 0} (n : Numbering) (steps places : List ℕ) (count : ℕ) (more_steps more_places : List ℕ) (old mid : Rows) (r : Result (Unit {0}) E) (new : Rows) → CanBeAdded n steps places old → count ≡ length n.states.keys → more_steps ≡ drop count steps → more_places ≡ drop count places
    → (old.charges ≡ [] → CanBeSaid (states_in n) steps places → mid ≡ with_charges (amounts (states_in n) steps places) old)
    → (mid.weights ≡ [] → CanBeSaid (events_in n) more_steps more_places → OnOk r (new ≡ with_weights (amounts (events_in n) more_steps more_places) mid))
    → OnOk r (new ≡ with_columns n steps places old)
both_added n steps places count more_steps more_places old mid r new can e s p charged weighed =
    let first = charged can.no_charge can.states_can in
    let same : count ≡ length (states_in n) = e ∙ sym (length-map n.states.keys string_bytes) in
    let ms : more_steps ≡ drop (length (states_in n)) steps = s ∙ ap (λ k. drop k steps) same in
    let mp : more_places ≡ drop (length (states_in n)) places = p ∙ ap (λ k. drop k places) same in
    let second = weighed (ap (λ (rows : Rows). rows.weights) first ∙ can.no_weight) (subst (λ xs. CanBeSaid (events_in n) more_steps xs) (sym mp) (subst (λ xs. CanBeSaid (events_in n) xs (drop (length (states_in n)) places)) (sym ms) can.events_can)) in
    on_ok r (λ q. q ∙ ap₂ (λ xs ys. with_weights (amounts (events_in n) xs ys) mid) ms mp ∙ ap (λ (rows : Rows). with_weights (amounts (events_in n) (drop (length (states_in n)) steps) (drop (length (states_in n)) places)) rows) first) second
  where
    on_ok : {A E : Type 0} {P Q : Type 0} (r : Result A E) → (P → Q) → OnOk r P → OnOk r Q
    on_ok (Ok a) f h = f h
    on_ok (Err e) f h = tt

-- the same where the numbers are read by other names
pub read_added : (n : Numbering) (steps places xs ys : List ℕ) (old new : Rows) → xs ≡ steps → ys ≡ places → CanBeAdded n steps places old → (CanBeAdded n xs ys old → new ≡ with_columns n xs ys old) → new ≡ with_columns n steps places old
read_added n steps places xs ys old new e f can made =
    made (subst (λ zs. CanBeAdded n xs zs old) (sym f) (subst (λ zs. CanBeAdded n zs places old) (sym e) can)) ∙ ap₂ (λ s p. with_columns n s p old) e f

-- ---- what can be said

pub all_listed : {X : Type 0} (P : X → Type 0) (xs : List X) → All P xs → AllByRecursion P xs
all_listed P [] a = tt
all_listed P (x ∷ xs) a = (a 0 x (omega arith), all_listed P xs (λ k d l. a (suc k) d (omega (arith, l))))

pub upper_names : (kind : RowKind) (devices : List FlatDevice) (names : List Name) → All (λ t. is_upper_path t ≡ true) (texts_of kind devices) → names ≡ texts_of kind devices → All (λ t. is_upper_path t ≡ true) names
upper_names kind devices names a same = subst (λ (ts : List Name). All (λ t. is_upper_path t ≡ true) ts) (sym same) a

module _ (repeats : Option ℕ) (devices : List FlatDevice) (n : Numbering) (order : List ℕ) (s : System) (ready : IsReady repeats devices n order s) (ranges : List Range) where
  pub can_add : (steps places : List ℕ) (rows : Rows) → AreSmallest n (demands 1 ranges (all_leaves s.devices)) most_steps steps → AreSmallest n (demands 0 ranges (all_leaves s.devices)) most_places places → HasRanges s ranges rows → CanBeAdded n steps places rows
  can_add steps places rows a b has =
      let given = ready.numbering.numbered.given in
      record {
        states_can = record { paths = upper_names Charge devices (states_in n) (rows_have_capitals Charge devices s given.tables given.capitals) ready.numbering.states; few_steps = a.small; few_places = b.small };
        events_can =
            record {
              paths = upper_names Weight devices (events_in n) (rows_have_capitals Weight devices s given.tables given.capitals) ready.numbering.events;
              few_steps = All-drop (λ k. k ≤ most_steps) (length (states_in n)) steps a.small;
              few_places = All-drop (λ k. k ≤ most_places) (length (states_in n)) places b.small;
            };
        no_charge = has.no_charge;
        no_weight = has.no_weight;
      }
