-- The rows of the tables and the numbers of the book.
use Rattle.std.proofs.Common.{◌≡◌, ◌≤◌, ◌+◌, ℕ, Bool, true, false, cond, arith, subst, List, [], ◌∷◌, ◌++◌, map, refl, sym, ap, ◌∙◌, string_bytes}
use Rattle.std.specs.Prelude.{◌==◌, min}
use Rattle.std.specs.List.{sum_by, AllByRecursion}
use Rattle.std.proofs.lemmas.List.Sums.{sum_by-cons}
use Rattle.fb_model.specs.Names.{Name, Path, Place, at_place, place_eq}
use Rattle.fb_model.specs.Spelling.{IsWord}
use Rattle.fb_model.specs.CertificateText.{names_in, place_of, all_but_last, last_name, most_steps, most_places}
use Rattle.fb_model.specs.Certificates as book
use Rattle.fb_model.proofs.Lists.{all_weaker}
use Rattle.fb_model_texts.specs.Small.{IsSmall, IsSmallFar, IsSmallChannel, AreSmall}
use Rattle.fb_model_texts.proofs.Small.{amount_small}
use Rattle.fb_cert.specs.declared.certificate.Amount.{Amount}
use Rattle.fb_cert.specs.declared.certificate.Certificate.{Certificate}
use Rattle.fb_cert.specs.Views.{Table, amount_rows, far_rows, first_at, rows_of, certificate_of, steps_in, places_in, count_in}
use Rattle.fb_cert.proofs.Places.{steps_same, places_same, fars_same}
use Rattle.fb_flat.specs.declared.flat.Target.{Target}
use Rattle.fb_flat.specs.Tables.{target_place}
use Rattle.fb_flat.specs.Sites.{dotted}
use Rattle.fb_flat.proofs.Dotted.{names_dotted}
use Rattle.fb_check_columns.specs.declared.column.Column.{Column}
use Rattle.fb_check_columns.specs.declared.column.Column.TheVariants.{Steps, Places, Far}
use Rattle.fb_check_columns.specs.Columns.{unit_of, column_of}
use Rattle.fb_check_columns.specs.Reckoning.{weight_of, charge_of, target_weight, load_of}

front : (ns : Path) (n : Name) → all_but_last (ns ++ n ∷ []) ≡ ns
front [] n = refl
front (m ∷ []) n = refl
front (m ∷ o ∷ ns) n = ap (λ x. m ∷ x) (front (o ∷ ns) n)

end : (ns : Path) (n : Name) → last_name (ns ++ n ∷ []) ≡ n
end [] n = refl
end (m ∷ []) n = refl
end (m ∷ o ∷ ns) n = end (o ∷ ns) n

pub place_dotted : (path x : Name) → IsWord x → place_of (dotted path x) ≡ at_place (names_in path) x
place_dotted path x h =
    let e = names_dotted path x h in
    ap (λ ns. at_place (all_but_last ns) (last_name ns)) e ∙ ap (λ p. at_place p (last_name (names_in path ++ x ∷ []))) (front (names_in path) x) ∙ ap (at_place (names_in path)) (end (names_in path) x)

least : (n m : ℕ) → n ≤ m → n ≡ min n m
least n m h = omega (arith, h)

-- what is said on all devices of the first row of a place is no more than what is said of all
pub far_small : (rows : List book.FarRow) (p : Place) → AllByRecursion IsSmallFar rows → book.far_amount rows p ≤ most_steps
far_small [] p h = omega arith
far_small (r ∷ rs) p h = by (place_eq r.place p) (far_small rs p h.1) where
  by : (b : Bool) → book.far_amount rs p ≤ most_steps → cond b r.steps (book.far_amount rs p) ≤ most_steps
  by true others = h.0
  by false others = others

-- the same of the rows of channels
pub channel_small : (rows : List book.ChannelRow) (c : ℕ) → AllByRecursion IsSmallChannel rows → book.channel_amount rows c ≤ most_steps
channel_small [] c h = omega arith
channel_small (r ∷ rs) c h = by (r.channel == c) (channel_small rs c h.1) where
  by : (b : Bool) → book.channel_amount rs c ≤ most_steps → cond b r.steps (book.channel_amount rs c) ≤ most_steps
  by true others = h.0
  by false others = others

-- the most places are fewer than the most steps
few : (n : ℕ) → n ≤ most_places → n ≤ most_steps
few n h = omega (arith, h)

-- a number within the most steps is what is left of it when it is capped there
capped_is : (a n : ℕ) → a ≡ n → a ≤ most_steps → a ≡ min n most_steps
capped_is a n e h = e ∙ least n most_steps (subst (λ k. k ≤ most_steps) e h)

steps_are : (rows : Table Amount) (path : List ℕ) → AllByRecursion IsSmall (amount_rows rows) → book.amount (λ r. r.steps) (amount_rows rows) (place_of path) ≡ min (steps_in (first_at path rows)) most_steps
steps_are rows path h =
    let small = amount_small (λ r. r.steps) most_steps (amount_rows rows) (place_of path) (all_weaker IsSmall (λ (r : book.Row). r.steps ≤ most_steps) (amount_rows rows) (λ r k. k.0) h) in
    capped_is _ _ (steps_same rows path) small

places_are : (rows : Table Amount) (path : List ℕ) → AllByRecursion IsSmall (amount_rows rows) → book.amount (λ r. r.places) (amount_rows rows) (place_of path) ≡ min (places_in (first_at path rows)) most_steps
places_are rows path h =
    let small = amount_small (λ r. r.places) most_places (amount_rows rows) (place_of path) (all_weaker IsSmall (λ (r : book.Row). r.places ≤ most_places) (amount_rows rows) (λ r k. k.1) h) in
    capped_is _ _ (places_same rows path) (few _ small)

-- the book reads of rows on all devices what the tables read
fars_are : (rows : Table ℕ) (path : List ℕ) → AllByRecursion IsSmallFar (far_rows rows) → book.far_amount (far_rows rows) (place_of path) ≡ min (count_in (first_at path rows)) most_steps
fars_are rows path h = capped_is _ _ (fars_same rows path) (far_small (far_rows rows) (place_of path) h)

pub charge_is : (c : Column) (cert : Certificate) → AreSmall (certificate_of cert) → (path x : Name) → IsWord x → (column_of c (certificate_of cert)).charge (at_place (names_in path) x) ≡ charge_of c cert path x
charge_is Steps cert small path x h = ap (column_of Steps (certificate_of cert)).charge (sym (place_dotted path x h)) ∙ steps_are (rows_of cert).charges (dotted path x) small.charges
charge_is Places cert small path x h = ap (column_of Places (certificate_of cert)).charge (sym (place_dotted path x h)) ∙ places_are (rows_of cert).charges (dotted path x) small.charges
charge_is Far cert small path x h = ap (column_of Far (certificate_of cert)).charge (sym (place_dotted path x h)) ∙ fars_are (rows_of cert).far_states (dotted path x) small.far_states

pub weight_is : (c : Column) (cert : Certificate) → AreSmall (certificate_of cert) → (path x : Name) → IsWord x → (column_of c (certificate_of cert)).weight (at_place (names_in path) x) ≡ weight_of c cert path x
weight_is Steps cert small path x h = ap (column_of Steps (certificate_of cert)).weight (sym (place_dotted path x h)) ∙ steps_are (rows_of cert).weights (dotted path x) small.weights
weight_is Places cert small path x h = ap (column_of Places (certificate_of cert)).weight (sym (place_dotted path x h)) ∙ places_are (rows_of cert).weights (dotted path x) small.weights
weight_is Far cert small path x h = ap (column_of Far (certificate_of cert)).weight (sym (place_dotted path x h)) ∙ fars_are (rows_of cert).fars (dotted path x) small.fars

pub unit_is : (c : Column) (cert : Certificate) → (column_of c (certificate_of cert)).unit ≡ unit_of c
unit_is Steps cert = refl
unit_is Places cert = refl
unit_is Far cert = refl

-- the weights of all targets
pub load_is : (c : Column) (cert : Certificate) (small : AreSmall (certificate_of cert)) (ts : List Target) → AllByRecursion (λ (p : Place). IsWord p.event) (map target_place ts) → load_of c cert ts ≡ sum_by (column_of c (certificate_of cert)).weight (map target_place ts)
load_is c cert small [] h = refl
load_is c cert small (t ∷ ts) h =
    let w = (column_of c (certificate_of cert)).weight in
    let one : target_weight c cert t ≡ w (target_place t) = sym (weight_is c cert small (string_bytes t.path) (string_bytes t.event) h.0) in
    sum_by-cons (target_weight c cert) t ts ∙ ap (λ n. n + load_of c cert ts) one ∙ ap (λ n. w (target_place t) + n) (load_is c cert small ts h.1) ∙ sym (sum_by-cons w (target_place t) (map target_place ts))
