-- What is taken at an event, by names and numbers, is what the book's leaf takes there.
use denote.Ref.{Bor}
use Rattle.std.proofs.Common.{◌≡◌, ℕ, ℤ, pos, Bool, true, false, cond, ◌||◌, List, [], ◌∷◌, ◌++◌, map, length, replicate, string_bytes, Option, Some, slice_get, refl, sym, ap, subst, ◌∙◌}
use Rattle.std.specs.List.{AllByRecursion}
use Rattle.std.specs.Str.{bytes_eq}
use Rattle.std.proofs.lemmas.List.{length-replicate, map-append}
use Rattle.fb_model.specs.Names.{Name, Path, is_in}
use Rattle.fb_model.specs.System as book
use Rattle.fb_model.specs.Services.{service_takes, service_event_inputs, arrivals, service_events}
use Rattle.fb_model.specs.Typing.{AreDistinct}
use Rattle.fb_model.specs.Wires as wires
use Rattle.fb_model.specs.Wires.{Kind, Charted, Serviced}
use Rattle.fb_model.specs.Store.{carried, takes}
use Rattle.fb_model.specs.Ranges.{Range, LinkFits, LeafLies}
use Rattle.fb_model.specs.Certificates.{event_names, events_of}
use Rattle.fb_model.specs.BlockTyping.{extent}
use Rattle.fb_model.proofs.Lists.{all_both, all_weaker}
use Rattle.fb_model.proofs.Placed.{Apart, apart, name_same}
use Rattle.fb_flat.specs.declared.flat.Source as from_source
use Rattle.fb_flat.specs.declared.flat.Source.TheVariants as g
use Rattle.fb_flat.specs.declared.flat.Input.{Input}
use Rattle.fb_flat.specs.Sources.{written_inputs}
use Rattle.fb_flat.specs.Tables.{IsLeaf, book_source, source_at, input_names}
use Rattle.fb_chart.specs.declared.table.Source.{Source}
use Rattle.fb_chart.specs.declared.table.Source.TheVariants as s
use Rattle.fb_chart.specs.declared.table.Take.{Take}
use Rattle.fb_chart.specs.declared.table.Event.{Event}
use Rattle.fb_chart.specs.Tables.{Each}
use Rattle.fb_device_tables.specs.Tables.{IsOrigin, IsTaken}
use Rattle.st_exec.specs.Forms.{Form, slot_in}
use Rattle.fb_chart.specs.Sampling.{count_among}
use Rattle.fb_device_tables.specs.Filling.{Seated, paths_of, source_named, IsSourceMade, IsTakeMade, served_with, events_with, arrived}
use Rattle.fb_device_tables.proofs.Lists.{image_at, each_append, each_weaker, each_second}
use Rattle.fb_device_tables.proofs.Points.{IsKnownLeaf, AreKnown, seat_at}

-- ---- the events of a leaf with what they are WITH

event_all : (P : Name → Type 0) (vs : List book.Event) → AllByRecursion P (event_names vs) → AllByRecursion (λ (v : book.Event). P v.name) vs
event_all P [] h = tt
event_all P (v ∷ vs) h = (h.0, event_all P vs h.1)

-- events of different names are each the first of its name
carried_own : (vs : List book.Event) → Apart (event_names vs) → AllByRecursion (λ (v : book.Event). carried vs v.name ≡ v.carries) vs
carried_own [] a = tt
carried_own (x ∷ xs) a = (
  ap (λ t. cond t x.carries (carried xs x.name)) (name_same x.name),
  all_both (λ (v : book.Event). bytes_eq x.name v.name ≡ false) (λ (v : book.Event). carried xs v.name ≡ v.carries) (λ (v : book.Event). carried (x ∷ xs) v.name ≡ v.carries) xs
      (λ v d h. ap (λ t. cond t x.carries (carried xs v.name)) d ∙ h) (event_all (λ n. bytes_eq x.name n ≡ false) xs a.0) (carried_own xs a.1),
)

all_served : (service : book.Service) (ns : List Name) → AllByRecursion (λ (v : book.Event). service_takes service v.name ≡ v.carries) (map (served_with service) ns)
all_served service [] = tt
all_served service (n ∷ ns) = (refl, all_served service ns)

-- each carries what a leaf of the kind takes at it
pub with_takes : (kind : Kind) → AreDistinct (events_of kind) → AllByRecursion (λ (v : book.Event). takes kind v.name ≡ v.carries) (events_with kind)
with_takes (Charted block) d = carried_own block.event_inputs (apart (event_names block.event_inputs) d)
with_takes (Serviced service) d = all_served service (service_events service)

served_names : (service : book.Service) (ns : List Name) → event_names (map (served_with service) ns) ≡ ns
served_names service [] = refl
served_names service (n ∷ ns) = ap (λ xs. n ∷ xs) (served_names service ns)

pub with_names : (kind : Kind) → event_names (events_with kind) ≡ events_of kind
with_names (Charted block) = refl
with_names (Serviced service) = served_names service (service_events service)

-- what is so of the names of a kind's events
pub with_all : (P : Name → Type 0) (kind : Kind) → AllByRecursion P (events_of kind) → AllByRecursion (λ (v : book.Event). P v.name) (events_with kind)
with_all P kind h = event_all P (events_with kind) (subst (AllByRecursion P) (sym (with_names kind)) h)

-- the event inputs of a service, and then its arrival
pub inputs_first : (service : book.Service) → service_events service ≡ service_event_inputs service ++ arrivals service
inputs_first (book.Input number types) = refl
inputs_first (book.Output number types) = refl
inputs_first (book.Publish channel types) = refl
inputs_first (book.Subscribe channel types) = refl
inputs_first book.Delay = refl
inputs_first book.Cycle = refl
inputs_first book.Restart = refl

pub served_borrowed : (service : book.Service) (bs : List (Bor Name)) → map (λ (b : Bor Name). served_with service b.now) bs ≡ map (served_with service) (map (λ (b : Bor Name). b.now) bs)
served_borrowed service [] = refl
served_borrowed service (b ∷ bs) = ap (λ vs. served_with service b.now ∷ vs) (served_borrowed service bs)

-- what is made of the event inputs and of the arrival is made of all events
pub served_made : (service : book.Service) (R : book.Event → Event → Type 0) (names : List Name) (es : List Event) (o : Option Event) → names ≡ service_event_inputs service → Each R (map (served_with service) names) es
    → Each R (map (served_with service) (arrivals service)) (arrived o) → Each R (events_with (Serviced service)) (es ++ arrived o)
served_made service R names es o same h k =
    let all : map (served_with service) names ++ map (served_with service) (arrivals service) ≡ events_with (Serviced service) =
    ap (λ ns. map (served_with service) ns ++ map (served_with service) (arrivals service)) same ∙ sym (map-append (served_with service) (service_event_inputs service) (arrivals service)) ∙ sym (ap (map (served_with service)) (inputs_first service)) in
    subst (λ (vs : List book.Event). Each R vs (es ++ arrived o)) all (each_append R (map (served_with service) names) (map (served_with service) (arrivals service)) es (arrived o) h k)

-- ---- sources

-- an input that is written has a source
source_found : (is : List Input) (x : Name) → is_in x (input_names is) ≡ true → (from : from_source.Source) × (source_named is x ≡ Some from) × (source_at is x ≡ book_source from)
source_found [] x h = absurd cc
source_found (i ∷ is) x h = by (bytes_eq x (string_bytes i.name)) h (source_found is x) where
  by : (t : Bool) → (t || is_in x (input_names is)) ≡ true → (is_in x (input_names is) ≡ true → (from : from_source.Source) × (source_named is x ≡ Some from) × (source_at is x ≡ book_source from))
      → (from : from_source.Source) × (cond t (Some i.source) (source_named is x) ≡ Some from) × (cond t (book_source i.source) (source_at is x) ≡ book_source from)
  by true h again = (i.source, refl, refl)
  by false h again = again h

zeros_filled : (count : ℕ) (n : ℤ) → n ≡ pos 0 → replicate count (pos 0) ≡ replicate (length (replicate count (pos 0))) n
zeros_filled count n h = ap (λ k. replicate k (pos 0)) (sym (length-replicate count (pos 0))) ∙ ap (replicate (length (replicate count (pos 0)))) (sym h)

-- the forms of the issued values of a seat
issued_at : (ss : List Seated) (n : ℕ) (s : Seated) (forms : List Form) → slice_get ss n ≡ Some s → slice_get (map (λ (u : Seated). u.issued) ss) n ≡ Some forms → s.issued ≡ forms
issued_at ss n s forms e f = let g : Some s.issued ≡ Some forms = sym (image_at (λ (u : Seated). u.issued) ss n s e) ∙ f in cc

origin_is : (ranges : List Range) (ss : List Seated) (bs : List wires.Leaf) → AreKnown ranges ss bs → (path : Path) (kind : Kind) (y : Name) (from : from_source.Source) (x : Source) → LinkFits ranges bs path kind y (book_source from) → IsSourceMade (paths_of ss) ss from x
    → IsOrigin bs (map (λ (u : Seated). u.issued) ss) x (book_source from)
origin_is ranges ss bs known path kind y (g.Output text name) (s.Output n z slot) link m =
    let at = seat_at ranges ss bs known (string_bytes text) n link.leaf link.found m.0 in
    (at.1, at.3, at.5, m.1, λ forms f. m.2 at.0 at.2 ∙ ap (λ fs. slot_in fs (string_bytes name)) (issued_at ss n at.0 forms at.2 f))
origin_is ranges ss bs known path kind y (g.Number k) (s.Number n) link m = sym m
origin_is ranges ss bs known path kind y (g.Zeros low high) (s.Number n) link m = zeros_filled (extent (low, high)) n m
origin_is ranges ss bs known path kind y (g.Output text name) (s.Number n) link m = absurd m
origin_is ranges ss bs known path kind y (g.Number k) (s.Output n z slot) link m = absurd m
origin_is ranges ss bs known path kind y (g.Zeros low high) (s.Output n z slot) link m = absurd m

-- ---- one event

module _ (ranges : List Range) (ss : List Seated) (bs : List wires.Leaf) (known : AreKnown ranges ss bs) (u : Seated) (b : wires.Leaf) (l : IsLeaf u.leaf b) (here : IsKnownLeaf b) (lies : LeafLies ranges bs b) where
  abbrev issues : List (List Form)
  issues = map (λ (v : Seated). v.issued) ss

  -- an input takes its value where the leaf's does
  taken_is : (x : Name) (t : Take) → LinkFits ranges bs b.path b.kind x (b.source x) × (is_in x (written_inputs b.kind) ≡ true) → IsTakeMade (paths_of ss) ss u.own u.leaf.inputs.items x t → IsTaken bs issues u.own b t
  taken_is x t h m =
      let from = source_found u.leaf.inputs.items x (ap (is_in x) l.inputs ∙ h.1) in
      let same : book_source from.0 ≡ b.source x = sym from.2 ∙ l.sources x h.1 in
      let link : LinkFits ranges bs b.path b.kind x (book_source from.0) = subst (LinkFits ranges bs b.path b.kind x) (sym same) h.0 in
      let origin : IsOrigin bs issues t.source (book_source from.0) = origin_is ranges ss bs known b.path b.kind x from.0 t.source link (m.source from.0 from.1) in
      record {
        origin = subst (IsOrigin bs issues t.source) (same ∙ ap b.source (sym m.input)) origin;
        slot = m.slot ∙ ap (slot_in u.own) (sym m.input);
        count = m.count ∙ ap (count_among u.own) (sym m.input);
      }

  all_listed : (ns : List Name) → AllByRecursion (λ (n : Name). is_in n ns ≡ true) ns
  all_listed [] = tt
  all_listed (n ∷ ns) = (ap (λ t. t || is_in n ns) (name_same n), all_weaker (λ (m : Name). is_in m ns ≡ true) (λ (m : Name). is_in m (n ∷ ns) ≡ true) ns (λ m h. or_true (bytes_eq m n) (is_in m ns) h) (all_listed ns))
    where
      or_true : (a c : Bool) → c ≡ true → (a || c) ≡ true
      or_true true c h = refl
      or_true false c h = h

  -- all that an event takes
  pub all_taken : (e : Name) (ts : List Take) → Each (IsTakeMade (paths_of ss) ss u.own u.leaf.inputs.items) (takes b.kind e) ts → AllByRecursion (IsTaken bs issues u.own b) ts
  all_taken e ts m =
      let xs = takes b.kind e in
      let linked : AllByRecursion (λ (x : Name). LinkFits ranges bs b.path b.kind x (b.source x) × (is_in x (written_inputs b.kind) ≡ true)) xs =
      all_weaker (λ (x : Name). is_in x xs ≡ true) (λ (x : Name). LinkFits ranges bs b.path b.kind x (b.source x) × (is_in x (written_inputs b.kind) ≡ true)) xs
      (λ x h. (lies.links e x h, ap (is_in x) here.written ∙ here.takes e x h)) (all_listed xs) in
      each_second (IsTaken bs issues u.own b) xs ts
      (each_weaker (λ (x : Name). LinkFits ranges bs b.path b.kind x (b.source x) × (is_in x (written_inputs b.kind) ≡ true)) (IsTakeMade (paths_of ss) ss u.own u.leaf.inputs.items) (λ (x : Name) (t : Take). IsTaken bs issues u.own b t) xs ts taken_is linked m)

-- the names of what is taken
pub inputs_taken : (paths : List Name) (all : List Seated) (own : List Form) (inputs : List Input) (xs : List Name) (ts : List Take) → Each (IsTakeMade paths all own inputs) xs ts → map (λ (t : Take). string_bytes t.input) ts ≡ xs
inputs_taken paths all own inputs [] [] m = refl
inputs_taken paths all own inputs [] (t ∷ ts) m = absurd m
inputs_taken paths all own inputs (x ∷ xs) [] m = absurd m
inputs_taken paths all own inputs (x ∷ xs) (t ∷ ts) m = ap (λ n. n ∷ map (λ (u : Take). string_bytes u.input) ts) m.0.input ∙ ap (λ ns. x ∷ ns) (inputs_taken paths all own inputs xs ts m.1)
