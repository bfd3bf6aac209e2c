-- The numbers that rows give nodes.
use Rattle.std.proofs.Common.{ℕ, zero, suc, ◌≡◌, ◌+◌, ◌<◌, ◌≤◌, ◌==◌, inl, inr, Bool, true, false, List, [], ◌∷◌, ◌++◌, length, map, slice_index_or, refl, sym, ◌∙◌, ap, subst, arith, Contains, if◌then◌else◌}
use Rattle.std.specs.List.{sum_by, AllByRecursion}
use Rattle.std.specs.Str.{bytes_eq}
use Rattle.std.proofs.lemmas.List.{length-map, length-append, get_or_append_left, get_or-append-add}
use Rattle.std.proofs.lemmas.List.Sums.{sum_by-cons}
use Rattle.std.proofs.lemmas.List.Elements.{Contains-append_cases, Contains-append_right}
use Rattle.fb_model.specs.Names.{Name, Place, place_eq}
use Rattle.fb_model.specs.Certificates.{Row, FarRow, ChannelRow, amount, far_amount, channel_amount, far_of, row_places, far_places, channel_rows, Certificate}
use Rattle.fb_model.specs.CertificateText.{place_of}
use Rattle.fb_model.proofs.Lists.{same_name}
use Rattle.fb_model.proofs.Placed.{name_same, path_same}
use Rattle.fb_model.specs.Demands.{Node, state, event, channel, Demand, IsMet}
use Rattle.fb_model.specs.Columns.{number_of}
use Rattle.fb_model.proofs.Networks.{number_turned}
use Rattle.fb_find_laws.specs.Numbered.{AreOf, AreLeast}
use Rattle.fb_find_laws.specs.Nodes.{written, index_in, rank_in, number, nodes_of}
use Rattle.fb_find_laws.specs.Finding.{row_number, HasNumbers, HasFarNumbers}
use Rattle.fb_find_laws.proofs.Members.{same_place}
use Rattle.fb_find_laws.proofs.Nodes.{written_place}
use Rattle.fb_find_laws.proofs.Same.{in_image}

same_test : (a b : Bool) → (a ≡ true → b ≡ true) → (b ≡ true → a ≡ true) → a ≡ b
same_test true true f g = refl
same_test true false f g = sym (f refl)
same_test false true f g = g refl
same_test false false f g = refl

-- two texts have one place just where they are the same
same_texts : (s t : Name) → place_eq (place_of s) (place_of t) ≡ bytes_eq t s
same_texts s t =
    same_test (place_eq (place_of s) (place_of t)) (bytes_eq t s)
    (λ h. let e : s ≡ t = sym (written_place s) ∙ (ap written (same_place (place_of s) (place_of t) h) ∙ written_place t) in subst (λ (u : Name). bytes_eq t u ≡ true) (sym e) (name_same t))
    (λ h. subst (λ (u : Name). place_eq (place_of u) (place_of t) ≡ true) (same_name t s h) (itself (place_of t)))
  where
    itself : (p : Place) → place_eq p p ≡ true
    itself p = rw (path_same p.path, name_same p.event) refl

-- the number of the row of a text is that at its place among the texts
amount_at : (f : Row → ℕ) (rows : List Row) (ts : List Name) (t : Name) → row_places rows ≡ map place_of ts → amount f rows (place_of t) ≡ slice_index_or (map f rows) (index_in ts t) 0
amount_at f [] [] t e = refl
amount_at f [] (s ∷ ts) t e = absurd cc
amount_at f (r ∷ rows) [] t e = absurd cc
amount_at f (r ∷ rows) (s ∷ ts) t e =
    let here : r.place ≡ place_of s = cc in
    let rest : row_places rows ≡ map place_of ts = cc in
    by (place_eq r.place (place_of t)) (ap (λ p. place_eq p (place_of t)) here ∙ same_texts s t) (amount_at f rows ts t rest)
  where
    by : (b : Bool) → b ≡ bytes_eq t s → amount f rows (place_of t) ≡ slice_index_or (map f rows) (index_in ts t) 0 → (if b then f r else amount f rows (place_of t)) ≡ slice_index_or (f r ∷ map f rows) (index_in (s ∷ ts) t) 0
    by true q h = rw (sym q) refl
    by false q h = rw (sym q) (h ∙ sym (get_or-append-add (f r ∷ []) (map f rows) (index_in ts t) 0))

length_places : (rows : List Row) → length (row_places rows) ≡ length rows
length_places [] = refl
length_places (r ∷ rows) = ap suc (length_places rows)

state_number : (f : Row → ℕ) (states events : List Name) (cert : Certificate) (y : List ℕ) (t : Name) → HasNumbers f states events cert y → index_in states t < length states → row_number f cert (state (place_of t)) ≡ slice_index_or y (index_in states (written (place_of t))) 0
state_number f states events cert y t h l =
    let sized : length (map f cert.charges) ≡ length states = length-map cert.charges f ∙ (sym (length_places cert.charges) ∙ (ap length h.charges_are ∙ length-map states place_of)) in
    amount_at f cert.charges states t h.charges_are
    ∙ (sym (get_or_append_left (map f cert.charges) (map f cert.weights) 0 (index_in states t) (omega (arith, l, sized))) ∙ (ap (λ (ns : List ℕ). slice_index_or ns (index_in states t) 0) h.numbers ∙ ap (λ (u : Name). slice_index_or y (index_in states u) 0) (sym (written_place t))))

event_number : (f : Row → ℕ) (states events : List Name) (cert : Certificate) (y : List ℕ) (t : Name) → HasNumbers f states events cert y → row_number f cert (event (place_of t)) ≡ slice_index_or y (length states + index_in events (written (place_of t))) 0
event_number f states events cert y t h =
    let sized : length (map f cert.charges) ≡ length states = length-map cert.charges f ∙ (sym (length_places cert.charges) ∙ (ap length h.charges_are ∙ length-map states place_of)) in
    amount_at f cert.weights events t h.weights_are
    ∙ (sym (get_or-append-add (map f cert.charges) (map f cert.weights) (index_in events t) 0)
    ∙ (ap (λ (ns : List ℕ). slice_index_or ns (length (map f cert.charges) + index_in events t) 0) h.numbers
    ∙ (ap (λ (n : ℕ). slice_index_or y (n + index_in events t) 0) sized ∙ ap (λ (u : Name). slice_index_or y (length states + index_in events u) 0) (sym (written_place t)))))

-- ---- nodes

past_end : {X : Type 0} (xs : List X) (k : ℕ) (d : X) → length xs ≤ k → slice_index_or xs k d ≡ d
past_end [] k d h = refl
past_end (x ∷ xs) zero d h = absurd (omega (arith, h))
past_end (x ∷ xs) (suc k) d h = past_end xs k d (omega (arith, h))

row_at : (t : Name) (ts : List Name) → Contains ts t → index_in ts t < length ts
row_at t [] k = absurd (omega (arith, k.1))
row_at t (s ∷ ts) k = by (bytes_eq t s) refl k (row_at t ts) where
  by : (b : Bool) → bytes_eq t s ≡ b → Contains (s ∷ ts) t → (Contains ts t → index_in ts t < length ts) → index_in (s ∷ ts) t < length (s ∷ ts)
  by true e k g = rw e (omega arith)
  by false e (zero, l, is) g = let z : bytes_eq t s ≡ true = subst (λ (u : Name). bytes_eq t u ≡ true) (sym is) (name_same t) in absurd cc
  by false e (suc m, l, is) g = let i = g (m, omega (arith, l), is) in rw e (omega (arith, i))

-- a node is one of a state, of an event or of a channel
pub data IsOneOf (states events : List Name) (channels : List ℕ) (x : Node) : Type 0 where
  a_state : (t : Name) → Contains states t → state (place_of t) ≡ x → IsOneOf states events channels x
  an_event : (t : Name) → Contains events t → event (place_of t) ≡ x → IsOneOf states events channels x
  a_channel : (c : ℕ) → Contains channels c → channel c ≡ x → IsOneOf states events channels x

node_is : (states events : List Name) (channels : List ℕ) (x : Node) → Contains (nodes_of states events channels) x → IsOneOf states events channels x
node_is states events channels x c = elim (Contains-append_cases (map (λ t. state (place_of t)) states) (map (λ t. event (place_of t)) events ++ map channel channels) x c) [
  | inl l ↦ let i = in_image (λ t. state (place_of t)) states x l in a_state i.0 i.1 i.2
  | inr m ↦ elim (Contains-append_cases (map (λ t. event (place_of t)) events) (map channel channels) x m) [
    | inl l ↦ let i = in_image (λ t. event (place_of t)) events x l in an_event i.0 i.1 i.2
    | inr r ↦ let i = in_image channel channels x r in a_channel i.0 i.1 i.2
  ]
]

pub numbers_are : (f : Row → ℕ) (states events : List Name) (channels : List ℕ) (cert : Certificate) (y : List ℕ) → HasNumbers f states events cert y → (x : Node) → Contains (nodes_of states events channels) x → row_number f cert x ≡ slice_index_or y (number states events channels x) 0
numbers_are f states events channels cert y h x c = by (node_is states events channels x c) where
  sized : length y ≡ length states + length events
  sized =
      let a = length-map cert.charges f ∙ (sym (length_places cert.charges) ∙ (ap length h.charges_are ∙ length-map states place_of)) in
      let b = length-map cert.weights f ∙ (sym (length_places cert.weights) ∙ (ap length h.weights_are ∙ length-map events place_of)) in
      omega (arith, a, b, ap length h.numbers, length-append (map f cert.charges) (map f cert.weights))

  by : IsOneOf states events channels x → row_number f cert x ≡ slice_index_or y (number states events channels x) 0
  by (a_state t k e) = subst (λ (v : Node). row_number f cert v ≡ slice_index_or y (number states events channels v) 0) e (state_number f states events cert y t h (row_at t states k))
  by (an_event t k e) = subst (λ (v : Node). row_number f cert v ≡ slice_index_or y (number states events channels v) 0) e (event_number f states events cert y t h)
  by (a_channel n k e) = subst (λ (v : Node). row_number f cert v ≡ slice_index_or y (number states events channels v) 0) e (sym (past_end y (length states + (length events + rank_in channels n)) 0 (omega (arith, sized))))

-- ---- the network

-- a row FAR or FARSTATE as one of two numbers
abbrev row_of : FarRow → Row
row_of r = record { place = r.place; steps = r.steps; places = 0 }

far_as_row : (rows : List FarRow) (p : Place) → far_amount rows p ≡ amount (λ (r : Row). r.steps) (map row_of rows) p
far_as_row [] p = refl
far_as_row (r ∷ rows) p = ap (λ n. if place_eq r.place p then r.steps else n) (far_as_row rows p)

far_places_as : (rows : List FarRow) → row_places (map row_of rows) ≡ far_places rows
far_places_as [] = refl
far_places_as (r ∷ rows) = ap (λ ps. r.place ∷ ps) (far_places_as rows)

far_steps_as : (rows : List FarRow) → map (λ (r : Row). r.steps) (map row_of rows) ≡ map (λ (r : FarRow). r.steps) rows
far_steps_as [] = refl
far_steps_as (r ∷ rows) = ap (λ ns. r.steps ∷ ns) (far_steps_as rows)

far_at : (rows : List FarRow) (ts : List Name) (t : Name) → far_places rows ≡ map place_of ts → far_amount rows (place_of t) ≡ slice_index_or (map (λ (r : FarRow). r.steps) rows) (index_in ts t) 0
far_at rows ts t e =
    far_as_row rows (place_of t) ∙ (amount_at (λ (r : Row). r.steps) (map row_of rows) ts t (far_places_as rows ∙ e) ∙ ap (λ ns. slice_index_or ns (index_in ts t) 0) (far_steps_as rows))

channel_at : (rows : List ChannelRow) (c : ℕ) → channel_amount rows c ≡ slice_index_or (map (λ (r : ChannelRow). r.steps) rows) (rank_in (channel_rows rows) c) 0
channel_at [] c = refl
channel_at (r ∷ rows) c = by (r.channel == c) (number_turned c r.channel) (channel_at rows c) where
  by : (b : Bool) → (c == r.channel) ≡ b → channel_amount rows c ≡ slice_index_or (map (λ (r : ChannelRow). r.steps) rows) (rank_in (channel_rows rows) c) 0
      → (if b then r.steps else channel_amount rows c) ≡ slice_index_or (map (λ (r : ChannelRow). r.steps) (r ∷ rows)) (rank_in (channel_rows (r ∷ rows)) c) 0
  by true q h = rw q refl
  by false q h = rw q (h ∙ sym (get_or-append-add (r.steps ∷ []) (map (λ (r : ChannelRow). r.steps) rows) (rank_in (channel_rows rows) c) 0))

length_fars : (rows : List FarRow) → length (far_places rows) ≡ length rows
length_fars [] = refl
length_fars (r ∷ rows) = ap suc (length_fars rows)

abbrev steps_in : List FarRow → List ℕ
steps_in rows = map (λ (r : FarRow). r.steps) rows

abbrev sent_in : List ChannelRow → List ℕ
sent_in rows = map (λ (r : ChannelRow). r.steps) rows

pub far_numbers_are : (states events : List Name) (channels : List ℕ) (cert : Certificate) (y : List ℕ) → HasFarNumbers states events channels cert y → (x : Node) → Contains (nodes_of states events channels) x → number_of (far_of cert) x ≡ slice_index_or y (number states events channels x) 0
far_numbers_are states events channels cert y h x c = by (node_is states events channels x c) where
  front : length (steps_in cert.far_states) ≡ length states
  front = length-map cert.far_states (λ (r : FarRow). r.steps) ∙ (sym (length_fars cert.far_states) ∙ (ap length h.states_are ∙ length-map states place_of))

  middle : length (steps_in cert.fars) ≡ length events
  middle = length-map cert.fars (λ (r : FarRow). r.steps) ∙ (sym (length_fars cert.fars) ∙ (ap length h.events_are ∙ length-map events place_of))

  -- what stands behind the states
  behind : (k : ℕ) → slice_index_or y (length states + k) 0 ≡ slice_index_or ((steps_in cert.fars) ++ (sent_in cert.channels)) k 0
  behind k = ap (λ (ns : List ℕ). slice_index_or ns (length states + k) 0) (sym h.numbers) ∙ (ap (λ n. slice_index_or ((steps_in cert.far_states) ++ ((steps_in cert.fars) ++ (sent_in cert.channels))) (n + k) 0) (sym front) ∙ get_or-append-add (steps_in cert.far_states) ((steps_in cert.fars) ++ (sent_in cert.channels)) k 0)

  by : IsOneOf states events channels x → number_of (far_of cert) x ≡ slice_index_or y (number states events channels x) 0
  by (a_state t k e) =
      subst (λ (v : Node). number_of (far_of cert) v ≡ slice_index_or y (number states events channels v) 0) e
      (far_at cert.far_states states t h.states_are
      ∙ (sym (get_or_append_left (steps_in cert.far_states) ((steps_in cert.fars) ++ (sent_in cert.channels)) 0 (index_in states t) (omega (arith, row_at t states k, front))) ∙ (ap (λ (ns : List ℕ). slice_index_or ns (index_in states t) 0) h.numbers ∙ ap (λ (u : Name). slice_index_or y (index_in states u) 0) (sym (written_place t)))))
  by (an_event t k e) =
      subst (λ (v : Node). number_of (far_of cert) v ≡ slice_index_or y (number states events channels v) 0) e
      (far_at cert.fars events t h.events_are
      ∙ (sym (get_or_append_left (steps_in cert.fars) (sent_in cert.channels) 0 (index_in events t) (omega (arith, row_at t events k, middle))) ∙ (sym (behind (index_in events t)) ∙ ap (λ (u : Name). slice_index_or y (length states + index_in events u) 0) (sym (written_place t)))))
  by (a_channel n k e) =
      subst (λ (v : Node). number_of (far_of cert) v ≡ slice_index_or y (number states events channels v) 0) e
      (channel_at cert.channels n
      ∙ (ap (λ cs. slice_index_or (sent_in cert.channels) (rank_in cs n) 0) h.channels_are
      ∙ (sym (get_or-append-add (steps_in cert.fars) (sent_in cert.channels) (rank_in channels n) 0) ∙ (ap (λ i. slice_index_or ((steps_in cert.fars) ++ (sent_in cert.channels)) (i + rank_in channels n) 0) middle ∙ sym (behind (length events + rank_in channels n))))))

-- ---- least numbers that rows have

sums_same : (x y : Node → ℕ) (nodes ts : List Node) → ((v : Node) → Contains nodes v → x v ≡ y v) → ((v : Node) → Contains ts v → Contains nodes v) → sum_by x ts ≡ sum_by y ts
sums_same x y nodes [] e h = refl
sums_same x y nodes (t ∷ ts) e h =
    omega (arith, sum_by-cons x t ts, sum_by-cons y t ts, e t (h t (0, omega arith, refl)), sums_same x y nodes ts e (λ v c. h v (Contains-append_right (t ∷ []) ts v c)))

met_same : (x y : Node → ℕ) (nodes : List Node) (ds : List Demand) → ((v : Node) → Contains nodes v → x v ≡ y v) → AreOf nodes ds → (es : List Demand) → ((d : Demand) → Contains es d → Contains ds d) → AllByRecursion (IsMet x) es → AllByRecursion (IsMet y) es
met_same x y nodes ds e o [] h m = tt
met_same x y nodes ds e o (d ∷ es) h m =
    let here = h d (0, omega arith, refl) in
    (omega (arith, m.0, sums_same x y nodes d.terms e (λ v c. o.terms d v here c), e d.node (o.node d here)), met_same x y nodes ds e o es (λ f c. h f (Contains-append_right (d ∷ []) es f c)) m.1)

pub least_same : (x y : Node → ℕ) (nodes : List Node) (ds : List Demand) → ((v : Node) → Contains nodes v → x v ≡ y v) → AreOf nodes ds → AreLeast nodes ds x → AreLeast nodes ds y
least_same x y nodes ds e o l = record {
  meets = met_same x y nodes ds e o ds (λ d c. c) l.meets;
  least = λ z m v c. omega (arith, l.least z m v c, e v c);
}

-- least numbers of nodes are least numbers of fewer nodes
pub least_of_fewer : (nodes some : List Node) (ds : List Demand) (x : Node → ℕ) → ((v : Node) → Contains some v → Contains nodes v) → AreLeast nodes ds x → AreLeast some ds x
least_of_fewer nodes some ds x h l = record { meets = l.meets; least = λ y m v c. l.least y m v (h v c) }
