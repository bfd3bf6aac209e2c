-- Rows of the network are added one kind after another.
use Rattle.std.specs.Prelude.{◌&&◌}
use Rattle.std.proofs.Common.{ℕ, ◌≡◌, ◌≤◌, ◌<◌, ◌==◌, Bool, true, false, not, sym, ap, ap₂, subst, ◌∙◌, arith, List, [], ◌∷◌, drop, length, Option, None, Some, string_bytes, Result, Ok, Err, OnOk, if◌then◌else◌}
use Rattle.std.specs.List.{All, AllByRecursion, IsDistinct}
use Rattle.std.proofs.lemmas.List.{length-map}
use Rattle.std.proofs.lemmas.List.Elements.{All-drop}
use Rattle.fb_model.specs.System.{System}
use Rattle.fb_model.specs.Ranges.{Range}
use Rattle.fb_model.specs.Certificates.{all_leaves}
use Rattle.fb_model.specs.CertificateText.{repeats, most_repeats, most_steps}
use Rattle.fb_model.proofs.Networks.{AreRising, channels_rise}
use Rattle.fb_model.specs.Columns.{network_demands}
use Rattle.fb_cert.specs.Adding.{is_within, is_sayable}
use Rattle.fb_cert.specs.Views.{has_row, with_row, Rows}
use Rattle.fb_flat.specs.declared.flat.FlatDevice.{FlatDevice}
use Rattle.fb_check_rows.specs.declared.kind.RowKind.TheVariants.{Charge, Weight}
use Rattle.fb_find_ranges.proofs.Capitals.{rows_have_capitals}
use Rattle.fb_find_rows.specs.Numbers.{counts, CanBeCounted, ChannelsCanBeCounted, with_channels, with_far_states, with_fars}
use Rattle.fb_find_demands.specs.declared.numbered.Numbering.{Numbering}
use Rattle.fb_find.specs.Columns.{AreSmallest}
use Rattle.fb_find.specs.Parts.{events_in, states_in, IsReady}
use Rattle.fb_find.specs.Networks.{behind_events, behind_states, with_repeat, with_places, with_network, CanBeFar, CanBePlaced, HasNetwork, HasNoNetwork}
use Rattle.fb_find.proofs.Adding.{upper_names}
use Rattle.fb_find.proofs.Columns.{channels_are}

on_ok : {A E : Type 0} {P Q : Type 0} (r : Result A E) → (P → Q) → OnOk r P → OnOk r Q
on_ok (Ok a) f h = f h
on_ok (Err e) f h = tt

-- ---- REPEATS

pub repeats_put : (r : ℕ) (old new : Rows) (said : Bool) → 1 ≤ r → r ≤ most_repeats → old.repeats ≡ None → said ≡ (is_sayable (repeats r) && not (has_row (repeats r) old)) → new ≡ (if said then with_row (repeats r) old else old) → new ≡ with_repeat r old
repeats_put r old new said low high none tells made =
    let can : is_within 1 most_repeats r ≡ true = within r low high in
    let free : has_row (repeats r) old ≡ false = ap (λ o. has_row (repeats r) (record old { repeats = o })) none in
    let yes : said ≡ true = tells ∙ ap₂ (λ a b. a && not b) can free in
    made ∙ ap (λ b. if b then with_row (repeats r) old else old) yes
  where
    within : (r : ℕ) → 1 ≤ r → r ≤ most_repeats → is_within 1 most_repeats r ≡ true
    within r a b = grind arith

-- ---- states and events

pub both_placed : {E : Type 0} (n : Numbering) (numbers : List ℕ) (count : ℕ) (more : List ℕ) (old mid : Rows) (r : Result (Unit {0}) E) (new : Rows) → CanBePlaced n numbers old → count ≡ length n.states.keys → more ≡ drop count numbers
    → (old.far_states ≡ [] → CanBeCounted (states_in n) numbers → mid ≡ with_far_states (counts (states_in n) numbers) old)
    → (mid.fars ≡ [] → CanBeCounted (events_in n) more → OnOk r (new ≡ with_fars (counts (events_in n) more) mid))
    → OnOk r (new ≡ with_places n numbers old)
both_placed n numbers count more old mid r new can e s first next =
    let one = first can.no_far_state can.states_can in
    let same : more ≡ behind_states n numbers = s ∙ ap (λ k. drop k numbers) (e ∙ sym (length-map n.states.keys string_bytes)) in
    on_ok r (λ q. q ∙ ap₂ (λ xs rows. with_fars (counts (events_in n) xs) rows) same one)
    (next (ap (λ (rows : Rows). rows.fars) one ∙ can.no_far) (subst (λ xs. CanBeCounted (events_in n) xs) (sym same) can.events_can))

-- ---- all together

pub all_added : {E : Type 0} (often : ℕ) (n : Numbering) (numbers : List ℕ) (states events : ℕ) (channels some more : List ℕ) (old first mid : Rows) (r : Result (Unit {0}) E) (new : Rows) → 1 ≤ often → CanBeFar n numbers old
    → states ≡ length n.states.keys → events ≡ length n.events.keys → channels ≡ n.channels.items → some ≡ drop states numbers → more ≡ drop events some
    → (1 ≤ often → old.repeats ≡ None → first ≡ with_repeat often old)
    → (CanBePlaced n numbers first → mid ≡ with_places n numbers first)
    → (mid.channels ≡ [] → ChannelsCanBeCounted channels more → OnOk r (new ≡ with_channels (counts channels more) mid))
    → OnOk r (new ≡ with_network often n numbers old)
all_added often n numbers states events channels some more old first mid r new low can es ee ec s m begun placed sent =
    let one = begun low can.no_repeats in
    let places = can.places_can in
    let two = placed (record { states_can = places.states_can; events_can = places.events_can; no_far = ap (λ (rows : Rows). rows.fars) one ∙ places.no_far; no_far_state = ap (λ (rows : Rows). rows.far_states) one ∙ places.no_far_state }) in
    let whole : mid ≡ with_places n numbers (with_repeat often old) = two ∙ ap (with_places n numbers) one in
    let same : more ≡ behind_events n numbers =
    m ∙ ap₂ (λ k xs. drop k xs) (ee ∙ sym (length-map n.events.keys string_bytes)) (s ∙ ap (λ k. drop k numbers) (es ∙ sym (length-map n.states.keys string_bytes))) in
    on_ok r (λ q. q ∙ ap₂ (λ xs rows. with_channels xs rows) (ap₂ (λ (cs xs : List ℕ). counts cs xs) ec same) whole)
    (sent (ap (λ (rows : Rows). rows.channels) whole ∙ can.no_channel)
    (subst (λ xs. ChannelsCanBeCounted channels xs) (sym same) (subst (λ cs. ChannelsCanBeCounted cs (behind_events n numbers)) (sym ec) can.channels_can)))

-- ---- what can be said

above_other : (m n : ℕ) → m < n → (m == n) ≡ false
above_other m n h = grind arith

all_other : (m : ℕ) (ns : List ℕ) → AllByRecursion (λ n. m < n) ns → AllByRecursion (λ n. (m == n) ≡ false) ns
all_other m [] h = tt
all_other m (n ∷ ns) h = (above_other m n h.0, all_other m ns h.1)

-- numbers that go upwards are apart
rising_apart : (ns : List ℕ) → AreRising ns → IsDistinct (λ a b. a == b) ns
unfolding IsDistinct
rising_apart [] h = tt
rising_apart (n ∷ ns) h = (all_other n ns h.0, rising_apart ns h.1)

pub can_be_far : (r : ℕ) (devices : List FlatDevice) (n : Numbering) (order : List ℕ) (s : System) (ready : IsReady (Some r) devices n order s) (ranges : List Range) (numbers : List ℕ) (rows : Rows) → AreSmallest n (network_demands r ranges (all_leaves s.devices)) most_steps numbers → HasNoNetwork rows → CanBeFar n numbers rows
can_be_far r devices n order s ready ranges numbers rows a none =
    let given = ready.numbering.numbered.given in
    let few = All-drop (λ k. k ≤ most_steps) (length (states_in n)) numbers a.small in
    record {
      places_can =
          record {
            states_can = record { paths = upper_names Charge devices (states_in n) (rows_have_capitals Charge devices s given.tables given.capitals) ready.numbering.states; few_steps = a.small };
            events_can = record { paths = upper_names Weight devices (events_in n) (rows_have_capitals Weight devices s given.tables given.capitals) ready.numbering.events; few_steps = few };
            no_far = none.no_far;
            no_far_state = none.no_far_state;
          };
      channels_can =
          record {
            apart = rising_apart n.channels.items (subst AreRising (sym (channels_are r devices n order s ready)) (channels_rise (all_leaves s.devices)));
            few_steps = All-drop (λ k. k ≤ most_steps) (length (events_in n)) (behind_states n numbers) few;
          };
      no_repeats = none.no_repeats;
      no_channel = none.no_channel;
    }

-- the same where the numbers are read by another name
pub network_added : (r : ℕ) (devices : List FlatDevice) (n : Numbering) (order : List ℕ) (s : System) (ready : IsReady (Some r) devices n order s) (ranges : List Range) (numbers slice : List ℕ) (old new : Rows) → slice ≡ numbers → 1 ≤ r
    → AreSmallest n (network_demands r ranges (all_leaves s.devices)) most_steps numbers → HasNoNetwork old → (1 ≤ r → CanBeFar n slice old → new ≡ with_network r n slice old) → HasNetwork (Some r) n s ranges old new
network_added r devices n order s ready ranges numbers slice old new e low a none made =
    let can = can_be_far r devices n order s ready ranges numbers old a none in
    (numbers, a, made low (subst (λ xs. CanBeFar n xs old) (sym e) can) ∙ ap (λ xs. with_network r n xs old) e)
