-- What is so of the tables' leaves is so of the book's, one by one.
use Rattle.std.proofs.Common.{◌≡◌, ℕ, ◌+◌, Bool, true, false, List, [], ◌∷◌, ◌++◌, map, replicate, Option, Some, None, min, refl, sym, ap, ap₂, ◌∙◌, arith}
use Rattle.std.specs.List.{flat_map, AllByRecursion}
use Rattle.std.proofs.lemmas.List.{map-append}
use Rattle.fb_model.specs.Names.{Name, Path, at_place}
use Rattle.fb_model.specs.Services.{arrive}
use Rattle.fb_model.specs.System as book
use Rattle.fb_model.specs.Wires as wires
use Rattle.fb_model.specs.Wires.{Kind, Charted, Serviced, resource_leaves, leaves_from, leaves}
use Rattle.fb_model.specs.Clear.{Spans}
use Rattle.fb_model.specs.Ranges.{Range, rows}
use Rattle.fb_model.specs.Certificates.{all_leaves, admissions, channels_of}
use Rattle.fb_model.proofs.Lists.{all_append}
use Rattle.fb_model_laws.specs.Leaves.{IsClosed}
use Rattle.fb_model.specs.Demands.{event, channel, of_kind, linked, heard, of_channel, channel_demands, bare, bare_demands, bare_network}
use Rattle.fb_model.specs.Columns.{price_of, demands}
use Rattle.fb_find_laws.specs.Nodes.{by_number}
use Rattle.fb_flat.specs.declared.flat.Leaf.{Leaf}
use Rattle.fb_flat.specs.declared.flat.FlatResource.{FlatResource}
use Rattle.fb_flat.specs.declared.flat.FlatDevice.{FlatDevice}
use Rattle.fb_flat.specs.Tables.{AreLeaves, AreResources, AreDevices}
use Rattle.fb_check_ranges.specs.Places.{leaves_in}
use Rattle.fb_find_demands.specs.declared.numbered.Numbering.{Numbering}
use Rattle.fb_find_demands.specs.Grounds.{priced, algorithms_of, value_at}
use Rattle.fb_find_demands.specs.Rights.{numbered, numbers_of}
use Rattle.fb_find_demands.specs.Channels as tables
use Rattle.fb_find_demands.specs.Channels.{heard_in, channels_ask}
use Rattle.fb_find_demands.specs.Leaves.{leaves_under, leaf_rights, AreClosed}
use Rattle.fb_find_demands.proofs.Alike.{book_ground, leaf_same}

-- ---- all leaves

leaves_append : (ls ms : List Leaf) (bs cs : List wires.Leaf) → AreLeaves ls bs → AreLeaves ms cs → AreLeaves (ls ++ ms) (bs ++ cs)
leaves_append [] ms [] cs a b = b
leaves_append [] ms (x ∷ bs) cs a b = absurd a
leaves_append (l ∷ ls) ms [] cs a b = absurd a
leaves_append (l ∷ ls) ms (x ∷ bs) cs a b = (a.0, leaves_append ls ms bs cs a.1 b)

resources_are : (n : ℕ) (path : Path) (fs : List FlatResource) (rs : List book.Resource) → AreResources n path fs rs → AreLeaves (leaves_in fs) (leaves_from n path rs)
resources_are n path [] [] a = tt
resources_are n path [] (r ∷ rs) a = absurd a
resources_are n path (f ∷ fs) [] a = absurd a
resources_are n path (f ∷ fs) (r ∷ rs) a = leaves_append f.leaves.items (leaves_in fs) (resource_leaves n path r) (leaves_from (n + 1) path rs) a.0.leaves (resources_are (n + 1) path fs rs a.1)

pub all_are : (fs : List FlatDevice) (ds : List book.Device) → AreDevices fs ds → AreLeaves (leaves_under fs) (all_leaves ds)
all_are [] [] a = tt
all_are [] (d ∷ ds) a = absurd a
all_are (f ∷ fs) [] a = absurd a
all_are (f ∷ fs) (d ∷ ds) a = leaves_append (leaves_in f.resources.items) (leaves_under fs) (leaves d) (all_leaves ds) (resources_are 0 (d.name ∷ []) f.resources.items d.resources a.0.resources) (all_are fs ds a.1)

-- the charts of all leaves name what they have
abbrev pub AllClosed : List wires.Leaf → Type 0
AllClosed all = AllByRecursion (λ (leaf : wires.Leaf). IsClosed leaf.kind) all

pub all_closed : (ds : List book.Device) → AreClosed ds → AllClosed (all_leaves ds)
all_closed [] c = tt
all_closed (d ∷ ds) c = all_append (λ (leaf : wires.Leaf). IsClosed leaf.kind) (leaves d) (all_leaves ds) c.0 (all_closed ds c.1)

-- ---- without prices

no_value : (names : List Name) (x : Name) → value_at names [] x ≡ 0
no_value [] x = refl
no_value (n ∷ ns) x = refl

no_price : (names : List Name) (a : Option Name) → priced names [] a ≡ 0
no_price names None = refl
no_price names (Some x) = no_value names x

-- where the book's algorithms cost nothing
plain_same : (n : Numbering) (unit : ℕ) (follows : Bool) (price : wires.Leaf → Option Name → ℕ) → ((leaf : wires.Leaf) (a : Option Name) → price leaf a ≡ 0) → (ls : List Leaf) (bs : List wires.Leaf) → AreLeaves ls bs → AllClosed bs
    → flat_map (leaf_rights n unit follows []) ls ≡ numbered n (flat_map (λ (leaf : wires.Leaf). of_kind (book_ground unit follows (price leaf) leaf) leaf.kind) bs)
plain_same n unit follows price z [] [] a c = refl
plain_same n unit follows price z [] (b ∷ bs) a c = absurd a
plain_same n unit follows price z (l ∷ ls) [] a c = absurd a
plain_same n unit follows price z (l ∷ ls) (b ∷ bs) a c =
    let H = λ (leaf : wires.Leaf). of_kind (book_ground unit follows (price leaf) leaf) leaf.kind in
    ap (λ rs. rs ++ flat_map (leaf_rights n unit follows []) ls) (leaf_same n unit follows [] (price b) l b a.0 c.0 (λ x. ap (λ m. min m 1000000000001) (no_price (algorithms_of l.body) x ∙ sym (z b x))))
    ∙ ap (λ rs. numbered n (H b) ++ rs) (plain_same n unit follows price z ls bs a.1 c.1)
    ∙ sym (map-append (by_number (numbers_of n)) (H b) (flat_map H bs))

nothing_paid : (spans : Spans) (kind : Kind) (a : Option Name) → price_of 0 spans kind a ≡ 0
nothing_paid spans (Charted block) a = omega arith
nothing_paid spans (Serviced service) a = refl

pub bare_same : (n : Numbering) (fs : List FlatDevice) (ds : List book.Device) → AreDevices fs ds → AreClosed ds → flat_map (leaf_rights n 1 false []) (leaves_under fs) ≡ numbered n (bare_demands (all_leaves ds))
bare_same n fs ds a c = plain_same n 1 false (λ leaf x. 0) (λ leaf x. refl) (leaves_under fs) (all_leaves ds) (all_are fs ds a) (all_closed ds c)

pub places_same : (n : Numbering) (ranges : List Range) (fs : List FlatDevice) (ds : List book.Device) → AreDevices fs ds → AreClosed ds → flat_map (leaf_rights n 0 false []) (leaves_under fs) ≡ numbered n (demands 0 ranges (all_leaves ds))
places_same n ranges fs ds a c =
    plain_same n 0 false (λ leaf. price_of 0 (rows ranges leaf.path leaf.kind) leaf.kind) (λ leaf x. nothing_paid (rows ranges leaf.path leaf.kind) leaf.kind x) (leaves_under fs) (all_leaves ds) (all_are fs ds a) (all_closed ds c)

-- ---- the network

heard_same : (r c : ℕ) (ls : List Leaf) (bs : List wires.Leaf) → AreLeaves ls bs → flat_map (heard_in r c) ls ≡ flat_map (heard r c) bs
heard_same r c [] [] a = refl
heard_same r c [] (b ∷ bs) a = absurd a
heard_same r c (l ∷ ls) [] a = absurd a
heard_same r c (l ∷ ls) (b ∷ bs) a =
    ap₂ (λ xs ys. xs ++ ys) (ap₂ (λ k path. replicate (admissions r c k) (event (at_place path arrive))) a.0.kind a.0.path) (heard_same r c ls bs a.1)

channels_same : (r : ℕ) (ls : List Leaf) (bs : List wires.Leaf) → AreLeaves ls bs → (cs : List ℕ) → map (tables.of_channel r ls) cs ≡ map (of_channel r bs) cs
channels_same r ls bs a [] = refl
channels_same r ls bs a (c ∷ cs) = ap₂ (λ d ds. d ∷ ds) (ap (λ ts. record { node = channel c; constant = 0; terms = ts }) (heard_same r c ls bs a)) (channels_same r ls bs a cs)

-- what the channels of the tables ask is what those of the book ask
pub asked_same : (n : Numbering) (r : ℕ) (fs : List FlatDevice) (ds : List book.Device) → AreDevices fs ds → n.channels.items ≡ channels_of (all_leaves ds) → numbered n (channels_ask r (leaves_under fs) n.channels.items) ≡ numbered n (channel_demands r (all_leaves ds))
asked_same n r fs ds a e = ap (numbered n) (channels_same r (leaves_under fs) (all_leaves ds) (all_are fs ds a) n.channels.items ∙ ap (map (of_channel r (all_leaves ds))) e)

pub network_same : (n : Numbering) (fs : List FlatDevice) (ds : List book.Device) → AreDevices fs ds → AreClosed ds → n.channels.items ≡ channels_of (all_leaves ds)
    → flat_map (leaf_rights n 1 true []) (leaves_under fs) ++ numbered n (channels_ask 1 (leaves_under fs) n.channels.items) ≡ numbered n (bare_network (all_leaves ds))
network_same n fs ds a c e =
    let all = all_leaves ds in
    ap₂ (λ xs ys. xs ++ ys) (plain_same n 1 true (λ leaf x. 0) (λ leaf x. refl) (leaves_under fs) all (all_are fs ds a) (all_closed ds c)) (asked_same n 1 fs ds a e)
    ∙ sym (map-append (by_number (numbers_of n)) (flat_map (λ (leaf : wires.Leaf). of_kind (linked (bare leaf)) leaf.kind) all) (channel_demands 1 all))
