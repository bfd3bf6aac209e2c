-- What the datagrams of channels cost, in the tables and in the book.
use Rattle.std.proofs.Common.{◌≡◌, ◌≤◌, ◌<◌, ◌+◌, ◌*◌, ◌==◌, ℕ, zero, suc, Bool, true, false, cond, List, [], ◌∷◌, ◌++◌, length, get_or, Option, None, Some, Result, Ok, Err, OnOk, IfErr, inl, inr, refl, sym, ap, subst, ◌∙◌, string_bytes, arith}
use Rattle.std.specs.Prelude.{◌⊎◌, MatchResult}
use Rattle.std.specs.Option.{SomeIff}
use Rattle.std.specs.List.{flat_map, AllByRecursion}
use Rattle.std.proofs.lemmas.Bool.{eqb-true}
use Rattle.std.proofs.lemmas.List.Sums.{sum_by-cons, sum_by-append}
use Rattle.fb_model.specs.Names.{Name, at_place}
use Rattle.fb_model.specs.System as system
use Rattle.fb_model.specs.System.{Service}
use Rattle.fb_model.specs.Services.{arrive}
use Rattle.fb_model.specs.Wires as wires
use Rattle.fb_model.specs.Wires.{Kind, Charted, Serviced, leaves}
use Rattle.fb_model.specs.Certificates.{far_of, all_leaves, admitted, admissions, channel_load}
use Rattle.fb_model.specs.CertificateText.{names_in}
use Rattle.fb_cert.specs.declared.certificate.Certificate.{Certificate}
use Rattle.fb_cert.specs.Views.{certificate_of}
use Rattle.fb_flat.specs.declared.flat.Leaf.{Leaf}
use Rattle.fb_flat.specs.declared.flat.FlatDevice.{FlatDevice}
use Rattle.fb_flat.specs.Leaves.{kind_of}
use Rattle.fb_flat.specs.Tables.{IsLeaf, AreLeaves, AreDevices}
use Rattle.fb_check_ranges.specs.Places.{leaves_in}
use Rattle.fb_check_ranges.proofs.Placing.{device_leaves}
use Rattle.fb_check_columns.specs.declared.channel.Heard.{Heard}
use Rattle.fb_check_columns.specs.declared.column.Column.TheVariants.{Far}
use Rattle.fb_faults.specs.declared.shortfall.Shortfall.{Shortfall}
use Rattle.fb_faults.specs.declared.shortfall.Shortfall.TheVariants.{OutOfMemory, Charge, Weight, Channel}
use Rattle.fb_model_texts.specs.Small.{AreSmall}
use Rattle.fb_model.specs.Misfits.{ChannelsPay, IsShortChannel}
use Rattle.fb_check_columns.specs.Sums.{IsSum}
use Rattle.fb_check_columns.specs.Channels.{Cost, heard_by, heard_at, heard_under, cost_of, cost_in, AreCosts, ChannelPays, IsOwingChannel}
use Rattle.fb_check_columns.proofs.Amounts.{weight_is}
use Rattle.fb_check_columns.proofs.Serving.{arrive_word}

-- ---- numbers

-- a number that is not told since it does not fit is more than any row says
pub product : (o : Option ℕ) (n : ℕ) → SomeIff o (n < 18446744073709551616) n → IsSum o n
product None n h = many n h where
  many : (m : ℕ) → (m < 18446744073709551616 → ⊥) → 1000000000000 < m
  many m k = omega (arith, k)
product (Some m) n h = h.1

-- ---- what was found

-- one more at the end
pub more_costs : (hs : List Heard) (xs : List Cost) (h : Heard) (x : Cost) → AreCosts hs xs → h.channel ≡ x.channel → IsSum h.cost x.steps → AreCosts (hs ++ h ∷ []) (xs ++ x ∷ [])
more_costs [] [] h x a e s = ((e, s), tt)
more_costs [] (y ∷ xs) h x a e s = absurd a
more_costs (g ∷ hs) [] h x a e s = absurd a
more_costs (g ∷ hs) (y ∷ xs) h x a e s = (a.0, more_costs hs xs h x a.1 e s)

-- as many were found as there are
pub costs_length : (hs : List Heard) (xs : List Cost) → AreCosts hs xs → length hs ≡ length xs
costs_length [] [] a = refl
costs_length [] (x ∷ xs) a = absurd a
costs_length (h ∷ hs) [] a = absurd a
costs_length (h ∷ hs) (x ∷ xs) a = ap suc (costs_length hs xs a.1)

-- what is found at an index is what stands there
pub cost_there : (hs : List Heard) (xs : List Cost) (i : ℕ) (d : Heard) → AreCosts hs xs → i < length hs → (x : Cost) × (i < length xs) × (x ≡ get_or xs i x) × ((get_or hs i d).channel ≡ x.channel) × IsSum (get_or hs i d).cost x.steps
cost_there [] xs i d a l = absurd (omega arith)
cost_there (g ∷ hs) [] i d a l = absurd a
cost_there (g ∷ hs) (x ∷ xs) zero d a l = (x, omega arith, refl, a.0.0, a.0.1)
cost_there (g ∷ hs) (x ∷ xs) (suc i) d a l =
    let k = cost_there hs xs i d a.1 (omega arith) in
    (k.0, omega (arith, k.1), k.2, k.3, k.4)

-- ---- one channel pays, or all do

-- where each channel that is heard pays, any other is charged with nothing
paid_or_none : (row : ℕ → ℕ) (all : List Cost) (c : ℕ) (xs : List Cost) → AllByRecursion (λ (x : Cost). cost_in x.channel all ≤ row x.channel) xs → (cost_in c all ≤ row c) ⊎ (cost_in c xs ≡ 0)
paid_or_none row all c [] h = inr refl
paid_or_none row all c (x ∷ xs) h = by (x.channel == c) refl (paid_or_none row all c xs h.1) where
  here : cost_in c (x ∷ xs) ≡ cost_of c x + cost_in c xs
  here = sum_by-cons (cost_of c) x xs

  by : (b : Bool) → (x.channel == c) ≡ b → (cost_in c all ≤ row c) ⊎ (cost_in c xs ≡ 0) → (cost_in c all ≤ row c) ⊎ (cost_in c (x ∷ xs) ≡ 0)
  by true e others = inl (subst (λ n. cost_in n all ≤ row n) (eqb-true x.channel c e) h.0)
  by false e (inl p) = inl p
  by false e (inr z) =
      let none : cost_of c x ≡ 0 = ap (λ b. cond b x.steps 0) e in
      inr (omega (arith, here, none, z))

-- where each channel that is heard pays, so does every other
pub all_paid : (cert : Certificate) (xs : List Cost) → AllByRecursion (λ (x : Cost). ChannelPays cert xs x.channel) xs → (c : ℕ) → ChannelPays cert xs c
all_paid cert xs h c = by (paid_or_none (far_of (certificate_of cert)).sending xs c xs h) where
  by : ChannelPays cert xs c ⊎ (cost_in c xs ≡ 0) → ChannelPays cert xs c
  by (inl p) = p
  by (inr z) = omega (arith, z)

-- ---- the book

-- what is admitted no time costs nothing
nothing : (w : ℕ) → 0 ≡ 0 * w
nothing w = omega arith

module _ (cert : Certificate) (small : AreSmall (certificate_of cert)) (r c : ℕ) where
  -- what a leaf hears of a channel costs as often as it admits its datagram
  kind_load : (path : Name) (kind : Kind) → cost_in c (heard_by cert r path kind) ≡ admissions r c kind * (far_of (certificate_of cert)).weight (at_place (names_in path) arrive)
  kind_load path (Charted block) = nothing ((far_of (certificate_of cert)).weight (at_place (names_in path) arrive))
  kind_load path (Serviced (Service.Input number types)) = nothing ((far_of (certificate_of cert)).weight (at_place (names_in path) arrive))
  kind_load path (Serviced (Service.Output number types)) = nothing ((far_of (certificate_of cert)).weight (at_place (names_in path) arrive))
  kind_load path (Serviced (Service.Publish channel types)) = nothing ((far_of (certificate_of cert)).weight (at_place (names_in path) arrive))
  kind_load path (Serviced (Service.Subscribe channel types)) = by (channel.number == c) (admitted r channel) _ _ (sym (weight_is Far cert small path arrive arrive_word)) where
    by : (b : Bool) (n m w : ℕ) → m ≡ w → 0 + cond b (n * m) 0 ≡ cond b n 0 * w
    by true n m w e = let s : n * m ≡ n * w = ap (λ k. n * k) e in omega (arith, s)
    by false n m w e = nothing w
  kind_load path (Serviced Service.Delay) = nothing ((far_of (certificate_of cert)).weight (at_place (names_in path) arrive))
  kind_load path (Serviced Service.Cycle) = nothing ((far_of (certificate_of cert)).weight (at_place (names_in path) arrive))
  kind_load path (Serviced Service.Restart) = nothing ((far_of (certificate_of cert)).weight (at_place (names_in path) arrive))

  -- the same of a leaf of the tables and its leaf of the book
  leaf_load : (l : Leaf) (b : wires.Leaf) → IsLeaf l b → cost_in c (heard_at cert r l) ≡ admissions r c b.kind * (far_of (certificate_of cert)).weight (at_place b.path arrive)
  leaf_load l b a =
      kind_load (string_bytes l.path) (kind_of l.body) ∙ ap (λ k. admissions r c k * (far_of (certificate_of cert)).weight (at_place (names_in (string_bytes l.path)) arrive)) a.kind
      ∙ ap (λ p. admissions r c b.kind * (far_of (certificate_of cert)).weight (at_place p arrive)) a.path

  -- the same of many, one by one
  leaves_load : (ls : List Leaf) (bs : List wires.Leaf) → AreLeaves ls bs → cost_in c (flat_map (heard_at cert r) ls) ≡ channel_load (far_of (certificate_of cert)) r c bs
  leaves_load [] [] a = refl
  leaves_load [] (b ∷ bs) a = absurd a
  leaves_load (l ∷ ls) [] a = absurd a
  leaves_load (l ∷ ls) (b ∷ bs) a =
      let here = sum_by-append (cost_of c) (heard_at cert r l) (flat_map (heard_at cert r) ls) in
      let there = sum_by-cons (λ (leaf : wires.Leaf). admissions r c leaf.kind * (far_of (certificate_of cert)).weight (at_place leaf.path arrive)) b bs in
      let one = leaf_load l b a.0 in
      let others = leaves_load ls bs a.1 in
      omega (arith, here, there, one, others)

  -- what a datagram may cost at the leaves of the tables is what it may cost in the book
  pub devices_load : (fs : List FlatDevice) (ds : List system.Device) → AreDevices fs ds → cost_in c (heard_under cert r fs) ≡ channel_load (far_of (certificate_of cert)) r c (all_leaves ds)
  devices_load [] [] a = refl
  devices_load [] (d ∷ ds) a = absurd a
  devices_load (f ∷ fs) [] a = absurd a
  devices_load (f ∷ fs) (d ∷ ds) a =
      let here = sum_by-append (cost_of c) (flat_map (heard_at cert r) (leaves_in f.resources.items)) (heard_under cert r fs) in
      let there = sum_by-append (λ (leaf : wires.Leaf). admissions r c leaf.kind * (far_of (certificate_of cert)).weight (at_place leaf.path arrive)) (leaves d) (all_leaves ds) in
      let one = leaves_load (leaves_in f.resources.items) (leaves d) (device_leaves 0 (d.name ∷ []) f.resources.items d.resources a.0.resources) in
      let others = devices_load fs ds a.1 in
      omega (arith, here, there, one, others)

-- ---- what is told

-- where all that is heard is paid for, the channels pay in the book
pub channels_pay : (cert : Certificate) (small : AreSmall (certificate_of cert)) (r : ℕ) (fs : List FlatDevice) (s : system.System) (t : Result (Unit {0}) Shortfall)
    → MatchResult t (λ u. AllByRecursion (λ (x : Cost). ChannelPays cert (heard_under cert r fs) x.channel) (heard_under cert r fs)) (IsOwingChannel cert (heard_under cert r fs)) → AreDevices fs s.devices → OnOk t (ChannelsPay (certificate_of cert) r s)
channels_pay cert small r fs s (Ok u) h a = λ c. subst (λ n. n ≤ (far_of (certificate_of cert)).sending c) (devices_load cert small r c fs s.devices a) (all_paid cert (heard_under cert r fs) h c)
channels_pay cert small r fs s (Err e) h a = tt

-- the row that is named does not pay in the book
pub channel_short : (cert : Certificate) (small : AreSmall (certificate_of cert)) (r : ℕ) (fs : List FlatDevice) (s : system.System) (e : Shortfall) → IsOwingChannel cert (heard_under cert r fs) e → AreDevices fs s.devices → IsShortChannel (certificate_of cert) r s e
channel_short cert small r fs s OutOfMemory h a = tt
channel_short cert small r fs s (Charge row) h a = absurd h
channel_short cert small r fs s (Weight row) h a = absurd h
channel_short cert small r fs s (Channel c) h a = subst (λ n. (far_of (certificate_of cert)).sending c < n) (devices_load cert small r c fs s.devices a) h

-- the same where one is named, if any
pub channels_short : (cert : Certificate) (small : AreSmall (certificate_of cert)) (r : ℕ) (fs : List FlatDevice) (s : system.System) (t : Result (Unit {0}) Shortfall)
    → MatchResult t (λ u. AllByRecursion (λ (x : Cost). ChannelPays cert (heard_under cert r fs) x.channel) (heard_under cert r fs)) (IsOwingChannel cert (heard_under cert r fs)) → AreDevices fs s.devices → IfErr t (IsShortChannel (certificate_of cert) r s)
channels_short cert small r fs s (Ok u) h a = tt
channels_short cert small r fs s (Err e) h a = channel_short cert small r fs s e h a
