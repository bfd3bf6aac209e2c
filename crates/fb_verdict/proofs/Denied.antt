-- Refusals of the parts as refusals of the whole, and what a true refusal denies.
use Rattle.std.proofs.Common.{◌≡◌, ◌≤◌, ◌<◌, ℕ, zero, suc, sym, ap, subst, refl, ◌∙◌, arith, inl, inr, List, [], ◌∷◌, map, length, get_or, true, Option, None, Some, string_bytes}
use Rattle.std.specs.List.{Any, AllByRecursion}
use Rattle.fb_model.specs.Names.{Name, is_in}
use Rattle.fb_model.specs.System as book
use Rattle.fb_model.specs.Wires as wires
use Rattle.fb_model.specs.Wires.{Kind, Charted, Serviced, leaves, resource_count, most_followed}
use Rattle.fb_model.specs.Ranges.{Range}
use Rattle.fb_model.specs.Certificates as certs
use Rattle.fb_model.specs.Certificates.{ColumnFits, DeviceFits, FollowsFew, Fits}
use Rattle.fb_model.specs.CertificateText.{names_in, place_of}
use Rattle.fb_model.proofs.Lists.{all_weaker}
use Rattle.fb_faults.specs.declared.typing.TypeFault.{TypeFault}
use Rattle.fb_faults.specs.declared.typing.TypeFault.TheVariants as faults
use Rattle.fb_types.specs.declared.typed.Configuration.{Configuration}
use Rattle.fb_types.specs.declared.typed.Device as typed
use Rattle.fb_types.specs.declared.typed.Resource as typed_resource
use Rattle.fb_types.specs.Views.{system_of, device_of, resource_of}
use Rattle.fb_flat.specs.Leaves.{IsFull, IsLimitAt}
use Rattle.fb_faults.specs.declared.row.RowFault.{RowFault}
use Rattle.fb_faults.specs.declared.row.RowFault.TheVariants as rows
use Rattle.fb_check_rows.specs.Faults.{IsRowFault}
use Rattle.fb_model.specs.Misfits.{IsUnknown, IsMissing, IsUnknownChannel, IsMissingChannel, unknown_place, unknown_depth, missing_place, missing_depth}
use Rattle.fb_faults.specs.declared.unclear.Unclear.{Unclear}
use Rattle.fb_faults.specs.declared.unclear.Unclear.TheVariants as unclear
use Rattle.fb_model.specs.Misfits.{IsUnclear}
use Rattle.fb_check_ranges.proofs.Denied.{denied as unclear_denies}
use Rattle.fb_check_columns.specs.declared.column.Column.TheVariants.{Steps, Places}
use Rattle.fb_faults.specs.declared.shortfall.Shortfall.{Shortfall}
use Rattle.fb_faults.specs.declared.shortfall.Shortfall.TheVariants as short
use Rattle.fb_check_columns.specs.Columns.{column_of}
use Rattle.fb_check_columns.specs.Fitting.{AllPay}
use Rattle.fb_model.specs.Misfits.{IsUnpaid, IsLeafFault, IsShortChannel, ChannelsPay}
use Rattle.fb_model.specs.Misfits.{OneOf as SomePaid}
use Rattle.fb_check_columns.proofs.Denied.{denied as unpaid_denies}
use Rattle.fb_faults.specs.declared.shallow.Shallow.{Shallow}
use Rattle.fb_faults.specs.declared.shallow.Shallow.TheVariants as shallow
use Rattle.fb_check_rows.specs.Depths.{IsDeep}
use Rattle.fb_model.specs.Misfits.{OneOf as SomeOf, IsShallowFault}
use Rattle.fb_check_rows.proofs.DepthSystems.{some_of, none_lacks, denied as shallow_denies}
use Rattle.fb_faults.specs.declared.refusal.Refusal.{Refusal}
use Rattle.fb_faults.specs.declared.refusal.Refusal.TheVariants.{OutOfMemory, Text, Typing, Certificate as Spelling, UnknownRow, MissingRow, UnknownChannel, MissingChannel, RangeStart, RangeLink, RangeKept, IndexOrDivisor, Charge, Weight, Depth, Far, Channel}
use Rattle.fb_faults.specs.Refusals.{of_row, of_type, of_unclear as told, of_shortfall, of_far, of_shallow}
use Rattle.fb_model.specs.Misfits.{IsLimit, IsOwing, IsOwingFar}
use Rattle.fb_verdict.specs.Faults.{Crowds, IsFitFault}

-- ---- from the parts to the whole

pub of_rows : (typed : Configuration) (cert : certs.Certificate) (f : RowFault) → IsRowFault (system_of typed) cert f → IsFitFault typed cert (of_row f)
of_rows typed cert rows.OutOfMemory h = tt
of_rows typed cert (rows.Unknown path) h = h
of_rows typed cert (rows.Missing path) h = h
of_rows typed cert (rows.UnknownChannel number) h = h
of_rows typed cert (rows.MissingChannel number) h = h

pub of_unclear : (typed : Configuration) (cert : certs.Certificate) (f : Unclear) → IsUnclear cert.ranges (system_of typed) f → IsFitFault typed cert (told f)
of_unclear typed cert unclear.OutOfMemory h = tt
of_unclear typed cert (unclear.Start path) h = h
of_unclear typed cert (unclear.Link path) h = h
of_unclear typed cert (unclear.Kept path) h = h
of_unclear typed cert (unclear.IndexOrDivisor path) h = h

-- no column of a device speaks of channels
no_channel : (col : certs.Column) (ranges : List Range) (s : book.System) (c : ℕ) → IsUnpaid col ranges s (short.Channel c) → ⊥
no_channel col ranges s c h = in_devices s.devices h where
  in_leaves : (ls : List wires.Leaf) → SomePaid (λ (leaf : wires.Leaf). IsLeafFault col ranges leaf (short.Channel c)) ls → ⊥
  in_leaves [] h = h
  in_leaves (l ∷ ls) (inl p) = p
  in_leaves (l ∷ ls) (inr k) = in_leaves ls k

  in_devices : (ds : List book.Device) → SomePaid (λ (d : book.Device). SomePaid (λ (leaf : wires.Leaf). IsLeafFault col ranges leaf (short.Channel c)) (leaves d)) ds → ⊥
  in_devices [] h = h
  in_devices (d ∷ ds) (inl p) = in_leaves (leaves d) p
  in_devices (d ∷ ds) (inr k) = in_devices ds k

pub of_steps : (typed : Configuration) (cert : certs.Certificate) (f : Shortfall) → IsUnpaid (column_of Steps cert) cert.ranges (system_of typed) f → IsFitFault typed cert (of_shortfall f)
of_steps typed cert short.OutOfMemory h = tt
of_steps typed cert (short.Charge path) h = inl h
of_steps typed cert (short.Weight path) h = inl h
of_steps typed cert (short.Channel c) h = absurd (no_channel (column_of Steps cert) cert.ranges (system_of typed) c h)

pub of_places : (typed : Configuration) (cert : certs.Certificate) (f : Shortfall) → IsUnpaid (column_of Places cert) cert.ranges (system_of typed) f → IsFitFault typed cert (of_shortfall f)
of_places typed cert short.OutOfMemory h = tt
of_places typed cert (short.Charge path) h = inr h
of_places typed cert (short.Weight path) h = inr h
of_places typed cert (short.Channel c) h = absurd (no_channel (column_of Places cert) cert.ranges (system_of typed) c h)

pub far_is : (typed : Configuration) (cert : certs.Certificate) (r : ℕ) (f : Shortfall) → cert.repeats ≡ Some r → IsUnpaid (certs.far_of cert) cert.ranges (system_of typed) f → IsFitFault typed cert (of_far f)
far_is typed cert r short.OutOfMemory e h = tt
far_is typed cert r (short.Charge path) e h = inl (r, e, h)
far_is typed cert r (short.Weight path) e h = inr (r, e, h)
far_is typed cert r (short.Channel c) e h = absurd (no_channel (certs.far_of cert) cert.ranges (system_of typed) c h)

pub channel_is : (typed : Configuration) (cert : certs.Certificate) (r : ℕ) (f : Shortfall) → cert.repeats ≡ Some r → IsShortChannel cert r (system_of typed) f → IsFitFault typed cert (of_shortfall f)
channel_is typed cert r short.OutOfMemory e h = tt
channel_is typed cert r (short.Charge path) e h = absurd h
channel_is typed cert r (short.Weight path) e h = absurd h
channel_is typed cert r (short.Channel c) e h = (r, e, h)

pub of_depth : (typed : Configuration) (cert : certs.Certificate) (f : Shallow) → IsShallowFault cert (system_of typed) f → IsFitFault typed cert (of_shallow f)
of_depth typed cert shallow.OutOfMemory h = tt
of_depth typed cert (shallow.Depth path) h = h

pub of_limit : (typed : Configuration) (cert : certs.Certificate) (f : TypeFault) → IsLimitAt (λ at. Any (λ d. Any (λ r. IsFull r at) d.resources.items) typed.devices.items) f → IsFitFault typed cert (of_type f)
of_limit typed cert faults.OutOfMemory h = tt
of_limit typed cert (faults.Limit at) h = h
of_limit typed cert (faults.UnknownName at) h = absurd h
of_limit typed cert (faults.DuplicateName at) h = absurd h
of_limit typed cert (faults.TypeMismatch at) h = absurd h
of_limit typed cert (faults.BadLiteral at) h = absurd h
of_limit typed cert (faults.NotWritable at) h = absurd h
of_limit typed cert (faults.BadConnection at) h = absurd h
of_limit typed cert (faults.TwoSources at) h = absurd h
of_limit typed cert (faults.BadService at) h = absurd h
of_limit typed cert (faults.RecursiveComposite at) h = absurd h
of_limit typed cert (faults.ChannelShape at) h = absurd h

-- ---- crowded resources

resource_crowded : (at : ℕ) (rs : List typed_resource.Resource) → SomeOf (λ r. IsFull r at) rs → AllByRecursion (λ (r : book.Resource). resource_count r ≤ most_followed) (map resource_of rs) → ⊥
resource_crowded at [] s h = s
resource_crowded at (r ∷ rs) (inl p) h = absurd (omega (arith, h.0, p.0))
resource_crowded at (r ∷ rs) (inr s) h = resource_crowded at rs s h.1

device_crowded : (at : ℕ) (ds : List typed.Device) → SomeOf (λ d. Any (λ r. IsFull r at) d.resources.items) ds → AllByRecursion FollowsFew (map device_of ds) → ⊥
device_crowded at [] s h = s
device_crowded at (d ∷ ds) (inl p) h = resource_crowded at d.resources.items (some_of (λ r. IsFull r at) d.resources.items p) h.0
device_crowded at (d ∷ ds) (inr s) h = device_crowded at ds s h.1

crowded_denied : (typed : Configuration) (cert : certs.Certificate) (f : TypeFault) → IsLimit (Crowds typed) f → Fits (system_of typed) cert → ⊥
crowded_denied typed cert (faults.Limit at) h fits = device_crowded at typed.devices.items (some_of (λ d. Any (λ r. IsFull r at) d.resources.items) typed.devices.items h) fits.followed
crowded_denied typed cert faults.OutOfMemory h fits = h
crowded_denied typed cert (faults.UnknownName at) h fits = h
crowded_denied typed cert (faults.DuplicateName at) h fits = h
crowded_denied typed cert (faults.TypeMismatch at) h fits = h
crowded_denied typed cert (faults.BadLiteral at) h fits = h
crowded_denied typed cert (faults.NotWritable at) h fits = h
crowded_denied typed cert (faults.BadConnection at) h fits = h
crowded_denied typed cert (faults.TwoSources at) h fits = h
crowded_denied typed cert (faults.BadService at) h fits = h
crowded_denied typed cert (faults.RecursiveComposite at) h fits = h
crowded_denied typed cert (faults.ChannelShape at) h fits = h

-- ---- rows

unknown_denied : (s : book.System) (cert : certs.Certificate) (path : List ℕ) → IsUnknown s cert path → Fits s cert → ⊥
unknown_denied s cert path (unknown_place kind a b) fits = let e = (fits.rows.places kind).same (place_of path) in absurd cc
unknown_denied s cert path (unknown_depth a b) fits = let e = fits.rows.depths (names_in path) in absurd cc

missing_denied : (s : book.System) (cert : certs.Certificate) (path : List ℕ) → IsMissing s cert path → Fits s cert → ⊥
missing_denied s cert path (missing_place kind a b) fits = let e = (fits.rows.places kind).same (place_of path) in absurd cc
missing_denied s cert path (missing_depth a b) fits = let e = fits.rows.depths (names_in path) in absurd cc

unknown_channel_denied : (s : book.System) (cert : certs.Certificate) (c : ℕ) → IsUnknownChannel s cert c → Fits s cert → ⊥
unknown_channel_denied s cert c h fits = let a = h.0 in let b = h.1 in let e = fits.rows.channels c in absurd cc

missing_channel_denied : (s : book.System) (cert : certs.Certificate) (c : ℕ) → IsMissingChannel s cert c → Fits s cert → ⊥
missing_channel_denied s cert c h fits = let a = h.0 in let b = h.1 in let e = fits.rows.channels c in absurd cc

-- ---- columns and depths

steps_paid : (s : book.System) (cert : certs.Certificate) → Fits s cert → AllPay (column_of Steps cert) cert.ranges s
steps_paid s cert fits = all_weaker (DeviceFits cert) (λ (d : book.Device). ColumnFits (certs.steps_of cert) cert.ranges (leaves d)) s.devices (λ d h. h.steps) fits.devices

places_paid : (s : book.System) (cert : certs.Certificate) → Fits s cert → AllPay (column_of Places cert) cert.ranges s
places_paid s cert fits = all_weaker (DeviceFits cert) (λ (d : book.Device). ColumnFits (certs.places_of cert) cert.ranges (leaves d)) s.devices (λ d h. h.places) fits.devices

deep : (s : book.System) (cert : certs.Certificate) → Fits s cert → AllByRecursion (IsDeep cert) s.devices
deep s cert fits = all_weaker (DeviceFits cert) (IsDeep cert) s.devices (λ d h. record { arrivals = h.arrivals; begins = h.begins }) fits.devices

owing_denied : (s : book.System) (cert : certs.Certificate) (f : Shortfall) → IsOwing s cert f → Fits s cert → (f ≡ short.OutOfMemory → ⊥) → ⊥
owing_denied s cert f (inl h) fits other = other (unpaid_denies (column_of Steps cert) cert.ranges s f h (steps_paid s cert fits))
owing_denied s cert f (inr h) fits other = other (unpaid_denies (column_of Places cert) cert.ranges s f h (places_paid s cert fits))

far_denied : (s : book.System) (cert : certs.Certificate) (f : Shortfall) → IsOwingFar s cert f → Fits s cert → (f ≡ short.OutOfMemory → ⊥) → ⊥
far_denied s cert f h fits other = other (unpaid_denies (certs.far_of cert) cert.ranges s f h.2 (fits.far h.0 h.1).devices)

-- a true refusal denies that the certificate fits, unless memory ran out
pub denied : (typed : Configuration) (cert : certs.Certificate) (f : Refusal) → IsFitFault typed cert f → Fits (system_of typed) cert → f ≡ OutOfMemory
denied typed cert OutOfMemory h fits = refl
denied typed cert (Text x) h fits = absurd h
denied typed cert (Typing x) h fits = absurd (crowded_denied typed cert x h fits)
denied typed cert (Spelling x) h fits = absurd h
denied typed cert (UnknownRow path) h fits = absurd (unknown_denied (system_of typed) cert (string_bytes path) h fits)
denied typed cert (MissingRow path) h fits = absurd (missing_denied (system_of typed) cert (string_bytes path) h fits)
denied typed cert (RangeStart path) h fits = absurd (let e : unclear.Start path ≡ unclear.OutOfMemory = unclear_denies cert.ranges (system_of typed) (unclear.Start path) h fits.clear in cc)
denied typed cert (RangeLink path) h fits = absurd (let e : unclear.Link path ≡ unclear.OutOfMemory = unclear_denies cert.ranges (system_of typed) (unclear.Link path) h fits.clear in cc)
denied typed cert (RangeKept path) h fits = absurd (let e : unclear.Kept path ≡ unclear.OutOfMemory = unclear_denies cert.ranges (system_of typed) (unclear.Kept path) h fits.clear in cc)
denied typed cert (IndexOrDivisor path) h fits = absurd (let e : unclear.IndexOrDivisor path ≡ unclear.OutOfMemory = unclear_denies cert.ranges (system_of typed) (unclear.IndexOrDivisor path) h fits.clear in cc)
denied typed cert (Charge path) h fits = absurd (owing_denied (system_of typed) cert (short.Charge path) h fits (λ e. cc))
denied typed cert (Weight path) h fits = absurd (owing_denied (system_of typed) cert (short.Weight path) h fits (λ e. cc))
denied typed cert (Depth path) h fits = absurd (let e : shallow.Depth path ≡ shallow.OutOfMemory = shallow_denies cert (system_of typed) (shallow.Depth path) h (deep (system_of typed) cert fits) in cc)
denied typed cert (Far path) (inl h) fits = absurd (far_denied (system_of typed) cert (short.Charge path) h fits (λ e. cc))
denied typed cert (Far path) (inr h) fits = absurd (far_denied (system_of typed) cert (short.Weight path) h fits (λ e. cc))
denied typed cert (Channel c) h fits = absurd (let f = (fits.far h.0 h.1).channels c in omega (arith, f, h.2))
denied typed cert (UnknownChannel c) h fits = absurd (unknown_channel_denied (system_of typed) cert c h fits)
denied typed cert (MissingChannel c) h fits = absurd (missing_channel_denied (system_of typed) cert c h fits)
