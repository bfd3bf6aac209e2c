-- What is so of the tables is so of the system's leaves in the book.
use Rattle.std.proofs.Common.{◌≡◌, ℕ, zero, suc, ◌+◌, ◌<◌, List, [], ◌∷◌, ◌++◌, length, get_or, Result, Ok, Err, refl, sym, ap, subst, ◌∙◌, arith, string_bytes}
use Rattle.std.specs.Prelude.{OnOk, IfErr}
use Rattle.std.specs.List.{AllByRecursion, Any}
use Rattle.fb_model.specs.Names.{Name, Path, is_in}
use Rattle.fb_model.specs.System as system
use Rattle.fb_model.specs.Wires as wires
use Rattle.fb_model.specs.Wires.{Kind, Charted, leaves}
use Rattle.fb_model.specs.Ranges.{Range, KindClears, LeafClears}
use Rattle.fb_model.specs.CertificateText.{names_in}
use Rattle.fb_cert.specs.declared.certificate.Certificate.{Certificate}
use Rattle.fb_cert.specs.Views.{certificate_of}
use Rattle.fb_flat.specs.declared.flat.Leaf.{Leaf}
use Rattle.fb_flat.specs.declared.flat.FlatDevice.{FlatDevice}
use Rattle.fb_types_blocks.specs.declared.typed.Block.{Block}
use Rattle.fb_types_blocks.specs.Views.{block_of}
use Rattle.fb_flat.specs.Sources.{written_inputs}
use Rattle.fb_flat.specs.Tables.{source_at, IsLeaf, AreLeaves, IsDevice, AreDevices}
use Rattle.fb_flat.specs.Sites.{dotted}
use Rattle.fb_flat.proofs.Dotted.{names_dotted}
use Rattle.fb_faults.specs.declared.unclear.Unclear.{Unclear}
use Rattle.fb_check_ranges.specs.Reasons.{Blames}
use Rattle.fb_model.specs.Misfits.{Refuses}
use Rattle.fb_check_ranges.specs.Clearing.{ChartLies, BlockFails}
use Rattle.fb_check_ranges.specs.Fitting.{IsKnownLeaf, AreKnown}
use Rattle.fb_model.specs.Misfits.{AllClear, KindFails, LeafFails, OneLeafFails, IsUnclear}
use Rattle.fb_check_ranges.specs.Tables.{AreKnownLeaves, LeafPasses, LeafRefused, DevicePasses, DeviceRefused}
use Rattle.fb_check_ranges.proofs.Blaming.{refuses_weaker}
use Rattle.fb_check_ranges.proofs.Bridging.{chart_clears, block_says}

-- ---- one leaf

module _ (cert : Certificate) (l : Leaf) (k : Block) (ls : List Leaf) (bs : List wires.Leaf) (b : wires.Leaf) (kind_is : Charted (block_of k) ≡ b.kind) (are : AreLeaves ls bs) (all_known : AreKnownLeaves bs) (is : IsLeaf l b) (known : IsKnownLeaf b) where
  pub clears : ChartLies cert (string_bytes l.path) ls (source_at l.inputs.items) k → LeafClears (certificate_of cert).ranges bs b
  clears h =
      let ranges = (certificate_of cert).ranges in
      subst (λ (p : Path). KindClears ranges bs p b.source b.kind) is.path
      (subst (λ (q : Kind). KindClears ranges bs (names_in (string_bytes l.path)) b.source q) kind_is
      (chart_clears cert (string_bytes l.path) ls l.inputs.items k bs b kind_is (λ x i. is.sources x (ap (λ (q : Kind). is_in x (written_inputs q)) (sym kind_is) ∙ i)) are all_known known h))

  pub says : (e : Unclear) → Blames (string_bytes l.path) (BlockFails cert (string_bytes l.path) ls (source_at l.inputs.items) k) e → Refuses (LeafFails (certificate_of cert).ranges bs b) e
  says e h =
      let ranges = (certificate_of cert).ranges in
      let path : Name = string_bytes l.path in
      refuses_weaker (λ reason row. (x : Name) × (row ≡ dotted path x) × BlockFails cert path ls (source_at l.inputs.items) k reason x) (LeafFails ranges bs b) e
      (λ reason row q. let s = block_says cert path ls l.inputs.items k bs b kind_is (λ x i. is.sources x (ap (λ (q : Kind). is_in x (written_inputs q)) (sym kind_is) ∙ i)) are all_known known reason q.0 q.2 in (
        q.0,
        ap names_in q.1 ∙ names_dotted path q.0 s.1 ∙ ap (λ (p : Path). p ++ q.0 ∷ []) is.path,
        subst (λ (p : Path). KindFails ranges bs p b.source b.kind reason q.0) is.path (subst (λ (z : Kind). KindFails ranges bs (names_in path) b.source z reason q.0) kind_is s.0),
      )) h

-- ---- leaves

pub leaves_pass : (ranges : List Range) (all : List wires.Leaf) (ls : List Leaf) (bs : List wires.Leaf) → AllByRecursion (LeafPasses ranges all) ls → AreLeaves ls bs → AreKnownLeaves bs → AllByRecursion (LeafClears ranges all) bs
leaves_pass ranges all [] [] p a k = tt
leaves_pass ranges all (l ∷ ls) (b ∷ bs) p a k = (p.0 b a.0 k.0, leaves_pass ranges all ls bs p.1 a.1 k.1)
leaves_pass ranges all [] (b ∷ bs) p a k = absurd a
leaves_pass ranges all (l ∷ ls) [] p a k = absurd a

-- the leaf of the book at an index
across : (ls : List Leaf) (bs : List wires.Leaf) (i : ℕ) (l : Leaf) → AreLeaves ls bs → AreKnownLeaves bs → i < length ls → get_or ls i l ≡ l → (b : wires.Leaf) × (i < length bs) × (get_or bs i b ≡ b) × IsLeaf l b × IsKnownLeaf b
across [] bs i l a k h e = absurd (omega arith)
across (x ∷ ls) [] i l a k h e = absurd a
across (x ∷ ls) (b ∷ bs) zero l a k h e = (b, omega arith, refl, subst (λ (z : Leaf). IsLeaf z b) e a.0, k.0)
across (x ∷ ls) (b ∷ bs) (suc i) l a k h e = let m = across ls bs i l a.1 k.1 (omega (arith, h)) e in (m.0, omega (arith, m.1), m.2, m.3, m.4)

pub leaves_refused : (ranges : List Range) (all : List wires.Leaf) (e : Unclear) (ls : List Leaf) (bs : List wires.Leaf) → Any (LeafRefused ranges all e) ls → AreLeaves ls bs → AreKnownLeaves bs
    → Refuses (λ reason path. Any (λ (b : wires.Leaf). LeafFails ranges all b reason path) bs) e
leaves_refused ranges all e ls bs h a k =
    let m = across ls bs h.0 h.1 a k h.2 h.3 in
    refuses_weaker (LeafFails ranges all m.0) (λ reason path. Any (λ (b : wires.Leaf). LeafFails ranges all b reason path) bs) e (λ reason path q. (h.0, m.0, m.1, m.2, q)) (h.4 m.0 m.3 m.4)

-- ---- devices

pub devices_pass : (ranges : List Range) (fs : List FlatDevice) (ds : List system.Device) → AllByRecursion (DevicePasses ranges) fs → AreDevices fs ds → AllByRecursion (λ (d : system.Device). AreKnownLeaves (leaves d)) ds
    → AllByRecursion (λ (d : system.Device). AllByRecursion (LeafClears ranges (leaves d)) (leaves d)) ds
devices_pass ranges [] [] p a k = tt
devices_pass ranges (f ∷ fs) (d ∷ ds) p a k = (p.0 d a.0 k.0, devices_pass ranges fs ds p.1 a.1 k.1)
devices_pass ranges [] (d ∷ ds) p a k = absurd a
devices_pass ranges (f ∷ fs) [] p a k = absurd a

over : (ranges : List Range) (e : Unclear) (fs : List FlatDevice) (ds : List system.Device) (i : ℕ) (f : FlatDevice) → AreDevices fs ds → AllByRecursion (λ (d : system.Device). AreKnownLeaves (leaves d)) ds → i < length fs → get_or fs i f ≡ f
    → DeviceRefused ranges e f → (d : system.Device) × (i < length ds) × (get_or ds i d ≡ d) × OneLeafFails ranges (leaves d) e
over ranges e [] ds i f a k h g r = absurd (omega arith)
over ranges e (x ∷ fs) [] i f a k h g r = absurd a
over ranges e (x ∷ fs) (d ∷ ds) zero f a k h g r = (d, omega arith, refl, subst (DeviceRefused ranges e) (sym g) r d a.0 k.0)
over ranges e (x ∷ fs) (d ∷ ds) (suc i) f a k h g r = let m = over ranges e fs ds i f a.1 k.1 (omega (arith, h)) g r in (m.0, omega (arith, m.1), m.2, m.3)

pub passed : (ranges : List Range) (fs : List FlatDevice) (s : system.System) (r : Result (Unit {0}) Unclear) → OnOk r (AllByRecursion (DevicePasses ranges) fs) → AreDevices fs s.devices → AreKnown s → OnOk r (AllClear ranges s)
passed ranges fs s (Ok u) p a k = devices_pass ranges fs s.devices p a k
passed ranges fs s (Err e) p a k = tt

pub unclear : (ranges : List Range) (fs : List FlatDevice) (s : system.System) (r : Result (Unit {0}) Unclear) → IfErr r (λ e. Any (DeviceRefused ranges e) fs) → AreDevices fs s.devices → AreKnown s → IfErr r (IsUnclear ranges s)
unclear ranges fs s (Ok u) p a k = tt
unclear ranges fs s (Err e) p a k =
    let m = over ranges e fs s.devices p.0 p.1 a k p.2 p.3 p.4 in
    refuses_weaker (λ reason path. Any (λ (b : wires.Leaf). LeafFails ranges (leaves m.0) b reason path) (leaves m.0)) (λ reason path. Any (λ (d : system.Device). Any (λ (b : wires.Leaf). LeafFails ranges (leaves d) b reason path) (leaves d)) s.devices) e (λ reason path q. (p.0, m.0, m.1, m.2, q)) m.3

-- ---- results

pub passes_then : (ranges : List Range) (f : FlatDevice) (r : Result (Unit {0}) Unclear) → ((d : system.Device) → IsDevice f d → AreKnownLeaves (leaves d) → OnOk r (AllByRecursion (LeafClears ranges (leaves d)) (leaves d))) → OnOk r (DevicePasses ranges f)
passes_then ranges f (Ok u) g = g
passes_then ranges f (Err e) g = tt

pub refused_then : (ranges : List Range) (f : FlatDevice) (r : Result (Unit {0}) Unclear) → ((d : system.Device) → IsDevice f d → AreKnownLeaves (leaves d) → IfErr r (OneLeafFails ranges (leaves d))) → IfErr r (λ e. DeviceRefused ranges e f)
refused_then ranges f (Ok u) g = tt
refused_then ranges f (Err e) g = g
