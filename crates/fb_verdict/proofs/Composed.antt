-- The parts of a verdict make a certificate that fits.
use Rattle.std.proofs.Common.{◌≡◌, ℕ, List, [], ◌∷◌, Some}
use Rattle.std.specs.List.{AllByRecursion}
use Rattle.fb_model.specs.System.{Device, System}
use Rattle.fb_model.specs.Wires.{Kind, Charted, Serviced, Leaf, leaves}
use Rattle.fb_model.specs.Ranges.{Range, LeafClears, KindClears}
use Rattle.fb_model.specs.Certificates as book
use Rattle.fb_model.specs.Certificates.{ColumnFits, DeviceFits, AllRows, steps_of, places_of, FollowsFew, FarFits, Fits}
use Rattle.fb_model.proofs.Lists.{all_both}
use Rattle.fb_model_laws.specs.Words.{IsWordyLeaf, IsWordyDevice}
use Rattle.fb_model_laws.specs.Leaves.{IsClosed}
use Rattle.fb_model_laws.proofs.Closed.{all_charts_closed}
use Rattle.fb_cert.specs.declared.certificate.Certificate.{Certificate}
use Rattle.fb_cert.specs.Views.{certificate_of}
use Rattle.fb_check_columns.specs.Columns.{column_of}
use Rattle.fb_check_columns.specs.declared.column.Column.TheVariants.{Steps, Places}
use Rattle.fb_check_ranges.specs.Fitting.{IsKnownLeaf as IsPlainLeaf, AreKnown as ArePlain}
use Rattle.fb_model.specs.Misfits.{AllClear}
use Rattle.fb_check_columns.specs.Fitting.{AlgorithmsClear, IsKnownLeaf, AreKnown, AllPay}
use Rattle.fb_check_rows.specs.Depths.{IsDeep}
use Rattle.fb_model.specs.Written.{IsWritten}
use Rattle.fb_verdict.specs.Fitting.{FitsAlone}
use Rattle.fb_verified.proofs.Written.{words}

algorithms : (ranges : List Range) (all : List Leaf) (leaf : Leaf) (kind : Kind) → KindClears ranges all leaf.path leaf.source kind → AlgorithmsClear ranges leaf.path kind
algorithms ranges all leaf (Charted block) h = h.algorithms
algorithms ranges all leaf (Serviced service) h = tt

plain_leaves : (ds : List Device) → AllByRecursion IsWordyDevice ds → AllByRecursion (λ (d : Device). AllByRecursion (λ (leaf : Leaf). IsClosed leaf.kind) (leaves d)) ds → AllByRecursion (λ (d : Device). AllByRecursion IsPlainLeaf (leaves d)) ds
plain_leaves [] w c = tt
plain_leaves (d ∷ ds) w c = (all_both IsWordyLeaf (λ (leaf : Leaf). IsClosed leaf.kind) IsPlainLeaf (leaves d) (λ leaf a b. record { words = a; closed = b }) w.0.leaves c.0, plain_leaves ds w.1 c.1)

-- what is known of the leaves of a system that stands in texts
pub plain : (s : System) → IsWritten s → ArePlain s
plain s w = plain_leaves s.devices (words s w) (all_charts_closed _ _ s w.1.typed.typed)

known_leaves : (ranges : List Range) (ds : List Device) → AllByRecursion (λ (d : Device). AllByRecursion IsPlainLeaf (leaves d)) ds → AllByRecursion (λ (d : Device). AllByRecursion (LeafClears ranges (leaves d)) (leaves d)) ds
    → AllByRecursion (λ (d : Device). AllByRecursion (IsKnownLeaf ranges) (leaves d)) ds
known_leaves ranges [] p l = tt
known_leaves ranges (d ∷ ds) p l = (
  all_both IsPlainLeaf (LeafClears ranges (leaves d)) (IsKnownLeaf ranges) (leaves d) (λ leaf a b. record { words = a.words; closed = a.closed; clear = algorithms ranges (leaves d) leaf leaf.kind b }) p.0 l.0,
  known_leaves ranges ds p.1 l.1,
)

-- and where all is clear under rows
pub known : (s : System) (ranges : List Range) → IsWritten s → AllClear ranges s → AreKnown ranges s
known s ranges w l = known_leaves ranges s.devices (plain s w) l

devices_fit : (cert : book.Certificate) (ds : List Device)
    → AllByRecursion (λ (d : Device). ColumnFits (steps_of cert) cert.ranges (leaves d)) ds
    → AllByRecursion (λ (d : Device). ColumnFits (places_of cert) cert.ranges (leaves d)) ds
    → AllByRecursion (IsDeep cert) ds
    → AllByRecursion (DeviceFits cert) ds
devices_fit cert [] s p a = tt
devices_fit cert (d ∷ ds) s p a = (record { steps = s.0; places = p.0; arrivals = a.0.arrivals; begins = a.0.begins }, devices_fit cert ds s.1 p.1 a.1)

-- all parts but the network hold
pub alone_by : (s : System) (cert : Certificate) → AllByRecursion FollowsFew s.devices → AllRows s (certificate_of cert) → AllClear (certificate_of cert).ranges s
    → AllPay (column_of Steps (certificate_of cert)) (certificate_of cert).ranges s → AllPay (column_of Places (certificate_of cert)) (certificate_of cert).ranges s → AllByRecursion (IsDeep (certificate_of cert)) s.devices → FitsAlone s (certificate_of cert)
alone_by s cert few rows clear steps places deep =
    record {
      followed = few;
      rows = rows;
      clear = clear;
      devices = devices_fit (certificate_of cert) s.devices steps places deep;
    }

-- and the network too, so the certificate fits
pub fits_with : (s : System) (cert : book.Certificate) → FitsAlone s cert → ((r : ℕ) → cert.repeats ≡ Some r → FarFits cert r s) → Fits s cert
fits_with s cert a far = record { followed = a.followed; rows = a.rows; clear = a.clear; devices = a.devices; far = far }
