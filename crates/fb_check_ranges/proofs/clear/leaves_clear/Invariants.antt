use Rattle.std.proofs.Common.{List, map, drop}
use Rattle.std.specs.List.{AllByRecursion}
use Rattle.fb_model.specs.Wires as wires
use Rattle.fb_cert.specs.Views.{certificate_of}
use Rattle.fb_flat.specs.Tables.{AreLeaves}
use Rattle.fb_check_ranges.specs.Places.{ArePlaces}
use Rattle.fb_check_ranges.specs.Examining.{IsExamined}
use Rattle.fb_check_ranges.specs.Tables.{AreKnownLeaves, LeafPasses}
use Rattle.fb_check_ranges.proofs.clear.leaves_clear.Given as goal

abbrev pub invariant-loop-leaf : goal.invariant-loop-leaf
invariant-loop-leaf l =
    let ls = map (λ y. y.now) l.leaves in
    record {
      pass : ArePlaces ls l.places → (bs : List wires.Leaf) → AreLeaves ls bs → AreKnownLeaves bs → AllByRecursion (LeafPasses (certificate_of l.certificate).ranges bs) (drop l.leaf-index ls) → AllByRecursion (LeafPasses (certificate_of l.certificate).ranges bs) ls;
      known : AllByRecursion IsExamined l.known.items;
    }
