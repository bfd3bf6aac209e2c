-- What holds of a device's own rows holds of them among those of all devices.
use Rattle.std.proofs.Common.{◌≡◌, true, List, sym, subst}
use Rattle.std.specs.List.{AllByRecursion}
use Rattle.fb_model.specs.Names.{Path}
use Rattle.fb_model.specs.Declarations.{BlockTree, SourceTree}
use Rattle.fb_model.specs.System.{Variable, Device, System}
use Rattle.fb_model.specs.NetworkTyping.{ElaboratesWith}
use Rattle.fb_model.specs.Wires.{Source, Output_of, Constant, Leaf, leaves}
use Rattle.fb_model.specs.Spans.{Span, within}
use Rattle.fb_model.specs.Ranges.{Range, variables, row_of, rows, SourceFits}
use Rattle.fb_model.proofs.Lists.{all_weaker, all_both}
use Rattle.fb_model.specs.FinderRanges.{IsLast, AreFound}
use Rattle.fb_model_laws.specs.Devices.{FindsAlike, FindsItsLast}
use Rattle.fb_model_laws.specs.Holding.{IsGoodRow, LeafIsGood, LeafIsFed}
use Rattle.fb_model_laws.proofs.Feeding.{at_leaf, all_last_rows_hold}
use Rattle.fb_model_laws.proofs.Devices.{found_rows_are_last}

good_among : (ranges own : List Range) (leaf : Leaf) → FindsAlike ranges own leaf → LeafIsGood own leaf → LeafIsGood ranges leaf
good_among ranges own leaf a good =
    all_weaker (λ (v : Variable). IsGoodRow leaf v (row_of own leaf.path leaf.kind v)) (λ (v : Variable). IsGoodRow leaf v (row_of ranges leaf.path leaf.kind v)) (variables leaf.kind)
    (λ v g. subst (λ (r : Span). IsGoodRow leaf v r) (sym (a.of_variables v)) g) good

source_among : (ranges own : List Range) (all : List Leaf) (r : Span) (s : Source) → AllByRecursion (FindsAlike ranges own) all → SourceFits own all r s → SourceFits ranges all r s
source_among ranges own all r (Constant value) alike h = tt
source_among ranges own all r (Output_of from y) alike h =
    let giver = h.0 in
    let a = at_leaf (FindsAlike ranges own) all from giver alike h.1 in
    let same : rows ranges from giver.kind y ≡ rows own from giver.kind y = subst (λ (p : Path). rows ranges p giver.kind y ≡ rows own p giver.kind y) a.1 (a.0.of_names y) in
    (giver, h.1, subst (λ (q : Span). within q r ≡ true) (sym same) h.2)

fed_among : (ranges own : List Range) (all : List Leaf) (leaf : Leaf) → AllByRecursion (FindsAlike ranges own) all → FindsAlike ranges own leaf → LeafIsFed own all leaf → LeafIsFed ranges all leaf
fed_among ranges own all leaf alike a fed =
    all_weaker (λ (v : Variable). SourceFits own all (row_of own leaf.path leaf.kind v) (leaf.source v.name)) (λ (v : Variable). SourceFits ranges all (row_of ranges leaf.path leaf.kind v) (leaf.source v.name)) (variables leaf.kind)
    (λ v f. subst (λ (r : Span). SourceFits ranges all r (leaf.source v.name)) (sym (a.of_variables v)) (source_among ranges own all (row_of own leaf.path leaf.kind v) (leaf.source v.name) alike f)) fed

pub found_rows_hold : (library : List BlockTree) (source : SourceTree) (system : System) (ranges : List Range) → ElaboratesWith library source system → AreFound system.devices ranges
    → AllByRecursion (λ (d : Device). AllByRecursion (λ (leaf : Leaf). LeafIsGood ranges leaf × LeafIsFed ranges (leaves d) leaf) (leaves d)) system.devices
found_rows_hold library source system ranges e found =
    all_both (FindsItsLast ranges) (λ (d : Device). (zs : List Range) → IsLast (leaves d) zs → AllByRecursion (λ (leaf : Leaf). LeafIsGood zs leaf × LeafIsFed zs (leaves d) leaf) (leaves d))
    (λ (d : Device). AllByRecursion (λ (leaf : Leaf). LeafIsGood ranges leaf × LeafIsFed ranges (leaves d) leaf) (leaves d)) system.devices
    (λ d f h.
    all_both (FindsAlike ranges f.own) (λ (leaf : Leaf). LeafIsGood f.own leaf × LeafIsFed f.own (leaves d) leaf) (λ (leaf : Leaf). LeafIsGood ranges leaf × LeafIsFed ranges (leaves d) leaf) (leaves d)
    (λ leaf a g. (good_among ranges f.own leaf a g.0, fed_among ranges f.own (leaves d) leaf f.alike a g.1)) f.alike (h f.own f.last))
    (found_rows_are_last library source system ranges e found) (all_last_rows_hold library source system e)
