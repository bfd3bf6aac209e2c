use Rattle.std.proofs.Common.{List, take}
use Rattle.std.specs.List.{AllByRecursion}
use Rattle.fb_flat.specs.declared.flat.Leaf.{Leaf}
use Rattle.fb_flat.specs.Tables.{source_at}
use Rattle.fb_check_ranges.specs.Places.{ArePlaces}
use Rattle.fb_check_ranges.specs.Beginning.{NamedVariable, shown, LinkLies}
use Rattle.fb_check_ranges.proofs.link.links_lie.Given as goal

abbrev pub invariant-loop-index : goal.invariant-loop-index
invariant-loop-index l = (ls : List Leaf) → ArePlaces ls l.places → AllByRecursion (λ (e : NamedVariable). LinkLies l.certificate l.path ls (source_at l.inputs) (shown e)) (take l.index l.variables.entries)
