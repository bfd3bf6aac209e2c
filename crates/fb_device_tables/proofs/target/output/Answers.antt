use Rattle.std.proofs.Common.{List, map, string_bytes, ap, subst, ◌∙◌}
use Rattle.fb_model.specs.Names.{Name}
use Rattle.fb_model.specs.Store.{gives}
use Rattle.fb_flat.specs.Leaves.{kind_of}
use Rattle.fb_chart.specs.Tables.{Each}
use Rattle.fb_device_tables.specs.Filling.{IsGiveMade, seat_of}
use Rattle.fb_device_tables.proofs.Giving.{gives_named, gives_placed}
use Rattle.fb_device_tables.proofs.target.output.Goals as goal

pub returns : goal.returns
returns c =
    let s = seat_of c.args.seat.now in
    let names = map string_bytes c.in_ok-names.names.items in
    let made : Each (IsGiveMade s.own s.issued) names c.in_ok-gives.gives.items = subst (λ (ns : List Name). Each (IsGiveMade s.own s.issued) ns c.in_ok-gives.gives.items) (ap (map string_bytes) c.deref-2.ensures.value) c.in_ok-gives.ensures in
    record {
      name = c.in_ok-name.ensures.cases;
      points = rw c.deref.ensures.value at c.in_ok-targets.ensures;
      gives_are = λ small. gives_named s.own s.issued names c.in_ok-gives.gives.items made ∙ c.in_ok-names.ensures small ∙ ap (gives (kind_of s.leaf.body)) c.as_str.ensures.value;
      placed = gives_placed s.own s.issued names c.in_ok-gives.gives.items made;
    }
