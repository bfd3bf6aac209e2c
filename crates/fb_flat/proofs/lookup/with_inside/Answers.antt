use Rattle.fb_flat.proofs.lookup.with_inside.Goals as goal

pub invariant_of-result : goal.invariant_of-result
invariant_of-result c = record {
  positions_are = c.in-Ok.ensures.positions_are;
  events_are = c.in-Ok.ensures.events_are;
  values_are = c.in-Ok.ensures.values_are;
  inside_are = c.requires;
}
