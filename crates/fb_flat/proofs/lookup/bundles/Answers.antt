use Rattle.std.proofs.Common.{map, subst}
use Rattle.fb_types_networks.specs.Views.{connection_of}
use Rattle.fb_flat.specs.Bundled.{IsBundled, source_of, target_of}
use Rattle.fb_flat.proofs.lookup.bundles.Goals as goal

pub returns-in-Ok-clause-events_are : goal.returns-in-Ok-clause-events_are
returns-in-Ok-clause-events_are c = subst (λ l. IsBundled source_of (map connection_of l) c.in_ok-events.events) c.deref.ensures.value c.in_ok-events.ensures

pub returns-in-Ok-clause-values_are : goal.returns-in-Ok-clause-values_are
returns-in-Ok-clause-values_are c = subst (λ l. IsBundled target_of (map connection_of l) c.in-Ok.values) c.deref-2.ensures.value c.in-Ok.ensures
