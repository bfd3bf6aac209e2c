use Rattle.std.proofs.Common.{map, take, sym, subst}
use Rattle.fb_flat.proofs.Systems.{mapped_more}
use Rattle.fb_types_networks.specs.Views.{connection_of}
use Rattle.fb_flat.specs.Bundled.{IsBundled, source_of}
use Rattle.fb_flat.proofs.Bundling.{bundled_more}
use Rattle.fb_flat.proofs.bundle.add_sources.Goals as goal

pub loop-connection-init : goal.loop-connection-init
loop-connection-init c = c.requires

pub loop-connection-preserved : goal.loop-connection-preserved
loop-connection-preserved c =
    let xs = c.args.connections.now in
    let i = c.loop-connection.connection-index in
    let x = c.connection-item.result in
    subst (λ l. IsBundled source_of l c.put.new.bundles) (sym (mapped_more connection_of xs i x c.loop-connection-test.true c.connection-item.is))
    (bundled_more source_of (map connection_of (take i xs)) _ c.loop-connection.bundles c.put.new.bundles _ c.in_ok-text.ensures c.loop-connection.invariant c.in_ok-put.ensures)
