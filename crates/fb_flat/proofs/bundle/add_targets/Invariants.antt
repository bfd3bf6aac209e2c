use Rattle.std.proofs.Common.{map, take}
use Rattle.fb_types_networks.specs.Views.{connection_of}
use Rattle.fb_flat.specs.Bundled.{IsBundled, target_of}
use Rattle.fb_flat.proofs.bundle.add_targets.Given as goal

-- the table has those so far
abbrev pub invariant-loop-connection : goal.invariant-loop-connection
invariant-loop-connection l = IsBundled target_of (map connection_of (take l.connection-index l.connections)) l.bundles
