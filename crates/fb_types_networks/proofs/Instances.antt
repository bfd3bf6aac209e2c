-- Instances a part at a time.
use Rattle.std.proofs.Common.{◌≡◌, map, string_bytes, rules}
use Rattle.fb_types_networks.specs.declared.typed.Body.{the_lemmas}
use Rattle.fb_types_networks.specs.declared.typed.Instance.{Instance}
use Rattle.fb_types_networks.specs.declared.typed.Network.{Network, out-Network}
use Rattle.fb_types_networks.specs.Views.{parameter_of, connection_of, body_of, placed_of, wired_of}

pub view_instance : (i : Instance) → placed_of i ≡ (string_bytes i.name, map parameter_of i.parameters.items, body_of i.body)
view_instance i = search (rules, the_lemmas)

pub view_network : (n : Network) → wired_of n ≡ (map placed_of (out-Network n).instances.items, map connection_of (out-Network n).events.items, map connection_of (out-Network n).values.items)
view_network n = search (rules, the_lemmas)
