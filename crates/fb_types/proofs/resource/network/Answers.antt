use Rattle.std.proofs.Common.{map, subst}
use Rattle.std.specs.Prelude.{IfErr, IfOk}
use Rattle.fb_tree.specs.Files as trees_of
use Rattle.fb_types_networks.specs.Answers.{IsWired}
use Rattle.fb_model.specs.NetworkFaults.{IsNetworkFault}
use Rattle.fb_types_networks.specs.Views.{placed_of, wired_of}
use Rattle.fb_types.proofs.resource.network.Goals as goal

pub returns-clause-typed : goal.returns-clause-typed
returns-clause-typed c = λ named. subst (λ g. IfOk c.wire.result (λ n. IsWired g (trees_of.network_of c.args.source.now) (map placed_of c.args.instances.items) (wired_of n))) c.without_ports.ensures (c.wire.ensures.typed named)

pub returns-clause-refused : goal.returns-clause-refused
returns-clause-refused c = λ named. subst (λ g. IfErr c.wire.result (IsNetworkFault g (trees_of.network_of c.args.source.now) (map placed_of c.args.instances.items))) c.without_ports.ensures (c.wire.ensures.refused named)
