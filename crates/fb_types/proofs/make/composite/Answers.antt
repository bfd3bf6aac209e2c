use Rattle.std.proofs.Common.{refl, ap, map}
use Rattle.std.proofs.lemmas.Result.{err_from_is_err_and}
use Rattle.fb_tree.specs.Files as trees_of
use Rattle.fb_types_networks.specs.Views.{placed_of}
use Rattle.fb_model.specs.SourceFaults.{no_memory_for_type, faulty_network}
use Rattle.fb_types.proofs.Making.{named_parts, composite_typed}
use Rattle.fb_types.proofs.make.composite.Goals as goal

pub returns-in_err-network-clause-refused : goal.returns-in_err-network-clause-refused
returns-in_err-network-clause-refused c = λ bs b ins outs d n h.
    let p = err_from_is_err_and c.from_residual.result c.from_residual.ensures.1 in
    let named = named_parts bs d (trees_of.network_of c.args.network.now) (map placed_of c.args.instances.items) h.parts.typed in
    rw (p.1, p.2) (faulty_network h.composite h.face h.parts.typed (c.in_err-network.ensures.refused named))

pub returns-in_err-new-clause-refused : goal.returns-in_err-new-clause-refused
returns-in_err-new-clause-refused c = λ bs b ins outs d n h.
    let p = err_from_is_err_and c.from_residual-in_err-new.result c.from_residual-in_err-new.ensures.1 in
    rw (p.1, p.2) (no_memory_for_type refl)

pub returns-in_err-new-2-clause-refused : goal.returns-in_err-new-2-clause-refused
returns-in_err-new-2-clause-refused c = λ bs b ins outs d n h.
    let p = err_from_is_err_and c.from_residual-in_err-new-2.result c.from_residual-in_err-new-2.ensures.1 in
    rw (p.1, p.2) (no_memory_for_type refl)

pub returns-clause-made : goal.returns-clause-made
returns-clause-made c = λ bs b ins outs d n h e.
    let named = named_parts bs d (trees_of.network_of c.args.network.now) (map placed_of c.args.instances.items) h.parts.typed in
    composite_typed bs b ins outs _ (trees_of.network_of c.args.network.now) d n c.args.instances.items c.in_ok-network.network _ h e (c.in_ok-network.ensures.typed named) (ap (λ v. v.items) c.in_ok-network.ensures.instances)
    (rw (c.in_ok-new.ensures.ok, c.in_ok-new-2.ensures.ok) refl) (rw c.in_ok-new-2.ensures.ok refl)
