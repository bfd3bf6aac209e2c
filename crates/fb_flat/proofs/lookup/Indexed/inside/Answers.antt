use Rattle.std.proofs.Common.{◌≡◌, Some, length, ap, sym, ◌∙◌, arith}
use Rattle.std.specs.Prelude.{slice_get}
use Rattle.std.proofs.lemmas.Option.{slice_get-get_or}
use Rattle.fb_types_networks.specs.declared.typed.Network.{out-Network}
use Rattle.fb_flat.proofs.Indexing.{inside_length, inside_at}
use Rattle.fb_flat.proofs.lookup.Indexed.inside.Goals as goal

pub index-requires : goal.index-requires
index-requires c =
    let is = (out-Network c.self.inside.network.now).instances.items in
    let e : length is ≡ length c.self.inside.inside.items = inside_length is c.self.inside.inside.items c.self.invariant.inside_are in
    let v : length is ≡ length (out-Network c.args.self.now).instances.items = ap (λ n. length (out-Network n).instances.items) c.self.view_is in
    let r = c.requires in
    omega (arith, e, v, r)

pub returns : goal.returns
returns c = λ i e.
    let is = (out-Network c.self.inside.network.now).instances.items in
    let xs = c.self.inside.inside.items in
    let h : length is ≡ length xs = inside_length is xs c.self.invariant.inside_are in
    let v : length is ≡ length (out-Network c.args.self.now).instances.items = ap (λ n. length (out-Network n).instances.items) c.self.view_is in
    let r = c.requires in
    inside_at is xs c.args.position i c.index.result.now c.self.invariant.inside_are (ap (λ n. slice_get (out-Network n).instances.items c.args.position) c.self.view_is ∙ e)
    (slice_get-get_or xs c.args.position c.index.result.now (omega (arith, h, v, r)) ∙ ap Some (sym c.index.ensures))
