use Rattle.std.proofs.Common.{◌≡◌, ◌++◌, Bor, map, refl, ap, ◌∙◌}
use Rattle.std.specs.List.{Any}
use Rattle.fb_model.specs.Wires as wires
use Rattle.fb_model.specs.Wires.{leaves}
use Rattle.fb_model.specs.Ranges.{rows}
use Rattle.fb_model_laws.specs.Leaves.{IsClosed}
use Rattle.fb_model_laws.specs.Words.{IsWordyLeaf}
use Rattle.fb_cert.specs.Views.{certificate_of}
use Rattle.fb_check_ranges.specs.Places.{leaves_in}
use Rattle.fb_flat.specs.declared.flat.Leaf.{Leaf}
use Rattle.fb_prices.specs.Words.{prices_of}
use Rattle.fb_work.specs.Algorithms.{IsDear, OrMemory}
use Rattle.fb_work.proofs.Lists.{any_at, each_at, got_at}
use Rattle.fb_work.proofs.Systems.{leaf_list, leaf_more, leaves_end, own_ends, own_leaf}
use Rattle.fb_work.proofs.Told.{told_of, told_same}
use Rattle.fb_work.proofs.system.add_device.Goals as goal

pub loop-leaf-init : goal.loop-leaf-init
loop-leaf-init c = λ d is words closed. refl

pub returns-in_err-add_leaf-clause-dear : goal.returns-in_err-add_leaf-clause-dear
returns-in_err-add_leaf-clause-dear c = λ d is words.
    let prices = prices_of c.args.prices.now in
    let ranges = (certificate_of c.args.certificate.now).ranges in
    let Dear : wires.Leaf → Type 0 = λ l. IsDear prices (rows ranges l.path l.kind) l.kind in
    let xs = c.deref-leaf-items.result.now in
    let own : map (λ (l : Bor Leaf). l.now) xs ≡ leaves_in c.args.device.now.resources.items =
    ap (map (λ (l : Bor Leaf). l.now)) c.deref-leaf-items.ensures.value ∙ c.in_ok-own.ensures ∙ ap leaves_in c.as_slice.ensures.value in
    let i = c.loop-leaf.leaf-index in
    let x = c.leaf-item.result in
    let at = own_leaf c.args.device.now d xs own is i x (got_at xs i x c.loop-leaf-test.true c.leaf-item.is) in
    let w = c.in_err-add_leaf.field-0.0 in
    told_same c.from_residual-in_err-add_leaf.result w (OrMemory (Any Dear (leaves d))) c.from_residual-in_err-add_leaf.ensures.1
    (told_of w (Dear at.0) (Any Dear (leaves d)) (any_at Dear (leaves d) i at.0 at.1) (c.in_err-add_leaf.ensures.dear at.0 at.2 (each_at IsWordyLeaf (leaves d) i at.0 at.1 words.leaves)))

pub loop-leaf-preserved : goal.loop-leaf-preserved
loop-leaf-preserved c = λ d is words closed.
    let prices = prices_of c.args.prices.now in
    let ranges = (certificate_of c.args.certificate.now).ranges in
    let xs = c.deref-leaf-items.result.now in
    let own : map (λ (l : Bor Leaf). l.now) xs ≡ leaves_in c.args.device.now.resources.items =
    ap (map (λ (l : Bor Leaf). l.now)) c.deref-leaf-items.ensures.value ∙ c.in_ok-own.ensures ∙ ap leaves_in c.as_slice.ensures.value in
    let i = c.loop-leaf.leaf-index in
    let x = c.leaf-item.result in
    let at = own_leaf c.args.device.now d xs own is i x (got_at xs i x c.loop-leaf-test.true c.leaf-item.is) in
    leaf_more prices ranges (leaves d) i at.0 c.loop-leaf.works.items c.add_leaf.new.works.items (c.args.works.now.items ++ leaf_list prices ranges (leaves d)) at.1
    (c.in_ok-add_leaf.ensures.value at.0 at.2 (each_at IsWordyLeaf (leaves d) i at.0 at.1 words.leaves) (each_at (λ (l : wires.Leaf). IsClosed l.kind) (leaves d) i at.0 at.1 closed))
    (c.loop-leaf.invariant d is words closed)

pub returns-clause-value : goal.returns-clause-value
returns-clause-value c = λ d is words closed.
    let prices = prices_of c.args.prices.now in
    let ranges = (certificate_of c.args.certificate.now).ranges in
    let xs = c.deref-leaf-items.result.now in
    let own : map (λ (l : Bor Leaf). l.now) xs ≡ leaves_in c.args.device.now.resources.items =
    ap (map (λ (l : Bor Leaf). l.now)) c.deref-leaf-items.ensures.value ∙ c.in_ok-own.ensures ∙ ap leaves_in c.as_slice.ensures.value in
    let i = c.loop-leaf.leaf-index in
    leaves_end prices ranges (leaves d) i c.loop-leaf.works.items (c.args.works.now.items ++ leaf_list prices ranges (leaves d)) (own_ends c.args.device.now d xs own is i c.loop-leaf-test.false) (c.loop-leaf.invariant d is words closed)
