use Rattle.std.proofs.Common.{◌≡◌, ◌++◌, ℕ, length, List, sym, ◌∙◌, ap, subst, arith, take}
use Rattle.std.proofs.lemmas.List.{length-map, take_all}
use Rattle.fb_model.specs.Messages.{Spells}
use Rattle.fb_wire.specs.Views.{typed_of, head_bytes, all_bytes}
use Rattle.fb_wire.proofs.Coming.{room_left, one_written, encoded}
use Rattle.fb_wire.proofs.encoding.encode.Goals as goal

pub put_value-requires : goal.put_value-requires
put_value-requires c = room_left c.loop-typed.bytes.items c.start-bytes.result.items c.values-values.result.now c.loop-typed.typed-index c.loop-typed.invariant c.start-bytes.ensures.few c.values-values.ensures.few c.loop-typed-test.true

pub loop-typed-preserved : goal.loop-typed-preserved
loop-typed-preserved c = one_written _ c.loop-typed.bytes.items c.put_value.new.bytes.items c.start-bytes.result.items c.values-values.result.now c.loop-typed.typed-index c.put_value.ensures c.loop-typed.invariant c.loop-typed-test.true

pub returns : goal.returns
returns c =
    let m = c.args.message.now in
    let values = c.values-values.result.now in
    let many : length m.values ≡ length values = ap length (sym c.values-values.ensures.values) ∙ length-map values typed_of in
    let all : take c.loop-typed.typed-index values ≡ values = take_all c.loop-typed.typed-index values (omega (arith, c.loop-typed-test.false)) in
    let is : c.loop-typed.bytes.items ≡ head_bytes m (length values) ++ all_bytes values =
    c.loop-typed.invariant ∙ ap (λ us. c.start-bytes.result.items ++ all_bytes us) all ∙ ap (λ (bs : List ℕ). bs ++ all_bytes values) (c.start-bytes.ensures.bytes ∙ ap (head_bytes m) many) in
    subst (Spells m) (sym is) (encoded m values c.values-values.ensures.values c.start-bytes.ensures.number c.start-bytes.ensures.stamped c.values-values.ensures.few c.values-values.ensures.fitting)
