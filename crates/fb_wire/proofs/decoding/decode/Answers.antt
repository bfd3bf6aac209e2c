use Rattle.std.proofs.Common.{◌≡◌, ◌++◌, List, [], ◌∷◌, sym, ◌∙◌, ap, subst, arith, true, false, cond, length, ℕ, Some, Err, ◌&&◌}
use Rattle.std.specs.Prelude.{IfErr, ◌==◌}
use Rattle.std.proofs.lemmas.Result.{err_from_is_err_and}
use Rattle.std.proofs.lemmas.Bool.{eqb-true, lt-ltb}
use Rattle.fb_words.specs.Numbers.{in_type}
use Rattle.fb_wire.specs.Views.{typed_of, fault_of}
use Rattle.fb_model.specs.Fields.{fault_in}
use Rattle.fb_wire.proofs.Coming.{begins, at_fault, room, next, ends, follows}
use Rattle.fb_wire.proofs.decoding.decode.Goals as goal

pub loop-init : goal.loop-init
loop-init c = begins c.args.bytes.now c.in_ok-message.behind.now c.in_ok-message.message c.in_ok-message.count c.in_ok-message.ensures.spelled c.in_ok-message.ensures.few c.in_ok-message.ensures.begun

pub returns-in_err-typed-clause-fault : goal.returns-in_err-typed-clause-fault
returns-in_err-typed-clause-fault c =
    let p = err_from_is_err_and c.from_residual-in_err-typed.result c.from_residual-in_err-typed.ensures.1 in
    let f = at_fault c.args.bytes.now c.loop.rest.now c.in_ok-message.count c.loop.counter c.loop.message c.loop-test.true c.loop.invariant (fault_of c.in_err-typed.field-0.0) c.in_err-typed.ensures.fault in
    subst (λ r. IfErr r (λ fault. fault_in c.args.bytes.now ≡ Some (fault_of fault))) (sym (p.1 ∙ ap Err p.2)) f

pub loop-preserved : goal.loop-preserved
loop-preserved c =
    let added : c.add.result ≡ true = c.add.ensures.added ∙ ap (λ b. b && in_type c.in_ok-typed.typed.elem c.in_ok-typed.typed.value) (lt-ltb (length c.loop.message.values) 16 (room c.args.bytes.now c.loop.rest.now c.in_ok-message.count c.loop.counter c.loop.message c.loop-test.true c.loop.invariant)) ∙ c.in_ok-typed.ensures.fits in
    next c.args.bytes.now c.loop.rest.now c.in_ok-message.count c.loop.counter c.loop.message c.loop-test.true c.loop.invariant c.in_ok-typed.behind.now c.in_ok-typed.typed c.add.new.self c.in_ok-typed.ensures.spelled c.in_ok-typed.ensures.fits
    (c.add.ensures.is ∙ ap (λ b. cond b (record { purpose = c.loop.message.purpose; number = c.loop.message.number; stamp = c.loop.message.stamp; values = c.loop.message.values ++ typed_of c.in_ok-typed.typed ∷ [] }) c.loop.message) added)

pub returns-then-is_empty-clause-spelled : goal.returns-then-is_empty-clause-spelled
returns-then-is_empty-clause-spelled c =
    ends c.args.bytes.now c.in_ok-message.count c.loop.counter c.loop.message c.loop.rest.now c.loop.invariant (omega (arith, c.loop-test.false)) (omega (arith, c.loop.auto.counter-end))
    (eqb-true (length c.loop.rest.now) 0 (sym c.is_empty.ensures ∙ c.if-is_empty.true))

pub returns-else-is_empty-clause-fault : goal.returns-else-is_empty-clause-fault
returns-else-is_empty-clause-fault c =
    follows c.args.bytes.now c.in_ok-message.count c.loop.counter c.loop.message c.loop.rest.now c.loop.invariant (omega (arith, c.loop-test.false)) (omega (arith, c.loop.auto.counter-end))
    (λ none. (let e : false ≡ true = sym c.if-is_empty.false ∙ c.is_empty.ensures ∙ ap (λ (bs : List ℕ). length bs == 0) none in absurd cc))
