use Rattle.std.proofs.Common.{◌≡◌, ℕ, [], ◌++◌, map, sym, ap, ◌∙◌, subst, OnOk, true, string_bytes}
use Rattle.std.specs.Str.{bytes_eq}
use Rattle.std.proofs.lemmas.List.{append-nil}
use Rattle.fb_model.specs.Names.{Place}
use Rattle.fb_model.specs.Demands.{event}
use Rattle.fb_flat.specs.Tables.{targets_of, target_place}
use Rattle.fb_find_demands.specs.Rights.{numbers_of}
use Rattle.fb_find_demands.proofs.Loops.{rest_of}
use Rattle.fb_find_demands.proofs.Outputs.{targets_here, nothing_left}
use Rattle.fb_find_demands.proofs.scene.add_output.Goals as goal

pub returns-then-eq : goal.returns-then-eq
returns-then-eq c =
    let f : Place → ℕ = λ p. numbers_of c.args.numbering.now (event p) in
    let xs = c.args.outputs.now in
    let i = c.loop-output.output-index in
    let x = c.output-item.result in
    let o = c.args.name.now in
    let same : bytes_eq o (string_bytes x.name) ≡ true = ap (bytes_eq o) (sym c.as_str.ensures.value) ∙ sym c.eq.ensures ∙ c.if-eq.true in
    let here = targets_here xs i x o (rest_of xs i x c.loop-output-test.true c.output-item.is) same c.loop-output.invariant.0 in
    subst (λ ps. OnOk c.add_targets.result (c.add_targets.new.terms.items ≡ c.args.terms.now.items ++ map f ps)) (ap (map target_place) c.as_slice.ensures.value ∙ here)
    (subst (λ ts. OnOk c.add_targets.result (c.add_targets.new.terms.items ≡ ts ++ map f (map target_place c.as_slice.result.now))) c.loop-output.invariant.1 c.add_targets.ensures)

pub returns : goal.returns
returns c =
    let f : Place → ℕ = λ p. numbers_of c.args.numbering.now (event p) in
    let none : [] ≡ targets_of c.args.outputs.now c.args.name.now = nothing_left c.args.outputs.now c.loop-output.output-index c.args.name.now c.loop-output-test.false c.loop-output.invariant.0 in
    c.loop-output.invariant.1 ∙ sym (append-nil c.args.terms.now.items) ∙ ap (λ ps. c.args.terms.now.items ++ map f ps) none
