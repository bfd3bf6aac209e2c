use Rattle.std.proofs.Common.{◌≡◌, ◌+◌, ◌-◌, ◌<◌, length, drop, subst, sym, ap, ◌∙◌, arith, true, rules, w64, to_z, of_z}
use Rattle.std.proofs.lemmas.Int.{to_z-of_z}
use Rattle.fb_model.specs.Names.{Name, is_in}
use Rattle.fb_model.specs.Language.{setting}
use Rattle.st_exec.specs.Cells.{forms_of, names_in, values_of, shape_of, filled}
use Rattle.fb_device_values.specs.Drafts.{IsSetFrom, IsLaidOut, forms_in}
use Rattle.fb_device_values.proofs.Drafting.{draft_declared, set_next, drafts_held}
use Rattle.fb_device_values.proofs.making.set_numbers.Goals as goal

pub set_all-requires : goal.set_all-requires
set_all-requires c =
    let d = c.index-drafts-index.result in
    let i = c.loop-index.index - 1 in
    let l : i < length c.args.drafts.now = omega (arith, c.loop-index-test.true, c.loop-index.auto.index) in
    subst (λ (x : Name). is_in x (names_in (forms_of c.loop-index.store)) ≡ true) (sym c.as_str.ensures.value)
    (draft_declared c.args.drafts.now i d (forms_of c.loop-index.store) l c.index-drafts-index.is c.loop-index.invariant.laid)

pub loop-index-preserved : goal.loop-index-preserved
loop-index-preserved c =
    let ds = c.args.drafts.now in
    let d = c.index-drafts-index.result in
    let i = c.loop-index.index - 1 in
    let l : i < length ds = omega (arith, c.loop-index-test.true, c.loop-index.auto.index) in
    let next : c.loop-index.index ≡ i + 1 = omega (arith, c.loop-index-test.true) in
    let q : to_z w64 (of_z w64 d.number) ≡ d.number = to_z-of_z w64 d.number (search rules) in
    let set_is : values_of c.set_all.new.self ≡ setting (values_of c.loop-index.store) c.as_str.result.now (filled (shape_of c.loop-index.store c.as_str.result.now) d.number) =
    c.set_all.ensures.values ∙ ap (λ v. setting (values_of c.loop-index.store) c.as_str.result.now (filled (shape_of c.loop-index.store c.as_str.result.now) v)) q in
    let values = subst (λ (x : Name). values_of c.set_all.new.self ≡ setting (values_of c.loop-index.store) x (filled (shape_of c.loop-index.store x) d.number)) c.as_str.ensures.value set_is in
    record {
      laid = subst (λ fs. IsLaidOut fs (forms_in ds)) (sym c.set_all.ensures.forms) c.loop-index.invariant.laid;
      set = set_next ds i d c.loop-index.store c.set_all.new.self l c.index-drafts-index.is c.set_all.ensures.forms values (subst (λ n. IsSetFrom c.loop-index.store (drop n ds)) next c.loop-index.invariant.set);
    }

pub returns : goal.returns
returns c =
    let none : c.loop-index.index ≡ 0 = omega (arith, c.loop-index-test.false) in
    drafts_held c.args.drafts.now c.loop-index.store c.loop-index.invariant.laid (subst (λ n. IsSetFrom c.loop-index.store (drop n c.args.drafts.now)) none c.loop-index.invariant.set)
