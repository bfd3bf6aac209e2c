use Rattle.std.proofs.Common.{rules, ◌≡◌, ◌+◌, ◌<◌, ℕ, List, ◌∷◌, drop, get_or, length, pos, to_z, of_z, w64, refl, sym, ap, subst, ◌∙◌, arith}
use Rattle.std.proofs.lemmas.List.{drop_all}
use Rattle.std.proofs.lemmas.Int.{to_z-of_z}
use Rattle.fb_model.specs.Values.{One}
use Rattle.fb_model.specs.Language.{setting}
use Rattle.st_exec.specs.Forms.{plain_slot}
use Rattle.st_exec.specs.Cells.{values_of, forms_of}
use Rattle.fb_lists.proofs.Lists.{stands_at, drop_at}
use Rattle.fb_chart.specs.Ports.{received_in}
use Rattle.fb_chart.proofs.Slots.{Slotted, slotted, slot_is, received_done}
use Rattle.fb_chart.proofs.transfer.receive.Goals as goal

pub loop-at-preserved : goal.loop-at-preserved
loop-at-preserved c =
    let i = c.loop-at.at in
    let slots = c.args.slots.now in
    let forms = forms_of c.args.own.now in
    let before = values_of c.loop-at.own in
    let v = get_or c.args.values.now i (pos 0) in
    let vs = drop (i + 1) c.args.values.now in
    let e = drop_at c.args.values.now i v (stands_at c.args.values.now i v (pos 0) c.loop-at-test.true refl) in
    let q : to_z w64 (of_z w64 v) ≡ v = to_z-of_z w64 v (search rules) in
    let l : i < length slots = omega (arith, c.loop-at-test.true, c.requires.few) in
    record {
      values = λ names is.
          let at : Slotted forms names slots i = subst (λ ss. Slotted forms names ss i) (sym is) (slotted forms names i (subst (λ (ss : List ℕ). i < length ss) is l)) in
          let n = at.name in
          let d = drop_at names i n at.at in
          let ns = drop (i + 1) names in
          let slot = ap (λ fs. plain_slot fs n) c.loop-at.invariant.forms ∙ slot_is slots i (plain_slot forms n) 0 l at.slot in
          let s : values_of c.set_number.new.self ≡ setting before n (One v) = c.set_number.ensures.values n slot ∙ ap (λ z. setting before n (One z)) q in
          ap (received_in ns vs) s ∙ ap (λ ys. received_in (n ∷ ns) ys before) (sym e) ∙ ap (λ xs. received_in xs (drop i c.args.values.now) before) (sym d) ∙ c.loop-at.invariant.values names is;
      forms = c.set_number.ensures.forms ∙ c.loop-at.invariant.forms;
    }

pub returns-clause-values : goal.returns-clause-values
returns-clause-values c = λ names is.
    let n = drop_all c.loop-at.at c.args.values.now c.loop-at-test.false in
    let ns = drop c.loop-at.at names in
    sym (received_done ns (values_of c.loop-at.own)) ∙ ap (λ vs. received_in ns vs (values_of c.loop-at.own)) (sym n) ∙ c.loop-at.invariant.values names is
