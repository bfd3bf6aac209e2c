use Rattle.std.proofs.Common.{rules, ◌≡◌, ◌+◌, ◌<◌, ◌++◌, ℕ, List, [], ◌∷◌, drop, length, w64, sym, ap, subst, ◌∙◌}
use Rattle.std.proofs.lemmas.List.{append_assoc}
use Rattle.std.proofs.lemmas.Int.{to_z-of_z}
use Rattle.fb_model.specs.Values.{number_of}
use Rattle.st_exec.specs.Forms.{plain_slot}
use Rattle.st_exec.specs.Cells.{values_of, forms_of}
use Rattle.fb_lists.proofs.Lists.{drop_at}
use Rattle.fb_chart.specs.Ports.{numbers_at}
use Rattle.fb_chart.proofs.Slots.{Slotted, slotted, slot_is}
use Rattle.fb_chart.proofs.transfer.sent_values.Goals as goal

pub loop-slot-preserved : goal.loop-slot-preserved
loop-slot-preserved c =
    let i = c.loop-slot.slot-index in
    let slots = c.args.slots.now in
    let forms = forms_of c.args.own.now in
    let own = values_of c.args.own.now in
    let old = c.loop-slot.values.items in
    let l : i < length slots = c.loop-slot-test.true in
    record {
      told = λ names is.
          let at : Slotted forms names slots i = subst (λ ss. Slotted forms names ss i) (sym is) (slotted forms names i (subst (λ (ss : List ℕ). i < length ss) is l)) in
          let n = at.name in
          let d = drop_at names i n at.at in
          let ns = drop (i + 1) names in
          let s = c.number.ensures n (slot_is slots i (plain_slot forms n) 0 l at.slot) in
          let p : c.push.new.self.items ≡ old ++ number_of (own n) ∷ [] = c.push.ensures.items ∙ ap (λ z. old ++ z ∷ []) (to_z-of_z w64 c.number.result (search rules) ∙ s) in
          ap (λ vs. vs ++ numbers_at ns own) p ∙ append_assoc old (number_of (own n) ∷ []) (numbers_at ns own) ∙ ap (λ xs. old ++ numbers_at xs own) (sym d) ∙ c.loop-slot.invariant.told names is;
      len = search rules;
    }
