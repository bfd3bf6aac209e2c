use Rattle.std.proofs.Common.{rules, ◌≡◌, ◌+◌, ◌<◌, get_or, length, to_z, of_z, w64, refl, sym, ap, ◌∙◌, arith}
use Rattle.std.proofs.lemmas.List.{length-map}
use Rattle.std.proofs.lemmas.Int.{to_z-of_z}
use Rattle.fb_words.specs.declared.elem_type.ElemType.TheVariants.{Bool}
use Rattle.fb_model.specs.Services.{sent, numbered}
use Rattle.fb_model.specs.Serving.{stamped}
use Rattle.st_exec.specs.Forms.{plain_slot}
use Rattle.st_exec.specs.Cells.{values_of, forms_of}
use Rattle.fb_lists.proofs.Lists.{stands_at}
use Rattle.fb_chart.specs.Responses.{stamps_in}
use Rattle.fb_chart.proofs.Replies.{numbered_length}
use Rattle.fb_chart.proofs.Sending.{none_filled, all_filled, sent_slot, next_fits, next_filled}
use Rattle.fb_chart.proofs.quality.message.Goals as goal

pub loop-at-init : goal.loop-at-init
loop-at-init c = none_filled c.args.channel (stamped (stamps_in c.args.stamps)) c.args.types.now (values_of c.args.own.now) c.blank-message.result c.blank-message.ensures

pub bounds-slots-at : goal.bounds-slots-at
bounds-slots-at c =
    let types = c.args.types.now in
    omega (arith, c.loop-at-test.true, ap length c.requires.slots, length-map (numbered sent 1 types) (plain_slot (forms_of c.args.own.now)), numbered_length sent 1 types)

pub loop-at-preserved : goal.loop-at-preserved
loop-at-preserved c =
    let i = c.loop-at.at in
    let types = c.args.types.now in
    let own = values_of c.args.own.now in
    let stamp = stamped (stamps_in c.args.stamps) in
    let l : i < length types = c.loop-at-test.true in
    let few : i < 16 = omega (arith, l, c.requires.few) in
    let elem = get_or types i Bool in
    let at = stands_at types i elem Bool l refl in
    let slot : plain_slot (forms_of c.args.own.now) (sent (1 + i)) ≡ get_or c.args.slots.now i 0 = sent_slot (forms_of c.args.own.now) types 1 i 0 l ∙ ap (λ ss. get_or ss i 0) (sym c.requires.slots) in
    let v = to_z w64 (of_z w64 c.number-value.result) in
    let value = to_z-of_z w64 c.number-value.result (search rules) ∙ c.number-value.ensures (sent (1 + i)) slot in
    let fits = next_fits c.args.channel stamp types own c.requires.fit c.loop-at.message i c.loop-at.invariant elem at v value few in
    next_filled c.args.channel stamp types own c.requires.fit c.loop-at.message i c.loop-at.invariant elem at v value c.add.result c.add.new.self (c.add.ensures.added ∙ fits) c.add.ensures.is

pub returns : goal.returns
returns c = all_filled c.args.channel (stamped (stamps_in c.args.stamps)) c.args.types.now (values_of c.args.own.now) c.loop-at.message c.loop-at.at c.loop-at.invariant c.loop-at-test.false
