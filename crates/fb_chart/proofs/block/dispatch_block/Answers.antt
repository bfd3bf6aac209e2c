use Rattle.std.proofs.Common.{◌≡◌, ℕ, List, get_or, set, refl, ◌∙◌, ap, subst, arith}
use Rattle.st_exec.specs.Cells.{Cell, forms_of}
use Rattle.fb_chart.specs.declared.table.Event.{Event}
use Rattle.fb_chart.specs.declared.table.Block.{Block}
use Rattle.fb_chart.specs.Views.{kind_of}
use Rattle.fb_chart.specs.declared.memory.Condition.{Condition}
use Rattle.fb_chart.specs.Conditions.{IsConditionOf, leaf_state}
use Rattle.fb_chart.specs.Dispatching.{HasRun}
use Rattle.fb_lists.proofs.Lists.{within_got}
use Rattle.fb_chart.proofs.Sampled.{sampled_same, sampled_can}
use Rattle.fb_chart.proofs.Stood.{read, set_stands, set_twice}
use Rattle.fb_chart.proofs.block.dispatch_block.Goals as goal

pub run-condition-requires : goal.run-condition-requires
run-condition-requires g c =
    let s = c.requires.can.at in
    let i : ℕ = c.args.occurrence.now.point.block in
    let m = c.args.memory.now in
    let eb : c.index-blocks-at.result ≡ s.block = read c.args.blocks.now i s.block c.index-blocks-at.result s.block_is c.index-blocks-at.is in
    let ee : c.index-event.result.now ≡ s.event = read s.block.events.items c.args.occurrence.now.point.event s.event c.index-event.result.now s.event_is (c.index-event.ensures ∙ ap (λ (b : Block). get_or b.events.items c.args.occurrence.now.point.event c.index-event.result.now) eb) in
    let eo : c.index_mut.result.now ≡ s.own = read m.own.items i s.own c.index_mut.result.now s.own_is c.index_mut.ensures.value in
    let eo2 : c.index_mut-2.result.now ≡ c.sample.new.own = read (set m.own.items i c.sample.new.own) i c.sample.new.own c.index_mut-2.result.now (set_stands m.own.items i s.own c.sample.new.own s.own_is) c.index_mut-2.ensures.value in
    let ei : c.index_mut-3.result.now ≡ s.issued = read m.issued.items i s.issued c.index_mut-3.result.now s.issued_is c.index_mut-3.ensures.value in
    let ep : c.index-ports-at.result ≡ s.slots = read c.args.ports.now i s.slots c.index-ports-at.result s.slots_is c.index-ports-at.is in
    let ed : c.index.result.now ≡ s.condition = read m.conditions.items i s.condition c.index.result.now s.condition_is c.index.ensures in
    let tk : c.deref.result.now ≡ s.event.takes.items = c.deref.ensures.value ∙ ap (λ (e : Event). e.takes.items) ee in
    record {
      can = sampled_can c.args.blocks.now c.args.ports.now m c.args.occurrence.now.point c.args.occurrence.now.values.now (g.E.Emit.room c.args.emit.now) c.requires.can c.sample.new.own
          c.index-blocks-at.result c.index-ports-at.result c.index_mut-2.result.now c.index_mut-3.result.now c.index.result.now c.index-event.result.now.steps
          eb ep eo2 ei ed (ap (λ (e : Event). e.steps) ee) (c.sample.ensures.forms ∙ ap forms_of eo)
          (c.sample.ensures.values ∙ sampled_same c.deref-2.result.now m.issued.items c.index_mut.result.now s.own c.deref.result.now s.event.takes.items c.deref-2.ensures.value eo tk);
      effect = c.requires.effect;
    }

pub index_mut-requires-4 : goal.index_mut-requires-4
index_mut-requires-4 g c =
    let s = c.requires.can.at in
    let m = c.args.memory.now in
    omega (arith, within_got m.conditions.items c.args.occurrence.now.point.block s.condition s.condition_is, m.conditions.ok)

pub returns-clause-dispatched : goal.returns-clause-dispatched
returns-clause-dispatched g c =
    let s = c.requires.can.at in
    let i : ℕ = c.args.occurrence.now.point.block in
    let m = c.args.memory.now in
    let ran = c.run-condition in
    let eb : c.index-blocks-at.result ≡ s.block = read c.args.blocks.now i s.block c.index-blocks-at.result s.block_is c.index-blocks-at.is in
    let ee : c.index-event.result.now ≡ s.event = read s.block.events.items c.args.occurrence.now.point.event s.event c.index-event.result.now s.event_is (c.index-event.ensures ∙ ap (λ (b : Block). get_or b.events.items c.args.occurrence.now.point.event c.index-event.result.now) eb) in
    let eo : c.index_mut.result.now ≡ s.own = read m.own.items i s.own c.index_mut.result.now s.own_is c.index_mut.ensures.value in
    let eo2 : c.index_mut-2.result.now ≡ c.sample.new.own = read (set m.own.items i c.sample.new.own) i c.sample.new.own c.index_mut-2.result.now (set_stands m.own.items i s.own c.sample.new.own s.own_is) c.index_mut-2.ensures.value in
    let ei : c.index_mut-3.result.now ≡ s.issued = read m.issued.items i s.issued c.index_mut-3.result.now s.issued_is c.index_mut-3.ensures.value in
    let es : c.index.result.now ≡ s.condition = read m.conditions.items i s.condition c.index.result.now s.condition_is c.index.ensures in
    let tk : c.deref.result.now ≡ s.event.takes.items = c.deref.ensures.value ∙ ap (λ (e : Event). e.takes.items) ee in
    let Ran : Block → List Cell → List Cell → Condition → Type 0 = λ b own issued condition.
    HasRun b c.args.occurrence.now.point.event c.args.occurrence.now.values.now c.args.occurrence.now.clock (leaf_state (kind_of b) own issued condition) (leaf_state (kind_of b) ran.new.own ran.new.issued ran.result.0) ran.result.1 ran.new.effect (g.E.Emit.sent c.args.emit.now) (g.E.Emit.sent ran.new.emit) in
    record {
      at = s;
      sampled = c.sample.new.own;
      own = ran.new.own;
      issued = ran.new.issued;
      condition = ran.result.0;
      values_are = c.sample.ensures.values ∙ sampled_same c.deref-2.result.now m.issued.items c.index_mut.result.now s.own c.deref.result.now s.event.takes.items c.deref-2.ensures.value eo tk;
      has_run = subst (λ (b : Block). Ran b c.sample.new.own s.issued s.condition) eb
          (subst (λ (d : Condition). Ran c.index-blocks-at.result c.sample.new.own s.issued d) es
          (subst (λ (x : List Cell). Ran c.index-blocks-at.result c.sample.new.own x c.index.result.now) ei
          (subst (λ (o : List Cell). Ran c.index-blocks-at.result o c.index_mut-3.result.now c.index.result.now) eo2 ran.ensures.ran)));
      condition_fits = subst (λ (b : Block). IsConditionOf (kind_of b) ran.result.0) eb ran.ensures.condition;
      own_forms = ran.ensures.own ∙ ap forms_of eo2 ∙ c.sample.ensures.forms ∙ ap forms_of eo;
      issued_forms = ran.ensures.issued ∙ ap forms_of ei;
      own_set = set_twice m.own.items i c.sample.new.own ran.new.own;
      issued_set = refl {A = List (List Cell)};
      conditions_set = refl {A = List Condition};
    }
