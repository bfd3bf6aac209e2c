use Rattle.std.proofs.Common.{◌≡◌, ℕ, Some, sym, subst}
use Rattle.std.specs.List.{AllByRecursion}
use Rattle.fb_sched.specs.declared.reaction.Reaction.{Reaction}
use Rattle.fb_sched.specs.Agenda.{Agenda, slot_at}
use Rattle.fb_device_state.specs.Numbers.{IsKnown}
use Rattle.fb_device.specs.Openings.{IsOpeningIn}
use Rattle.fb_device.proofs.Opened.{all_openings, opening_so}
use Rattle.fb_device.proofs.device.Device.opening.Goals as goal

pub opening-requires : goal.opening-requires
opening-requires c =
    subst (λ xs. AllByRecursion (λ (a : Agenda). (slot : ℕ) (r : Reaction) → slot_at a.slots slot ≡ Some r → IsKnown xs r.opening) c.deref-2.result.now) (sym c.deref.ensures.value)
    (subst (AllByRecursion (λ (a : Agenda). (slot : ℕ) (r : Reaction) → slot_at a.slots slot ≡ Some r → IsKnown c.self.inside.program.tables.blocks.items r.opening)) (sym c.deref-2.ensures.value)
    (all_openings c.self.inside.program c.self.inside.running c.self.invariant))

pub returns : goal.returns
returns c =
    rw (← c.self.view_is) (opening_so c.self.inside.program c.self.inside.running c.self.invariant c.args.cause c.opening.result
    (subst (λ xs. IsOpeningIn xs c.self.inside.running.queues.items c.args.cause c.opening.result) c.deref.ensures.value
    (subst (λ qs. IsOpeningIn c.deref.result.now qs c.args.cause c.opening.result) c.deref-2.ensures.value c.opening.ensures)))
