use Rattle.std.proofs.Common.{◌≡◌, ℤ, List, true, length, refl, sym, ◌∙◌, ap, subst, arith}
use Rattle.fb_model.specs.Wires.{leaves}
use Rattle.fb_model.specs.Values.{all_in}
use Rattle.fb_model.specs.Ranges.{types_of}
use Rattle.fb_model.specs.Devices.{arriving, is_input_numbered}
use Rattle.fb_lists.proofs.Lists.{stands_at}
use Rattle.fb_device_state.specs.declared.admission.Shortage.TheVariants.{Places, Numbers}
use Rattle.fb_device_state.specs.Sessions.{session_of}
use Rattle.fb_device_state.specs.Machines.{device_in, cert_in, machine_of}
use Rattle.fb_device_state.specs.Arrivals.{Admits}
use Rattle.fb_device_arrivals.specs.Offering.{IsOutside}
use Rattle.fb_device_arrivals.proofs.SameKinds.{none_at, same_kinds}
use Rattle.fb_device_arrivals.proofs.Inputs as inputs
use Rattle.fb_device_arrivals.proofs.input.offer.Goals as goal

pub returns-in_default-clause-step : goal.returns-in_default-clause-step
returns-in_default-clause-step c = (
  none_at (is_input_numbered c.args.number) c.args.program.now.tables.blocks.items (leaves (device_in (session_of c.args.program.now c.args.running.now))) (same_kinds c.args.program.now c.args.running.now c.requires)
      (sym (c.requires.program.tables.inputs c.args.number) ∙ sym c.input.ensures ∙ c.in_default.is),
  refl,
)

pub index-requires : goal.index-requires
index-requires c =
    let found = sym (c.requires.program.tables.inputs c.args.number) ∙ sym c.input.ensures ∙ c.in-Some.is in
    omega (arith, inputs.inside c.args.program.now c.args.running.now c.requires c.args.number c.in-Some.block found, c.args.program.now.tables.blocks.ok)

pub taken-requires : goal.taken-requires
taken-requires c =
    let found = sym (c.requires.program.tables.inputs c.args.number) ∙ sym c.input.ensures ∙ c.in-Some.is in
    let stands = stands_at c.args.program.now.tables.blocks.items c.in-Some.block c.index.result.now c.index.result.now (inputs.inside c.args.program.now c.args.running.now c.requires c.args.number c.in-Some.block found) c.index.ensures in
    omega (arith, ap length c.arriving.ensures, inputs.types_few c.args.program.now c.args.running.now c.requires c.args.number c.in-Some.block found c.index.result.now stands)

pub returns-in-Err-clause-step : goal.returns-in-Err-clause-step
returns-in-Err-clause-step c =
    let found = sym (c.requires.program.tables.inputs c.args.number) ∙ sym c.input.ensures ∙ c.in-Some.is in
    let stands = stands_at c.args.program.now.tables.blocks.items c.in-Some.block c.index.result.now c.index.result.now (inputs.inside c.args.program.now c.args.running.now c.requires c.args.number c.in-Some.block found) c.index.ensures in
    let types = c.arriving.ensures ∙ inputs.types_are c.args.program.now c.args.running.now c.requires c.args.number c.in-Some.block found c.index.result.now stands in
    (inputs.outside c.args.program.now c.args.running.now c.requires c.args.number c.in-Some.block found c.args.values.now c.in-Err.denied (subst (λ ts. IsOutside ts c.args.values.now c.in-Err.denied) types c.in-Err.ensures.refused), refl)

pub admit-requires-clause-arrival : goal.admit-requires-clause-arrival
admit-requires-clause-arrival c =
    let found = sym (c.requires.program.tables.inputs c.args.number) ∙ sym c.input.ensures ∙ c.in-Some.is in
    let stands = stands_at c.args.program.now.tables.blocks.items c.in-Some.block c.index.result.now c.index.result.now (inputs.inside c.args.program.now c.args.running.now c.requires c.args.number c.in-Some.block found) c.index.ensures in
    let types = c.arriving.ensures ∙ inputs.types_are c.args.program.now c.args.running.now c.requires c.args.number c.in-Some.block found c.index.result.now stands in
    let fit : all_in (types_of (inputs.at c.args.program.now c.args.running.now c.requires c.args.number c.in-Some.block found).leaf.kind) c.in-Ok.values.items ≡ true = ap (λ ts. all_in ts c.in-Ok.values.items) (sym types) ∙ ap (all_in c.arriving.result.now) c.in-Ok.ensures.fit.0 ∙ c.in-Ok.ensures.fit.1 in
    (arriving (inputs.at c.args.program.now c.args.running.now c.requires c.args.number c.in-Some.block found).leaf c.in-Ok.values.items, inputs.arrival c.args.program.now c.args.running.now c.requires c.args.number c.in-Some.block found c.in-Ok.values.items fit)

pub returns-in-Ok-admit-clause-step : goal.returns-in-Ok-admit-clause-step
returns-in-Ok-admit-clause-step c =
    let found = sym (c.requires.program.tables.inputs c.args.number) ∙ sym c.input.ensures ∙ c.in-Some.is in
    let stands = stands_at c.args.program.now.tables.blocks.items c.in-Some.block c.index.result.now c.index.result.now (inputs.inside c.args.program.now c.args.running.now c.requires c.args.number c.in-Some.block found) c.index.ensures in
    let types = c.arriving.ensures ∙ inputs.types_are c.args.program.now c.args.running.now c.requires c.args.number c.in-Some.block found c.index.result.now stands in
    let fit : all_in (types_of (inputs.at c.args.program.now c.args.running.now c.requires c.args.number c.in-Some.block found).leaf.kind) c.in-Ok.values.items ≡ true = ap (λ ts. all_in ts c.in-Ok.values.items) (sym types) ∙ ap (all_in c.arriving.result.now) c.in-Ok.ensures.fit.0 ∙ c.in-Ok.ensures.fit.1 in
    let fit_given : all_in (types_of (inputs.at c.args.program.now c.args.running.now c.requires c.args.number c.in-Some.block found).leaf.kind) c.args.values.now ≡ true = ap (λ ts. all_in ts c.args.values.now) (sym types) ∙ c.in-Ok.ensures.fit.1 in
    let arr = inputs.arrival c.args.program.now c.args.running.now c.requires c.args.number c.in-Some.block found c.in-Ok.values.items fit in
    inputs.offered c.args.program.now c.args.running.now c.requires c.args.number c.in-Some.block found c.args.values.now c.in-Ok-admit.cause (machine_of (session_of c.args.program.now c.admit.new.running)) fit_given
    (subst (λ (vs : List ℤ). Admits (cert_in (session_of c.args.program.now c.args.running.now)) (device_in (session_of c.args.program.now c.args.running.now)) (machine_of (session_of c.args.program.now c.args.running.now)) (arriving (inputs.at c.args.program.now c.args.running.now c.requires c.args.number c.in-Some.block found).leaf vs) c.in-Ok-admit.cause (machine_of (session_of c.args.program.now c.admit.new.running))) c.in-Ok.ensures.fit.0
    (c.in-Ok-admit.ensures.admits (arriving (inputs.at c.args.program.now c.args.running.now c.requires c.args.number c.in-Some.block found).leaf c.in-Ok.values.items) arr))

pub returns-in-Err-Places-clause-step : goal.returns-in-Err-Places-clause-step
returns-in-Err-Places-clause-step c =
    let found = sym (c.requires.program.tables.inputs c.args.number) ∙ sym c.input.ensures ∙ c.in-Some.is in
    let stands = stands_at c.args.program.now.tables.blocks.items c.in-Some.block c.index.result.now c.index.result.now (inputs.inside c.args.program.now c.args.running.now c.requires c.args.number c.in-Some.block found) c.index.ensures in
    let types = c.arriving.ensures ∙ inputs.types_are c.args.program.now c.args.running.now c.requires c.args.number c.in-Some.block found c.index.result.now stands in
    let fit : all_in (types_of (inputs.at c.args.program.now c.args.running.now c.requires c.args.number c.in-Some.block found).leaf.kind) c.in-Ok.values.items ≡ true = ap (λ ts. all_in ts c.in-Ok.values.items) (sym types) ∙ ap (all_in c.arriving.result.now) c.in-Ok.ensures.fit.0 ∙ c.in-Ok.ensures.fit.1 in
    let arr = inputs.arrival c.args.program.now c.args.running.now c.requires c.args.number c.in-Some.block found c.in-Ok.values.items fit in
    let s = (rw c.in-Err-Places.field-0-is at c.in-Err-Places.ensures.short) (arriving (inputs.at c.args.program.now c.args.running.now c.requires c.args.number c.in-Some.block found).leaf c.in-Ok.values.items) arr in
    (inputs.short c.args.program.now c.args.running.now c.requires c.args.number c.in-Some.block found c.in-Ok.values.items (Places c.in-Err-Places.needs c.in-Err-Places.free) s.0, s.1)

pub returns-in-Err-Numbers-clause-step : goal.returns-in-Err-Numbers-clause-step
returns-in-Err-Numbers-clause-step c =
    let found = sym (c.requires.program.tables.inputs c.args.number) ∙ sym c.input.ensures ∙ c.in-Some.is in
    let stands = stands_at c.args.program.now.tables.blocks.items c.in-Some.block c.index.result.now c.index.result.now (inputs.inside c.args.program.now c.args.running.now c.requires c.args.number c.in-Some.block found) c.index.ensures in
    let types = c.arriving.ensures ∙ inputs.types_are c.args.program.now c.args.running.now c.requires c.args.number c.in-Some.block found c.index.result.now stands in
    let fit : all_in (types_of (inputs.at c.args.program.now c.args.running.now c.requires c.args.number c.in-Some.block found).leaf.kind) c.in-Ok.values.items ≡ true = ap (λ ts. all_in ts c.in-Ok.values.items) (sym types) ∙ ap (all_in c.arriving.result.now) c.in-Ok.ensures.fit.0 ∙ c.in-Ok.ensures.fit.1 in
    let arr = inputs.arrival c.args.program.now c.args.running.now c.requires c.args.number c.in-Some.block found c.in-Ok.values.items fit in
    let s = (rw c.in-Err-Numbers.field-0-is at c.in-Err-Numbers.ensures.short) (arriving (inputs.at c.args.program.now c.args.running.now c.requires c.args.number c.in-Some.block found).leaf c.in-Ok.values.items) arr in
    (inputs.short c.args.program.now c.args.running.now c.requires c.args.number c.in-Some.block found c.in-Ok.values.items Numbers s.0, s.1)
