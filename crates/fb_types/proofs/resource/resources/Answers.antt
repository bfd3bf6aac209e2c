use Rattle.std.proofs.Common.{◌≡◌, ◌++◌, ◌∷◌, [], map, take, refl, sym, ap, subst, ◌∙◌}
use Rattle.std.proofs.lemmas.Result.{err_from_is_err_and}
use Rattle.std.proofs.lemmas.List.{take_all, map_push}
use Rattle.fb_model.specs.NetworkTyping.{AreResources, no_resource}
use Rattle.fb_tree.specs.Files as trees_of
use Rattle.fb_types_blocks.proofs.Lists.{mapped_more}
use Rattle.fb_types.specs.Views.{resource_of, resource_offsets, offsets_in, resource_uses, device_uses}
use Rattle.fb_model.specs.Nesting.{ResourcesProvide, by_no_resource}
use Rattle.fb_model.specs.SourceFaults.{no_memory_for_resource}
use Rattle.fb_types.proofs.Nested.{among_at}
use Rattle.fb_types.proofs.Systems.{offsets_more, resources_more, resources_provide_more, device_uses_more}
use Rattle.fb_types.proofs.resource.resources.Goals as goal

pub loop-source-init : goal.loop-source-init
loop-source-init c = record { offsets = rw c.new-resources.ensures.items refl; kept = λ bs table memo. memo; typed = λ bs table memo. rw c.new-resources.ensures.items no_resource; uses = λ bs table memo. rw c.new-resources.ensures.items by_no_resource }

pub returns-in_err-resource-clause-refused : goal.returns-in_err-resource-clause-refused
returns-in_err-resource-clause-refused c = λ bs table memo.
    let p = err_from_is_err_and c.from_residual.result c.from_residual.ensures.1 in
    let x = c.source-item.result in
    let among = among_at trees_of.resource_of c.args.sources.now c.loop-source.source-index x c.loop-source-test.true c.source-item.is in
    rw (p.1, p.2) (trees_of.resource_of x, among, c.in_err-resource.ensures.refused bs table (c.loop-source.invariant.kept bs table memo))

pub returns-in_err-push-clause-refused : goal.returns-in_err-push-clause-refused
returns-in_err-push-clause-refused c = λ bs table memo.
    let p = err_from_is_err_and c.from_residual-in_err-push.result c.from_residual-in_err-push.ensures.1 in
    let x = c.source-item.result in
    let among = among_at trees_of.resource_of c.args.sources.now c.loop-source.source-index x c.loop-source-test.true c.source-item.is in
    rw (p.1, p.2) (trees_of.resource_of x, among, no_memory_for_resource refl)

pub loop-source-preserved : goal.loop-source-preserved
loop-source-preserved c =
    let xs = c.args.sources.now in
    let i = c.loop-source.source-index in
    let x = c.source-item.result in
    let made = c.loop-source.resources.items in
    let q = c.in_ok-resource.field-0 in
    let next = sym (mapped_more trees_of.resource_of xs i x c.loop-source-test.true c.source-item.is) in
    record {
      offsets = offsets_more made xs i x c.push.new.self.items q c.loop-source-test.true c.source-item.is c.in_ok-push.ensures.items c.loop-source.invariant.offsets c.in_ok-resource.ensures.offset;
      kept = λ bs table memo. c.in_ok-resource.ensures.kept bs table (c.loop-source.invariant.kept bs table memo);
      typed = λ bs table memo.
          let one = c.in_ok-resource.ensures.typed bs table (c.loop-source.invariant.kept bs table memo) in
          let more = resources_more bs (map trees_of.resource_of (take i xs)) (map resource_of made) (trees_of.resource_of x) (resource_of q) (c.loop-source.invariant.typed bs table memo) one in
          subst (λ l. AreResources bs l (map resource_of c.push.new.self.items)) next (subst (λ l. AreResources bs (map trees_of.resource_of (take i xs) ++ trees_of.resource_of x ∷ []) l) (sym (ap (map resource_of) c.in_ok-push.ensures.items ∙ map_push resource_of made q)) more);
      uses = λ bs table memo.
          let one = c.in_ok-resource.ensures.uses bs table (c.loop-source.invariant.kept bs table memo) in
          let more = resources_provide_more bs (map trees_of.resource_of (take i xs)) (device_uses made) (trees_of.resource_of x) (resource_uses q) (c.loop-source.invariant.uses bs table memo) one in
          subst (λ l. ResourcesProvide bs l (device_uses c.push.new.self.items)) next (subst (λ l. ResourcesProvide bs (map trees_of.resource_of (take i xs) ++ trees_of.resource_of x ∷ []) l) (sym (ap device_uses c.in_ok-push.ensures.items ∙ device_uses_more made q)) more);
    }

pub returns-clause-offsets : goal.returns-clause-offsets
returns-clause-offsets c =
    subst (λ l. resource_offsets c.loop-source.resources.items ≡ offsets_in (map trees_of.resource_of l)) (take_all c.loop-source.source-index c.args.sources.now c.loop-source-test.false) c.loop-source.invariant.offsets

pub returns-clause-typed : goal.returns-clause-typed
returns-clause-typed c = λ bs table memo.
    subst (λ l. AreResources bs (map trees_of.resource_of l) (map resource_of c.loop-source.resources.items)) (take_all c.loop-source.source-index c.args.sources.now c.loop-source-test.false) (c.loop-source.invariant.typed bs table memo)

pub returns-clause-uses : goal.returns-clause-uses
returns-clause-uses c = λ bs table memo.
    subst (λ l. ResourcesProvide bs (map trees_of.resource_of l) (device_uses c.loop-source.resources.items)) (take_all c.loop-source.source-index c.args.sources.now c.loop-source-test.false) (c.loop-source.invariant.uses bs table memo)
