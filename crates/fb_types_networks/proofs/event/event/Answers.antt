use Rattle.std.proofs.Common.{sym, ◌∙◌, refl}
use Rattle.std.proofs.lemmas.Result.{err_from_is_err_and}
use Rattle.fb_tree.specs.Files as trees_of
use Rattle.fb_types_blocks.specs.Views.{face_of}
use Rattle.fb_types_networks.specs.Views.{end_of}
use Rattle.fb_types_networks.specs.Ends.{inner_of}
use Rattle.fb_model.specs.NetworkFaults.{faulty_source, faulty_target, passing}
use Rattle.fb_types_networks.proofs.Connections.{event_source, event_target}
use Rattle.fb_types_networks.proofs.event.event.Goals as goal

pub returns-in_err-source-clause-refused : goal.returns-in_err-source-clause-refused
returns-in_err-source-clause-refused c =
    let p = err_from_is_err_and c.from_residual.result c.from_residual.ensures.1 in
    λ t. rw (p.1, p.2) (faulty_source (c.in_err-source.ensures.refused t))

pub returns-in_err-target-clause-refused : goal.returns-in_err-target-clause-refused
returns-in_err-target-clause-refused c =
    let p = err_from_is_err_and c.from_residual-in_err-target.result c.from_residual-in_err-target.ensures.1 in
    λ t. rw (p.1, p.2) (faulty_target (c.in_err-target.ensures.refused t))

pub returns-then-passes-clause-refused : goal.returns-then-passes-clause-refused
returns-then-passes-clause-refused c =
    λ t. passing (c.in_ok-source.ensures.end t) (c.in_ok-target.ensures.end t) (sym c.passes.ensures ∙ c.if-passes.true) refl

pub returns-clause-typed : goal.returns-clause-typed
returns-clause-typed c =
    let f = face_of c.args.site.now.face.now in
    let inner = inner_of c.args.site.now.instances.now in
    let x = trees_of.connection_of c.args.tree.now in
    λ t. record {
      source = event_source f inner x.source (end_of c.in_ok-source.source) c.in_ok-source.field-0-1 (c.in_ok-source.ensures.end t);
      target = event_target f inner x.target (end_of c.in_ok-target.target) c.in_ok-target.field-0-1 (c.in_ok-target.ensures.end t);
      stays = sym c.passes.ensures ∙ c.if-passes.false;
    }
