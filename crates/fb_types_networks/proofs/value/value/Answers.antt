use Rattle.std.proofs.Common.{◌≡◌, true, sym, ◌∙◌, refl}
use Rattle.std.proofs.lemmas.Result.{err_from_is_err_and}
use Rattle.fb_tree.specs.Files as trees_of
use Rattle.fb_types_blocks.specs.Views.{face_of}
use Rattle.fb_types_networks.specs.Views.{end_of, connection_of}
use Rattle.fb_types_networks.specs.Ends.{inner_of}
use Rattle.fb_model.specs.NetworkFaults.{faulty_origin, faulty_goal, passing_value, other_type, second_source}
use Rattle.fb_types_networks.proofs.Connections.{value_typed, unlike}
use Rattle.fb_types_networks.proofs.Taken.{taken_already, newly}
use Rattle.fb_types_networks.proofs.value.value.Goals as goal

pub returns-in_err-source-clause-refused : goal.returns-in_err-source-clause-refused
returns-in_err-source-clause-refused c =
    let p = err_from_is_err_and c.from_residual.result c.from_residual.ensures.1 in
    λ t. rw (p.1, p.2) (faulty_origin (c.in_err-source.ensures.refused t))

pub returns-in_err-target-clause-refused : goal.returns-in_err-target-clause-refused
returns-in_err-target-clause-refused c =
    let p = err_from_is_err_and c.from_residual-in_err-target.result c.from_residual-in_err-target.ensures.1 in
    λ t. rw (p.1, p.2) (faulty_goal (c.in_err-target.ensures.refused t))

pub returns-then-passes-clause-refused : goal.returns-then-passes-clause-refused
returns-then-passes-clause-refused c =
    λ t. passing_value (c.in_ok-source.ensures.end t) (c.in_ok-target.ensures.end t) (sym c.passes.ensures ∙ c.if-passes.true) refl

pub returns-then-not-fits-clause-refused : goal.returns-then-not-fits-clause-refused
returns-then-not-fits-clause-refused c =
    let f = face_of c.args.site.now.face.now in
    let inner = inner_of c.args.site.now.instances.now in
    let x = trees_of.connection_of c.args.tree.now in
    λ t.
    let u = unlike f inner x (end_of c.in_ok-source.source) (end_of c.in_ok-target.target) c.in_ok-source.given c.in_ok-target.wanted (c.in_ok-source.ensures.end t) (c.in_ok-target.ensures.end t) (sym c.fits.ensures ∙ c.if-not-fits.true) in
    other_type u.source u.target u.differs refl

pub returns-then-not-branch-clause-refused : goal.returns-then-not-branch-clause-refused
returns-then-not-branch-clause-refused c =
    λ t. second_source (c.in_ok-target.ensures.end t) (taken_already _ c.in_ok-take.field-0 c.in_ok-take.ensures.added c.if-not-branch.true) refl

pub returns-clause-typed : goal.returns-clause-typed
returns-clause-typed c =
    let f = face_of c.args.site.now.face.now in
    let inner = inner_of c.args.site.now.instances.now in
    let x = trees_of.connection_of c.args.tree.now in
    let d = connection_of record { source = c.in_ok-source.source; target = c.in_ok-target.target } in
    let new : c.in_ok-take.field-0 ≡ true = c.if-not-branch.false in
    λ t. (
      value_typed f inner x d c.in_ok-source.given c.in_ok-target.wanted (c.in_ok-source.ensures.end t) (c.in_ok-target.ensures.end t) (sym c.fits.ensures ∙ c.if-not-fits.false) (sym c.passes.ensures ∙ c.if-passes.false),
      newly _ c.in_ok-take.field-0 c.in_ok-take.ensures.added new,
      rw new at c.in_ok-take.ensures.ends,
    )
