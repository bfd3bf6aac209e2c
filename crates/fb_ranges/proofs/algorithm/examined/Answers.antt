use Rattle.std.proofs.Common.{◌≡◌, List, refl, ap, ap₂, ◌∙◌}
use Rattle.fb_model.specs.Names.{Name}
use Rattle.fb_model.specs.Spans.{joined}
use Rattle.fb_model.specs.Clear.{Spans, assigned, reset}
use Rattle.fb_model.specs.Asking.{asking_all, ask, grown, point}
use Rattle.st_types.specs.declared.command.TypedStmt.{TypedStmt}
use Rattle.st_types.specs.CommandViews.{commands_of}
use Rattle.fb_ranges.specs.Settling.{held}
use Rattle.fb_ranges.specs.Views.{names_of, spans_of}
use Rattle.fb_ranges.proofs.Asking.{grown_held}
use Rattle.fb_ranges.proofs.Blocks.{on_ok}
use Rattle.fb_ranges.proofs.Joins.{taken_back}
use Rattle.fb_ranges.proofs.algorithm.examined.Goals as goal

pub returns-clause-asks : goal.returns-clause-asks
returns-clause-asks c =
    let rows = spans_of c.args.rows.now in
    let a = commands_of c.args.algo.now.statements.items in
    let list = c.deref-3.result.now in
    let work = spans_of c.args.work.now in
    let old = spans_of c.args.asked.now in
    let new = spans_of c.examine_keeping.new.asked in
    let asks = λ (xs : List Name) (l : List TypedStmt) (s : Spans). let end = ask rows (commands_of l) (point s (held rows old)) in asking_all xs end.spans end.rows in
    let names = ap names_of c.deref-2.ensures.value ∙ c.in_ok-names.ensures ∙ ap (λ (l : List TypedStmt). assigned (commands_of l)) c.deref.ensures.value in
    let is = ap (λ (xs : List Name). asks xs list work) names ∙ ap₂ (asks (assigned a)) c.deref-3.ensures.value c.requires in
    on_ok c.examine_keeping.result (held rows new ≡ asks (names_of c.deref-2.result.now) list work) ((x : Name) → joined (new x) (rows x) ≡ joined (old x) (grown rows a x))
    (λ h. λ x. grown_held rows old new a x (h ∙ is))
    c.examine_keeping.ensures.asks

pub returns-clause-rest : goal.returns-clause-rest
returns-clause-rest c =
    let rows = spans_of c.args.rows.now in
    let a = commands_of c.args.algo.now.statements.items in
    let work = spans_of c.args.work.now in
    let new = spans_of c.examine_keeping.new.ranges in
    let names = ap names_of c.deref-2.ensures.value ∙ c.in_ok-names.ensures ∙ ap (λ (l : List TypedStmt). assigned (commands_of l)) c.deref.ensures.value in
    on_ok c.examine_keeping.result (new ≡ reset (names_of c.deref-2.result.now) rows work) (new ≡ rows)
    (λ h. h ∙ ap₂ (λ (xs : List Name) (s : Spans). reset xs rows s) names c.requires ∙ taken_back (assigned a) rows rows (λ x out. refl))
    c.examine_keeping.ensures.rest

pub examine_keeping-requires-clause-have : goal.examine_keeping-requires-clause-have
examine_keeping-requires-clause-have c = λ e x i. ap (λ (s : Spans). s x) c.requires
