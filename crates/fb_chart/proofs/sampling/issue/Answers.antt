use Rattle.std.proofs.Common.{◌≡◌, ◌+◌, List, ◌∷◌, drop, string_bytes, sym, ap, subst, ◌∙◌}
use Rattle.std.specs.List.{AllByRecursion}
use Rattle.std.proofs.lemmas.List.{drop_all}
use Rattle.fb_model.specs.Store.{where_in}
use Rattle.fb_model.specs.Language.{setting}
use Rattle.st_exec.specs.Cells.{Form, values_of, forms_of}
use Rattle.fb_chart.specs.Views.{given_names}
use Rattle.fb_chart.specs.Sampling.{CanGive}
use Rattle.fb_lists.proofs.Lists.{stands_at, drop_at}
use Rattle.fb_chart.proofs.Moving.{where_next, give_room, give_enough, give_count}
use Rattle.fb_chart.proofs.sampling.issue.Goals as goal

pub copy-requires-clause-room : goal.copy-requires-clause-room
copy-requires-clause-room c =
    let i = c.loop-given.given-index in
    let gs = c.args.gives.now in
    let x = c.given-item.result in
    let own = forms_of c.args.own.now in
    let v = c.loop-given.invariant in
    let d = drop_at gs i x (stands_at gs i x x c.loop-given-test.true c.given-item.is) in
    let all : AllByRecursion (CanGive own (forms_of c.args.issued.now)) (x ∷ drop (i + 1) gs) = subst (AllByRecursion (CanGive own (forms_of c.args.issued.now))) d v.can in
    let can : CanGive own (forms_of c.loop-given.issued) x = subst (λ (fs : List Form). CanGive own fs x) (sym v.forms) all.0 in
    give_room own (forms_of c.loop-given.issued) x can

pub copy-requires-clause-enough : goal.copy-requires-clause-enough
copy-requires-clause-enough c =
    let i = c.loop-given.given-index in
    let gs = c.args.gives.now in
    let x = c.given-item.result in
    let own = forms_of c.args.own.now in
    let v = c.loop-given.invariant in
    let d = drop_at gs i x (stands_at gs i x x c.loop-given-test.true c.given-item.is) in
    let all : AllByRecursion (CanGive own (forms_of c.args.issued.now)) (x ∷ drop (i + 1) gs) = subst (AllByRecursion (CanGive own (forms_of c.args.issued.now))) d v.can in
    let can : CanGive own (forms_of c.loop-given.issued) x = subst (λ (fs : List Form). CanGive own fs x) (sym v.forms) all.0 in
    give_enough own (forms_of c.loop-given.issued) x can

pub loop-given-preserved : goal.loop-given-preserved
loop-given-preserved c =
    let i = c.loop-given.given-index in
    let gs = c.args.gives.now in
    let x = c.given-item.result in
    let own = forms_of c.args.own.now in
    let v = c.loop-given.invariant in
    let d = drop_at gs i x (stands_at gs i x x c.loop-given-test.true c.given-item.is) in
    let all : AllByRecursion (CanGive own (forms_of c.args.issued.now)) (x ∷ drop (i + 1) gs) = subst (AllByRecursion (CanGive own (forms_of c.args.issued.now))) d v.can in
    let can : CanGive own (forms_of c.loop-given.issued) x = subst (λ (fs : List Form). CanGive own fs x) (sym v.forms) all.0 in
    let n = string_bytes x.output in
    let from = values_of c.args.own.now in
    let before = values_of c.loop-given.issued in
    let ns = given_names (drop (i + 1) gs) in
    let e : values_of c.copy.new.self ≡ setting before n (from n) =
    c.copy.ensures.values n n (sym can.placed.issued_slot) (sym can.placed.own_slot) (give_count own (forms_of c.loop-given.issued) x can) (sym can.like.length) in
    record {
      values = ap (where_in ns from) e ∙ where_next n ns from before ∙ ap (λ l. where_in (given_names l) from before) (sym d) ∙ v.values;
      forms = c.copy.ensures.forms ∙ v.forms;
      can = all.1;
    }

pub returns-clause-values : goal.returns-clause-values
returns-clause-values c =
    let n = drop_all c.loop-given.given-index c.args.gives.now c.loop-given-test.false in
    ap (λ l. where_in (given_names l) (values_of c.args.own.now) (values_of c.loop-given.issued)) (sym n) ∙ c.loop-given.invariant.values
