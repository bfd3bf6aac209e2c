use Rattle.std.proofs.Common.{◌≡◌, ◌∷◌, ◌++◌, [], Err, map, drop, ◌+◌, string_bytes, refl, subst, inr, arith}
use Rattle.std.proofs.lemmas.Result.{err_from_is_err_and}
use Rattle.fb_model.specs.System as book
use Rattle.fb_model.specs.BlockTyping.{algorithm_texts}
use Rattle.fb_model.specs.Typing.{AreNew}
use Rattle.fb_model.specs.TextFaults.{SomeMisdone}
use Rattle.fb_tree.specs.Algorithms.{body_of}
use Rattle.fb_tree.specs.Files as tree
use Rattle.st_types.specs.declared.whole.Algo.{Algo}
use Rattle.st_types.specs.Views.{entries}
use Rattle.st_types.specs.CommandViews.{commands_of}
use Rattle.fb_faults.specs.Typings.{fault_of}
use Rattle.fb_types_blocks.specs.Answers.{names_in_map}
use Rattle.fb_model.specs.BlockFaults.{IsTextFault, IsAlgorithmFault}
use Rattle.fb_types_blocks.specs.Views.{procedures_of}
use Rattle.fb_types_blocks.proofs.Lists.{new_step}
use Rattle.fb_types_blocks.proofs.Tables.{seen}
use Rattle.fb_types_blocks.proofs.Charts.{ProceduresLeft, procedures_step, procedures_none, text_fault}
use Rattle.fb_types_blocks.proofs.Refused.{drop_step, drop_all, any_at}
use Rattle.fb_types_blocks.proofs.chart.procedures.Goals as goal

pub returns-in_err-algorithm-clause-refused : goal.returns-in_err-algorithm-clause-refused
returns-in_err-algorithm-clause-refused c =
    let w = c.in_err-algorithm.field-0.0 in
    let x = c.source-item.result in
    let env = entries c.args.scope.now in
    let p = err_from_is_err_and c.from_residual.result c.from_residual.ensures.1 in
    let fault : IsAlgorithmFault env (tree.algorithm_of x) (fault_of w) = subst (λ xs. IsTextFault (SomeMisdone env [] (body_of xs)) (fault_of w)) c.deref.ensures.value (text_fault {X = Algo} (SomeMisdone env [] (body_of c.deref.result.now)) (Err w) w refl c.in_err-algorithm.ensures.refused) in
    rw (p.1, p.2) (inr (any_at (λ a. IsAlgorithmFault env a (fault_of w)) tree.algorithm_of c.args.sources.now c.loop-source.source-index x c.loop-source-test.true c.source-item.is fault))

pub add-requires : goal.add-requires
add-requires c =
    let step = drop_step c.args.sources.now c.loop-source.source-index c.source-item.result c.loop-source-test.true c.source-item.is in
    (subst (λ es. AreNew (names_in_map c.loop-source.procedures) (algorithm_texts (map tree.algorithm_of es))) step c.loop-source.invariant.new).0

pub loop-source-preserved : goal.loop-source-preserved
loop-source-preserved c =
    let x = c.source-item.result in
    let n = string_bytes x.name.text in
    let l = c.loop-source in
    let m = l.procedures in
    let v = c.in_ok-algorithm.algorithm in
    let env = entries c.args.scope.now in
    let rest = map tree.algorithm_of (drop (l.source-index + 1) c.args.sources.now) in
    let all = map tree.algorithm_of c.args.sources.now in
    let step = drop_step c.args.sources.now l.source-index x c.loop-source-test.true c.source-item.is in
    let made : book.Procedure = record { name = n; algorithm = commands_of v.statements.items } in
    let names : names_in_map c.add.new.entries ≡ names_in_map m ++ n ∷ [] = seen (λ n w. n) m.entries c.add.new.entries.entries n v c.in_ok-add.ensures in
    let added : procedures_of c.add.new.entries ≡ procedures_of m ++ made ∷ [] = seen (λ n w. record { name = n; algorithm = commands_of w.statements.items }) m.entries c.add.new.entries.entries n v c.in_ok-add.ensures in
    record {
      new = new_step (names_in_map m) (names_in_map c.add.new.entries) n (algorithm_texts rest) (subst (λ es. AreNew (names_in_map m) (algorithm_texts (map tree.algorithm_of es))) step l.invariant.new) names;
      found = procedures_step env all rest (procedures_of m) (procedures_of c.add.new.entries) (tree.algorithm_of x) made (subst (λ es. ProceduresLeft env all (procedures_of m) (map tree.algorithm_of es)) step l.invariant.found) refl (rw c.deref.ensures.value at c.in_ok-algorithm.ensures.found) added;
    }

pub returns-clause-found : goal.returns-clause-found
returns-clause-found c =
    let env = entries c.args.scope.now in
    let all = map tree.algorithm_of c.args.sources.now in
    let m = c.loop-source.procedures in
    procedures_none env all (procedures_of m) (subst (λ es. ProceduresLeft env all (procedures_of m) (map tree.algorithm_of es)) (drop_all c.args.sources.now c.loop-source.source-index (omega arith)) c.loop-source.invariant.found)
