use Rattle.std.proofs.Common.{map, take, sym, subst}
use Rattle.std.specs.List.{AllByRecursion}
use Rattle.std.proofs.lemmas.Result.{err_from_is_err_and}
use Rattle.std.proofs.lemmas.List.{take_all}
use Rattle.fb_model.specs.NetworkTyping.{IsProper}
use Rattle.fb_tree.specs.Files as trees_of
use Rattle.fb_types_blocks.proofs.Lists.{mapped_more}
use Rattle.fb_types.specs.Made.{IsNamed}
use Rattle.fb_types.proofs.Nested.{among_at}
use Rattle.fb_types.proofs.Making.{all_member, all_later}
use Rattle.fb_types.proofs.Systems.{first_fault}
use Rattle.fb_types.proofs.source.all_declared.Goals as goal

pub loop-source-init : goal.loop-source-init
loop-source-init c = record { kept = λ bs table memo named. memo; proper = λ bs table memo named. tt }

pub returns-in_err-declared-clause-refused : goal.returns-in_err-declared-clause-refused
returns-in_err-declared-clause-refused c = λ bs table memo named.
    let p = err_from_is_err_and c.from_residual.result c.from_residual.ensures.1 in
    let xs = c.args.sources.now in
    let x = trees_of.block_of c.source-item.result in
    let among = among_at trees_of.block_of xs c.loop-source.source-index c.source-item.result c.loop-source-test.true c.source-item.is in
    let f = c.in_err-declared.field-0.0 in
    let here = c.in_err-declared.ensures.refused bs table (c.loop-source.invariant.kept bs table memo named) (all_member (IsNamed bs) (map trees_of.block_of xs) x named among) in
    rw (p.1, p.2) (first_fault bs xs c.loop-source.source-index c.source-item.result f c.loop-source-test.true c.source-item.is (c.loop-source.invariant.proper bs table memo named) here)

pub loop-source-preserved : goal.loop-source-preserved
loop-source-preserved c =
    let xs = c.args.sources.now in
    let i = c.loop-source.source-index in
    let x = trees_of.block_of c.source-item.result in
    let among = among_at trees_of.block_of xs i c.source-item.result c.loop-source-test.true c.source-item.is in
    record {
      kept = λ bs table memo named. c.in_ok-declared.ensures.kept bs table (c.loop-source.invariant.kept bs table memo named) (all_member (IsNamed bs) (map trees_of.block_of xs) x named among);
      proper = λ bs table memo named.
          let one = c.in_ok-declared.ensures.proper bs table (c.loop-source.invariant.kept bs table memo named) (all_member (IsNamed bs) (map trees_of.block_of xs) x named among) in
          subst (λ l. AllByRecursion (IsProper bs) l) (sym (mapped_more trees_of.block_of xs i c.source-item.result c.loop-source-test.true c.source-item.is))
          (all_later {P = IsProper bs} {Q = IsProper bs} (map trees_of.block_of (take i xs)) x (λ b h. h) (c.loop-source.invariant.proper bs table memo named) one);
    }

pub returns-clause-proper : goal.returns-clause-proper
returns-clause-proper c = λ bs table memo named.
    subst (λ l. AllByRecursion (IsProper bs) (map trees_of.block_of l)) (take_all c.loop-source.source-index c.args.sources.now c.loop-source-test.false) (c.loop-source.invariant.proper bs table memo named)
