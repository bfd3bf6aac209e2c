use Rattle.std.proofs.Common.{◌≡◌, ◌++◌, map, drop, ◌+◌, subst, arith}
use Rattle.fb_tree.specs.Words.{word_of}
use Rattle.fb_model.specs.BlockTyping.{declared, names_in, words_in}
use Rattle.fb_model.specs.Typing.{AreNew, texts}
use Rattle.fb_tree.specs.Files as tree
use Rattle.fb_types_blocks.specs.Views.{declared_in}
use Rattle.fb_types_blocks.proofs.Variables.{Left, words_left, left_step, left_none, first_new, others_new}
use Rattle.fb_types_blocks.proofs.Refused.{drop_step, drop_all}
use Rattle.fb_types_blocks.proofs.variable.variables.Goals as goal

pub share-requires : goal.share-requires
share-requires c =
    let x = c.source-item.result in
    let m = c.loop-source.variables in
    let i = c.loop-source.source-index in
    let rest = words_in (map tree.variable_of (drop (i + 1) c.args.sources.now)) in
    rw c.deref.ensures.value (first_new (names_in (declared_in m)) (map word_of x.names.items) rest (subst (λ ws. AreNew (names_in (declared_in m)) (texts ws)) (words_left c.args.sources.now i x c.loop-source-test.true c.source-item.is) c.loop-source.invariant.new))

pub loop-source-preserved : goal.loop-source-preserved
loop-source-preserved c =
    let x = c.source-item.result in
    let v = c.in_ok-variable.variable in
    let m = c.loop-source.variables in
    let i = c.loop-source.source-index in
    let rest = map tree.variable_of (drop (i + 1) c.args.sources.now) in
    let all = map tree.variable_of c.args.sources.now in
    let sum : declared_in c.share.new.variables ≡ declared_in m ++ map (declared v.of_type v.bounds v.start) (map word_of x.names.items) = rw c.deref.ensures.value at c.in_ok-share.ensures in
    record {
      new = others_new (declared_in m) (declared_in c.share.new.variables) v.of_type v.bounds v.start (map word_of x.names.items) (words_in rest) (subst (λ ws. AreNew (names_in (declared_in m)) (texts ws)) (words_left c.args.sources.now i x c.loop-source-test.true c.source-item.is) c.loop-source.invariant.new) sum;
      found = left_step all rest (declared_in m) (declared_in c.share.new.variables) (tree.variable_of x) v.of_type v.bounds v.start (subst (λ vs. Left all (declared_in m) (map tree.variable_of vs)) (drop_step c.args.sources.now i x c.loop-source-test.true c.source-item.is) c.loop-source.invariant.found) c.in_ok-variable.ensures.of_type c.in_ok-variable.ensures.bounds c.in_ok-variable.ensures.start sum;
    }

pub returns-clause-found : goal.returns-clause-found
returns-clause-found c =
    let m = c.loop-source.variables in
    let all = map tree.variable_of c.args.sources.now in
    left_none all (declared_in m) (subst (λ vs. Left all (declared_in m) (map tree.variable_of vs)) (drop_all c.args.sources.now c.loop-source.source-index (omega arith)) c.loop-source.invariant.found)
