use Rattle.std.proofs.Common.{map, drop, ◌+◌, sym, subst, ◌∙◌}
use Rattle.fb_model.specs.Typing.{AreNew}
use Rattle.fb_tree.specs.Files as trees_of
use Rattle.fb_tree.specs.Words.{word_of}
use Rattle.fb_types_blocks.specs.Views.{face_of}
use Rattle.fb_types_blocks.proofs.Lists.{map_map}
use Rattle.fb_types_networks.specs.Views.{names_of}
use Rattle.fb_model.specs.NetworkFaults.{own_names}
use Rattle.fb_types_networks.proofs.Loops.{next_left, none_left}
use Rattle.fb_types_networks.proofs.Taken.{taken_already, newly}
use Rattle.fb_types_networks.proofs.Naming.{NamesSo, names_more, own_again, name_again, names_done}
use Rattle.fb_types_networks.proofs.wiring.instance_table.Goals as goal

pub returns-then-has_name-clause-refused : goal.returns-then-has_name-clause-refused
returns-then-has_name-clause-refused c =
    let own = own_names (face_of c.args.face.now) in
    let all = map (λ i. i.name) (map trees_of.instance_of c.args.sources.now) in
    let i = c.loop-source.source-index in
    let x = c.source-item.result in
    let made = names_of c.loop-source.names in
    let so = subst (λ l. NamesSo own all made (map (λ i. i.name) l)) (next_left trees_of.instance_of c.args.sources.now i x c.loop-source-test.true c.source-item.is) c.loop-source.invariant in
    own_again own all made (word_of x.name) (map (λ i. i.name) (map trees_of.instance_of (drop (i + 1) c.args.sources.now))) so (rw c.as_str.ensures.value at (sym c.has_name.ensures ∙ c.if-has_name.true))

pub returns-then-not-branch-clause-refused : goal.returns-then-not-branch-clause-refused
returns-then-not-branch-clause-refused c =
    let own = own_names (face_of c.args.face.now) in
    let all = map (λ i. i.name) (map trees_of.instance_of c.args.sources.now) in
    let i = c.loop-source.source-index in
    let x = c.source-item.result in
    let made = names_of c.loop-source.names in
    let so = subst (λ l. NamesSo own all made (map (λ i. i.name) l)) (next_left trees_of.instance_of c.args.sources.now i x c.loop-source-test.true c.source-item.is) c.loop-source.invariant in
    name_again own all made (word_of x.name) (map (λ i. i.name) (map trees_of.instance_of (drop (i + 1) c.args.sources.now))) so (taken_already _ c.in_ok-insert.field-0 c.in_ok-insert.ensures.0 c.if-not-branch.true)

pub loop-source-preserved : goal.loop-source-preserved
loop-source-preserved c =
    let own = own_names (face_of c.args.face.now) in
    let all = map (λ i. i.name) (map trees_of.instance_of c.args.sources.now) in
    let i = c.loop-source.source-index in
    let x = c.source-item.result in
    let made = names_of c.loop-source.names in
    let so = subst (λ l. NamesSo own all made (map (λ i. i.name) l)) (next_left trees_of.instance_of c.args.sources.now i x c.loop-source-test.true c.source-item.is) c.loop-source.invariant in
    let new = newly _ c.in_ok-insert.field-0 c.in_ok-insert.ensures.0 c.if-not-branch.false in
    rw (rw c.if-not-branch.false at c.in_ok-insert.ensures.1)
    (names_more own all made (word_of x.name) (map (λ i. i.name) (map trees_of.instance_of (drop (i + 1) c.args.sources.now))) so (rw c.as_str.ensures.value at (sym c.has_name.ensures ∙ c.if-has_name.false)) new)

pub returns-clause-new : goal.returns-clause-new
returns-clause-new c =
    let own = own_names (face_of c.args.face.now) in
    let trees = map trees_of.instance_of c.args.sources.now in
    let all = map (λ i. i.name) trees in
    let made = names_of c.loop-source.names in
    let so = subst (λ l. NamesSo own all made (map (λ i. i.name) l)) (none_left trees_of.instance_of c.args.sources.now c.loop-source.source-index c.loop-source-test.false) c.loop-source.invariant in
    subst (AreNew own) (map_map (λ w. w.text) (λ i. i.name) trees) (names_done own all made so).0

pub returns-clause-names : goal.returns-clause-names
returns-clause-names c =
    let own = own_names (face_of c.args.face.now) in
    let trees = map trees_of.instance_of c.args.sources.now in
    let all = map (λ i. i.name) trees in
    let made = names_of c.loop-source.names in
    let so = subst (λ l. NamesSo own all made (map (λ i. i.name) l)) (none_left trees_of.instance_of c.args.sources.now c.loop-source.source-index c.loop-source-test.false) c.loop-source.invariant in
    (names_done own all made so).1 ∙ map_map (λ w. w.text) (λ i. i.name) trees
