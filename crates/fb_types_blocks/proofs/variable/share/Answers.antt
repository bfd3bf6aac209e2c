use Rattle.std.proofs.Common.{◌≡◌, ◌∷◌, ◌++◌, [], map, drop, ◌+◌, string_bytes, sym, ap, subst, ◌∙◌, append_assoc, false}
use Rattle.std.proofs.lemmas.List.{map_push}
use Rattle.fb_tree.specs.Words.{word_of}
use Rattle.fb_model.specs.Names.{is_in}
use Rattle.fb_model.specs.BlockTyping.{declared, names_in}
use Rattle.fb_model.specs.Typing.{AreNew, texts}
use Rattle.fb_types_blocks.specs.Views.{declared_in, declared_of}
use Rattle.fb_types_blocks.proofs.Lists.{map_map, new_step}
use Rattle.fb_types_blocks.proofs.Tables.{seen}
use Rattle.fb_types_blocks.proofs.Refused.{drop_step}
use Rattle.fb_types_blocks.proofs.variable.share.Goals as goal

pub add-requires : goal.add-requires
add-requires c =
    let x = c.name-item.result in
    let m = c.loop-name.variables in
    let step = drop_step c.args.names.now c.loop-name.name-index x c.loop-name-test.true c.name-item.is in
    let new = subst (λ ns. AreNew (names_in (declared_in m)) (texts (map word_of ns))) step c.loop-name.invariant.new in
    subst (λ ns. is_in (string_bytes x.text) ns ≡ false) (map_map (λ d. d.name) (λ p. declared_of (string_bytes p.0) p.1) m.entries) new.0

pub loop-name-preserved : goal.loop-name-preserved
loop-name-preserved c =
    let x = c.name-item.result in
    let m = c.loop-name.variables in
    let i = c.loop-name.name-index in
    let of = declared c.args.variable.of_type c.args.variable.bounds c.args.variable.start in
    let rest = map word_of (drop (i + 1) c.args.names.now) in
    let step = drop_step c.args.names.now i x c.loop-name-test.true c.name-item.is in
    let added : declared_in c.add.new.entries ≡ declared_in m ++ of (word_of x) ∷ [] = seen declared_of m.entries c.add.new.entries.entries (string_bytes x.text) c.args.variable c.in_ok-add.ensures in
    record {
      new = new_step (names_in (declared_in m)) (names_in (declared_in c.add.new.entries)) (string_bytes x.text) (texts rest) (subst (λ ns. AreNew (names_in (declared_in m)) (texts (map word_of ns))) step c.loop-name.invariant.new) (ap names_in added ∙ map_push (λ d. d.name) (declared_in m) (of (word_of x)));
      value = ap (λ ds. ds ++ map of rest) added ∙ append_assoc (declared_in m) (of (word_of x) ∷ []) (map of rest) ∙ sym (ap (λ ns. declared_in m ++ map of (map word_of ns)) step) ∙ c.loop-name.invariant.value;
    }
