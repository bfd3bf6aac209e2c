use Rattle.std.proofs.Common.{◌≡◌, ◌∷◌, ◌++◌, [], map, drop, ◌+◌, string_bytes, sym, ap, subst, ◌∙◌, append_assoc}
use Rattle.fb_model.specs.BlockTyping.{symbol_of, names_in}
use Rattle.fb_model.specs.Typing.{AreNew}
use Rattle.st_types.specs.declared.scope.Variable.{Variable}
use Rattle.st_types.specs.Views.{entries, symbol_of as seen_as}
use Rattle.fb_types_blocks.specs.Answers.{names_in_map}
use Rattle.fb_types_blocks.specs.Views.{declared_of}
use Rattle.fb_types_blocks.proofs.Lists.{new_step}
use Rattle.fb_types_blocks.proofs.Tables.{seen}
use Rattle.fb_types_blocks.proofs.Refused.{drop_got}
use Rattle.fb_types_blocks.proofs.scope.enlarge.Goals as goal

pub add-requires : goal.add-requires
add-requires c =
    let es = c.args.variables.now.entries in
    let step = drop_got es c.loop-index.index (c.in-Some.name.now, c.in-Some.variable.now) (sym c.in-Some.ensures.entry) in
    (subst (λ ps. AreNew (names_in_map c.loop-index.scope) (names_in (map (λ p. declared_of (string_bytes p.0) p.1) ps))) step c.loop-index.invariant.new).0

pub loop-index-preserved : goal.loop-index-preserved
loop-index-preserved c =
    let es = c.args.variables.now.entries in
    let n = string_bytes c.in-Some.name.now in
    let v = c.in-Some.variable.now in
    let w = c.args.writable in
    let l = c.loop-index in
    let m = l.scope in
    let rest = map (λ p. declared_of (string_bytes p.0) p.1) (drop (l.index + 1) es) in
    let x : Variable = record { of_type = v.of_type; bounds = v.bounds; writable = w; number = c.len-number.result } in
    let step = drop_got es l.index (c.in-Some.name.now, v) (sym c.in-Some.ensures.entry) in
    let names : names_in_map c.add.new.entries ≡ names_in_map m ++ n ∷ [] = seen (λ n w. n) m.entries c.add.new.entries.entries n x c.in_ok-add.ensures in
    let added : entries c.add.new.entries ≡ entries m ++ symbol_of w (declared_of n v) ∷ [] = seen seen_as m.entries c.add.new.entries.entries n x c.in_ok-add.ensures in
    record {
      new = new_step (names_in_map m) (names_in_map c.add.new.entries) n (names_in rest) (subst (λ ps. AreNew (names_in_map m) (names_in (map (λ p. declared_of (string_bytes p.0) p.1) ps))) step l.invariant.new) names;
      value = ap (λ xs. xs ++ map (symbol_of w) rest) added ∙ append_assoc (entries m) (symbol_of w (declared_of n v) ∷ []) (map (symbol_of w) rest) ∙ sym (ap (λ ps. entries m ++ map (symbol_of w) (map (λ p. declared_of (string_bytes p.0) p.1) ps)) step) ∙ l.invariant.value;
    }
