use Rattle.std.proofs.Common.{◌≡◌, true, false, ◌++◌, [], map, sym, ap, subst, ◌∙◌, string_bytes}
use Rattle.fb_model.specs.BlockTyping.{symbol_of, names_in}
use Rattle.fb_model.specs.Typing.{AreNew}
use Rattle.st_types.specs.Views.{entries, symbol_of as seen_as}
use Rattle.fb_types_blocks.specs.Views.{declared_in}
use Rattle.fb_types_blocks.proofs.Lists.{new_split}
use Rattle.fb_types_blocks.proofs.Scopes.{scope_names, entry_names, two_names}
use Rattle.fb_types_blocks.proofs.scope.scope.Goals as goal

pub enlarge-requires : goal.enlarge-requires
enlarge-requires c =
    let ins = names_in (declared_in c.args.inputs.now) in
    let outs = names_in (declared_in c.args.outputs.now) in
    let inner = names_in (declared_in c.args.internals.now) in
    subst (λ ns. AreNew ns ins) (sym (ap (map (λ p. string_bytes p.0)) c.new-scope.ensures.empty)) (new_split [] ins outs (new_split [] (ins ++ outs) inner c.requires).0).0

pub enlarge-requires-2 : goal.enlarge-requires-2
enlarge-requires-2 c =
    let ds = declared_in c.args.inputs.now in
    let ins = names_in ds in
    let outs = names_in (declared_in c.args.outputs.now) in
    let inner = names_in (declared_in c.args.internals.now) in
    let none : entries c.new-scope.result ≡ [] = ap (map (λ p. seen_as (string_bytes p.0) p.1)) c.new-scope.ensures.empty in
    let first : entries c.enlarge.new.scope ≡ map (symbol_of false) ds = c.in_ok-enlarge.ensures ∙ ap (λ es. es ++ map (symbol_of false) ds) none in
    subst (λ ns. AreNew ns outs) (sym (scope_names c.enlarge.new.scope (map (symbol_of false) ds) first ∙ entry_names false ds)) (new_split [] ins outs (new_split [] (ins ++ outs) inner c.requires).0).1

pub enlarge-requires-3 : goal.enlarge-requires-3
enlarge-requires-3 c =
    let ds = declared_in c.args.inputs.now in
    let es = declared_in c.args.outputs.now in
    let inner = names_in (declared_in c.args.internals.now) in
    let none : entries c.new-scope.result ≡ [] = ap (map (λ p. seen_as (string_bytes p.0) p.1)) c.new-scope.ensures.empty in
    let first : entries c.enlarge.new.scope ≡ map (symbol_of false) ds = c.in_ok-enlarge.ensures ∙ ap (λ xs. xs ++ map (symbol_of false) ds) none in
    let both : entries c.enlarge-2.new.scope ≡ map (symbol_of false) ds ++ map (symbol_of true) es = c.in_ok-enlarge-2.ensures ∙ ap (λ xs. xs ++ map (symbol_of true) es) first in
    subst (λ ns. AreNew ns inner) (sym (scope_names c.enlarge-2.new.scope (map (symbol_of false) ds ++ map (symbol_of true) es) both ∙ two_names false true ds es)) (new_split [] (names_in ds ++ names_in es) inner c.requires).1
