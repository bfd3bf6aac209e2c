use Rattle.std.proofs.Common.{◌≡◌, ◌++◌, ◌∷◌, [], ◌+◌, cond, take, Some, None, string_bytes, sym, ap, ◌∙◌, arith}
use Rattle.std.proofs.lemmas.List.{take_all}
use Rattle.std.specs.Option.{option_or}
use Rattle.std.specs.Str.{bytes_eq}
use Rattle.fb_types.specs.Made.{tree_of}
use Rattle.fb_types.proofs.Tabled.{found, found_more, take_got}
use Rattle.fb_types.proofs.rings.copied.Goals as goal

pub loop-at-init : goal.loop-at-init
loop-at-init c = λ x. ap (λ l. found l x) c.new-copy.ensures.empty

pub loop-at-preserved : goal.loop-at-preserved
loop-at-preserved c = λ x.
    let es = c.args.types.now.entries in
    let i = c.loop-at.at in
    let k = c.in-Some.name.now in
    let b = c.in-Some.block.now in
    let step : take (i + 1) es ≡ take i es ++ (k, b) ∷ [] = take_got es i (k, b) (sym c.in-Some.ensures.entry) in
    c.in_ok-add_named.ensures x ∙ ap (λ o. option_or o (cond (bytes_eq x (string_bytes k)) (Some (tree_of b)) None)) (c.loop-at.invariant x) ∙ sym (found_more (take i es) k b x) ∙ ap (λ l. found l x) (sym step)

pub returns : goal.returns
returns c = λ x. c.loop-at.invariant x ∙ ap (λ l. found l x) (take_all c.loop-at.at c.args.types.now.entries (omega (arith, c.len-at-end.ensures, c.loop-at-test.false)))
