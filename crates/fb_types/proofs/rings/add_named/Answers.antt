use Rattle.std.proofs.Common.{◌≡◌, is_some, true, false, cond, Some, None, string_bytes, sym, ap, subst, ◌∙◌}
use Rattle.std.specs.Option.{option_or}
use Rattle.std.specs.Map.{lookup}
use Rattle.std.specs.Str.{bytes_eq}
use Rattle.fb_types.specs.Made.{tree_of}
use Rattle.fb_types.proofs.Tabled.{found, found_more, found_same, new_last}
use Rattle.fb_types.proofs.rings.add_named.Goals as goal

pub returns-in_ok-insert : goal.returns-in_ok-insert
returns-in_ok-insert c = λ x.
    let es = c.args.types.now.entries in
    let k = c.in_ok-clone.field-0 in
    let n = string_bytes c.args.name.now in
    let b = tree_of c.args.block in
    let none : is_some (lookup (λ j. bytes_eq n (string_bytes j)) es) ≡ false
    = subst (λ n. is_some (lookup (λ j. bytes_eq n (string_bytes j)) es) ≡ false) c.as_str.ensures.value (sym c.contains_key.ensures ∙ c.if-not-contains_key.true) in
    ap (λ l. found l x) (c.in_ok-insert.ensures.entries ∙ new_last es k c.args.block n c.in_ok-clone.ensures.cases none)
    ∙ found_more es k c.args.block x ∙ ap (λ m. option_or (found es x) (cond (bytes_eq x m) (Some b) None)) c.in_ok-clone.ensures.cases

pub returns-else-not-contains_key : goal.returns-else-not-contains_key
returns-else-not-contains_key c = λ x.
    let es = c.args.types.now.entries in
    found_same es (string_bytes c.args.name.now) (tree_of c.args.block) (subst (λ n. is_some (lookup (λ j. bytes_eq n (string_bytes j)) es) ≡ true) c.as_str.ensures.value (sym c.contains_key.ensures ∙ c.if-not-contains_key.false)) x
