use Rattle.std.proofs.Common.{◌≡◌, is_some, true, false, ◌++◌, ◌∷◌, [], string_bytes, sym, subst, ◌∙◌}
use Rattle.std.specs.Map.{lookup}
use Rattle.std.specs.Str.{bytes_eq}
use Rattle.fb_model.specs.NetworkTyping.{type_named}
use Rattle.fb_tree.specs.Files as trees_of
use Rattle.fb_types.proofs.Tabled.{found, table_more, table_same, new_last}
use Rattle.fb_types.proofs.table.add.Goals as goal

pub returns-in_ok-insert : goal.returns-in_ok-insert
returns-in_ok-insert c = λ bs so x.
    let es = c.args.types.now.entries in
    let k = c.in_ok-clone.field-0 in
    let none : is_some (lookup (λ j. bytes_eq (string_bytes c.args.block.now.name.text) (string_bytes j)) es) ≡ false
    = subst (λ n. is_some (lookup (λ j. bytes_eq n (string_bytes j)) es) ≡ false) c.as_str.ensures.value (sym c.contains_key.ensures ∙ c.if-not-contains_key.true) in
    subst (λ l. found l x ≡ type_named (bs ++ trees_of.block_of c.args.block.now ∷ []) x) (sym (c.in_ok-insert.ensures.entries ∙ new_last es k c.args.block (string_bytes c.args.block.now.name.text) c.in_ok-clone.ensures.cases none))
    (table_more bs es k c.args.block c.in_ok-clone.ensures.cases so x)

pub returns-else-not-contains_key : goal.returns-else-not-contains_key
returns-else-not-contains_key c = λ bs so x.
    let es = c.args.types.now.entries in
    table_same bs es (trees_of.block_of c.args.block.now) (subst (λ n. is_some (lookup (λ j. bytes_eq n (string_bytes j)) es) ≡ true) c.as_str.ensures.value (sym c.contains_key.ensures ∙ c.if-not-contains_key.false)) so x
