use Rattle.std.proofs.Common.{◌≡◌, true, false, sym, subst, ◌∙◌, refl}
use Rattle.fb_model.specs.Names.{is_in}
use Rattle.fb_types_blocks.specs.Answers.{names_in_map}
use Rattle.fb_types_blocks.proofs.Tables.{is_in_from_lookup}
use Rattle.fb_types_blocks.proofs.names.known.Goals as goal

pub returns-then-contains_key-clause-known : goal.returns-then-contains_key-clause-known
returns-then-contains_key-clause-known g c =
    subst (λ n. is_in n (names_in_map c.args.names.now) ≡ true) c.as_str.ensures.value (sym (is_in_from_lookup c.as_str.result.now c.args.names.now.entries) ∙ sym c.contains_key.ensures ∙ c.if-contains_key.true)

pub returns-else-contains_key-clause-refused : goal.returns-else-contains_key-clause-refused
returns-else-contains_key-clause-refused g c =
    (refl, subst (λ n. is_in n (names_in_map c.args.names.now) ≡ false) c.as_str.ensures.value (sym (is_in_from_lookup c.as_str.result.now c.args.names.now.entries) ∙ sym c.contains_key.ensures ∙ c.if-contains_key.false))
