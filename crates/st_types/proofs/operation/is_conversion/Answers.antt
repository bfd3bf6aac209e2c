use Rattle.std.proofs.Common.{◌≡◌, ◌≢◌, ℕ, List, ◌++◌, sym, ap, subst, ◌∙◌}
use Rattle.std.specs.Prelude.{codes}
use Rattle.std.specs.Str.{bytes_eq}
use Rattle.std.specs.Option.{MatchOption}
use Rattle.std.proofs.lemmas.Slice.Eq.{strip_prefix_is}
use Rattle.std.proofs.lemmas.Bool.Decides.{Decides-eqb}
use Rattle.fb_words.specs.Writing.{type_name}
use Rattle.st_types.proofs.Conversions.{grouped_left, no_front, tails_tell}
use Rattle.st_types.proofs.operation.is_conversion.Goals as goal

pub returns-in_default-strip_prefix : goal.returns-in_default-strip_prefix
returns-in_default-strip_prefix c =
    let s = c.as_bytes.result.now in
    let p = c.as_bytes-2.result.now in
    let r = c.in-Some.rest.now in
    let one = strip_prefix_is Decides-eqb s p c.strip_prefix.result c.strip_prefix.ensures.cases in
    let first : s ≡ p ++ r = subst (λ o. MatchOption o ((rest : List ℕ) → s ≢ p ++ rest) (λ x. s ≡ p ++ x.now)) c.in-Some.is one in
    let two = strip_prefix_is Decides-eqb r (codes "_TO_") c.strip_prefix-2.result c.strip_prefix-2.ensures.cases in
    let none : (rest : List ℕ) → r ≢ codes "_TO_" ++ rest = subst (λ o. MatchOption o ((rest : List ℕ) → r ≢ codes "_TO_" ++ rest) (λ x. r ≡ codes "_TO_" ++ x.now)) c.in_default-strip_prefix.is two in
    let name_is : c.args.name.now ≡ type_name c.args.from ++ r = sym c.as_bytes.ensures.value ∙ first ∙ ap (λ l. l ++ r) (c.as_bytes-2.ensures.value ∙ c.name.ensures) in
    no_front r (codes "_TO_") (type_name c.args.to) none ∙ tails_tell c.args.name.now (type_name c.args.from) r (codes "_TO_" ++ type_name c.args.to) name_is
    ∙ ap (bytes_eq c.args.name.now) (grouped_left (type_name c.args.from) (codes "_TO_") (type_name c.args.to))
