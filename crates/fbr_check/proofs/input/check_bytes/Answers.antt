use Rattle.std.proofs.Common.{◌≡◌, ◌≤◌, rules, subst, length, true}
use Rattle.std.specs.Str.{is_utf8}
use Rattle.fbr_check.specs.Halves.{divide}
use Rattle.fbr_check.specs.Verdicts.{IsVerdict}
use Rattle.fbr_check.proofs.Verdicts.{over_texts}
use Rattle.fbr_check.proofs.input.check_bytes.Goals as goal

pub returns-in-Ok-as_text : goal.returns-in-Ok-as_text
returns-in-Ok-as_text c =
    let bytes = c.args.bytes.now in
    let small : length bytes ≤ 33554432 = search rules in
    let app : c.in-Ok.app.now ≡ (divide true bytes).0 = search rules in
    let cert : c.in-Ok-as_text.cert.now ≡ (divide true bytes).1 = search rules in
    let app_text : is_utf8 (divide true bytes).0 ≡ true = search rules in
    let cert_text : is_utf8 (divide true bytes).1 ≡ true = search rules in
    over_texts bytes c.texts_outcome.result (small, (app_text, cert_text))
    (subst (λ a. IsVerdict a (divide true bytes).1 c.texts_outcome.result) app (subst (λ b. IsVerdict c.in-Ok.app.now b c.texts_outcome.result) cert c.texts_outcome.ensures))
