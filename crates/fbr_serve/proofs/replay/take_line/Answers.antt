use Rattle.std.proofs.Common.{◌≡◌, ◌∙◌, true, false, Some, ap, refl, sym, option_map}
use Rattle.std.specs.Str.{is_utf8}
use Rattle.std.proofs.lemmas.Bool.{false_from_ne_true}
use Rattle.std.proofs.lemmas.Str.{IsUtf8-from_is_utf8, is_utf8-from_IsUtf8}
use Rattle.fb_model.specs.CertificateText.{words}
use Rattle.fb_record.specs.Records.{entry_in}
use Rattle.fb_record.specs.Views.{entry_of}
use Rattle.fb_record.proofs.Limits.{playable}
use Rattle.fbr_serve.proofs.Taking.{said, unsaid}
use Rattle.fbr_serve.proofs.replay.take_line.Goals as goal

pub returns-in_default-clause-taken : goal.returns-in_default-clause-taken
returns-in_default-clause-taken g c =
    let bad : is_utf8 c.args.line.now ≡ false = false_from_ne_true (is_utf8 c.args.line.now) (λ e. c.in_default.ensures.cases.0 (IsUtf8-from_is_utf8 c.args.line.now e)) in
    (unsaid c.args.line.now bad, refl)

pub take_entry-requires : goal.take_entry-requires
take_entry-requires g c = playable (words c.in-Ok.text.now) (entry_of c.in-Some.entry) (sym c.in_ok-entry.ensures ∙ ap (option_map entry_of) c.in-Some.is)

pub returns-in_ok-take_entry-in-Some-clause-taken :
    goal.returns-in_ok-take_entry-in-Some-clause-taken
returns-in_ok-take_entry-in-Some-clause-taken g c =
    let good : is_utf8 c.args.line.now ≡ true = is_utf8-from_IsUtf8 c.args.line.now c.in-Ok.ensures.cases.1 in
    let same : c.in-Ok.text.now ≡ c.args.line.now = c.in-Ok.ensures.cases.0 in
    let is : entry_in (words c.in-Ok.text.now) ≡ Some (entry_of c.in-Some.entry) = sym c.in_ok-entry.ensures ∙ ap (option_map entry_of) c.in-Some.is in
    let taken = c.in_ok-take_entry-in-Some.ensures.taken in (
      entry_of c.in-Some.entry,
      taken.0,
      said c.args.line.now c.in-Ok.text.now (entry_of c.in-Some.entry) good same is,
      taken.1,
      taken.2,
    )
