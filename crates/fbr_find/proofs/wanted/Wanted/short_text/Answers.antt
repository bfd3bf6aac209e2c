use Rattle.std.proofs.Common.{◌≤◌, ◌<◌, length, rules, string_bytes}
use Rattle.fb_model.specs.CertificateText.{most_characters}
use Rattle.fbr_find.proofs.Texts.{too_long}
use Rattle.fbr_find.proofs.wanted.Wanted.short_text.Goals as goal

pub returns-then-len-gt-LONGEST : goal.returns-then-len-gt-LONGEST
returns-then-len-gt-LONGEST c = λ q files read.
    let long : most_characters < length (string_bytes c.in-Ok.text) = search rules in
    too_long q files c.args.app.now (string_bytes c.in-Ok.text) (c.in-Ok.ensures q files read).0 long

pub returns-in-Ok : goal.returns-in-Ok
returns-in-Ok c = λ q files read.
    let h = c.in-Ok.ensures q files read in
    let short : length (string_bytes c.in-Ok.text) ≤ most_characters = search rules in
    (h.0, record { fitting = h.1; short = short })
