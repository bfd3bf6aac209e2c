use Rattle.std.proofs.Common.{◌≡◌, true, false, List, [], ◌∷◌, Option, Some, None, refl, sym, ap, ◌∙◌, string_bytes}
use Rattle.fb_model.specs.Names.{is_in}
use Rattle.fb_cert.specs.Views.{rows_of}
use Rattle.fb_check_rows.specs.Members.{HasSame}
use Rattle.fb_check_rows.specs.Texts.{paths_of}
use Rattle.fb_check_rows.proofs.Members.{is_there, no_first}
use Rattle.fb_check_rows.proofs.matching.none_given.Goals as goal

pub returns-in_ok-from_str-in-Some-clause-refused : goal.returns-in_ok-from_str-in-Some-clause-refused
returns-in_ok-from_str-in-Some-clause-refused c =
    let ps = paths_of c.args.given (rows_of c.args.certificate.now) in
    (ap (λ z. is_in z ps) c.in_ok-from_str-in-Some.ensures.ok ∙ is_there ps 0 c.in-Some.path.now (sym c.in-Some.ensures), refl)

pub returns-in-None-clause-same : goal.returns-in-None-clause-same
returns-in-None-clause-same c = no_first (paths_of c.args.given (rows_of c.args.certificate.now)) (sym c.in-None.ensures)
