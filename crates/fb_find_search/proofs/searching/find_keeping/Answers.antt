use Rattle.fb_cert.specs.Views.{certificate_of, rows_of}
use Rattle.fb_types.specs.Views.{system_of}
use Rattle.fb_model.specs.Finding.{AreTaken, IsFoundWithin}
use Rattle.fb_find.proofs.Taking.{found_with}
use Rattle.fb_find_search.specs.Searching.{IsFoundSomehow, IsRanged}
use Rattle.fb_find_search.proofs.Keeping.{first_same, given_stand, none_keeping}
use Rattle.fb_check_rows.proofs.Loops.{ok_weaker}
use Rattle.fb_find_search.proofs.searching.find_keeping.Goals as goal

pub returns-in-Ok-clause-found : goal.returns-in-Ok-clause-found
returns-in-Ok-clause-found c =
    let s = system_of c.args.typed.now in
    let others = (certificate_of c.in-Ok.ranges).ranges in
    ok_weaker (λ x. IsFoundWithin others c.args.repeats s (certificate_of x)) (λ x. IsFoundSomehow c.args.repeats s (certificate_of x))
    (λ x found. found_with (AreTaken others s.devices) (λ rs. Unit {0}) c.args.repeats s (certificate_of x) (λ rs a. tt) found) c.find_within-found.result c.find_within-found.ensures.found

pub returns-in-Ok-clause-stand : goal.returns-in-Ok-clause-stand
returns-in-Ok-clause-stand c = given_stand rows_of (IsRanged (system_of c.args.typed.now)) (rows_of c.args.given) (rows_of c.in-Ok.ranges) c.find_within-found.result c.in-Ok.ensures c.find_within-found.ensures.stand

pub returns-in-Ok-clause-refused : goal.returns-in-Ok-clause-refused
returns-in-Ok-clause-refused c = none_keeping (rows_of c.args.given) (rows_of c.in-Ok.ranges) c.args.repeats (system_of c.args.typed.now) c.find_within-found.result c.in-Ok.ensures c.find_within-found.ensures.refused

pub returns-in-Err-clause-refused : goal.returns-in-Err-clause-refused
returns-in-Err-clause-refused c = (rows_of c.args.given, first_same (IsRanged (system_of c.args.typed.now)) (rows_of c.args.given), tt)
