use Rattle.std.proofs.Common.{◌≡◌, map, subst, sym}
use Rattle.fb_model.specs.Certificates.{all_leaves}
use Rattle.fb_model.specs.FinderRanges.{AreFound}
use Rattle.fb_cert.specs.Views.{certificate_of}
use Rattle.fb_check_rows.proofs.Loops.{err_weaker, ok_weaker}
use Rattle.fb_model.specs.Finding.{IsFound, IsFoundWith}
use Rattle.fb_find_ranges.specs.Found.{spelled}
use Rattle.fb_ranges.specs.Views.{spans_of}
use Rattle.fb_model.specs.Finding.{IsNoBound, IsNoBoundAt}
use Rattle.fb_find.proofs.Clearing.{found_told}
use Rattle.fb_find.proofs.Given.{found_read, have_found}
use Rattle.fb_find.proofs.Taking.{found_with}
use Rattle.fb_find.proofs.finding.found.Goals as goal

pub with_tables-requires-clause-tables : goal.with_tables-requires-clause-tables
with_tables-requires-clause-tables c =
    let s = c.requires.given.0 in
    let given = c.requires.given.1 in
    let slice = c.as_slice.result.now in
    (s, have_found s c.args.flat.now.devices.items slice given (found_read s c.in_ok-tables.tables.items slice c.as_slice.ensures.value (c.in_ok-tables.ensures given.library given.source s given.typed given.tables)))

pub returns-clause-found : goal.returns-clause-found
returns-clause-found c = λ s given.
    let slice = c.as_slice.result.now in
    let ranges = spelled (map spans_of slice) (all_leaves s.devices) in
    let found = found_read s c.in_ok-tables.tables.items slice c.as_slice.ensures.value (c.in_ok-tables.ensures given.library given.source s given.typed given.tables) in
    ok_weaker (λ x. IsFoundWith (λ rs. rs ≡ ranges) c.args.repeats s (certificate_of x)) (λ x. IsFound c.args.repeats s (certificate_of x))
    (λ x h. found_with (λ rs. rs ≡ ranges) (AreFound s.devices) c.args.repeats s (certificate_of x) (λ rs e. subst (AreFound s.devices) (sym e) found.found) h) c.with_tables.result
    (c.with_tables.ensures.found s (have_found s c.args.flat.now.devices.items slice given found))

pub returns-clause-refused : goal.returns-clause-refused
returns-clause-refused c = λ s given.
    let slice = c.as_slice.result.now in
    let ranges = spelled (map spans_of slice) (all_leaves s.devices) in
    let found = found_read s c.in_ok-tables.tables.items slice c.as_slice.ensures.value (c.in_ok-tables.ensures given.library given.source s given.typed given.tables) in
    err_weaker (IsNoBoundAt ranges c.args.repeats s) (IsNoBound c.args.repeats s) (λ fault h. found_told c.args.flat.now.devices.items s given (map spans_of slice) found c.args.repeats fault h) c.with_tables.result
    (c.with_tables.ensures.refused s (have_found s c.args.flat.now.devices.items slice given found))
