use Rattle.std.proofs.Common.{◌≡◌, ◌∙◌, map}
use Rattle.fb_model.specs.Certificates.{all_leaves}
use Rattle.fb_cert.specs.Views.{certificate_of, rows_of}
use Rattle.fb_check_rows.proofs.Loops.{err_weaker, ok_weaker}
use Rattle.fb_model.specs.Finding.{AreTaken, IsFoundWith, IsFoundWithin}
use Rattle.fb_find_ranges.specs.Found.{spelled}
use Rattle.fb_ranges.specs.Views.{spans_of}
use Rattle.fb_find.specs.Bounds.{IsNoBoundWithin}
use Rattle.fb_model.specs.Finding.{IsNoBoundAt}
use Rattle.fb_find.proofs.Given.{have_own, own_tables}
use Rattle.fb_find.proofs.Taking.{found_with, taken_rows, taken_told}
use Rattle.fb_find.proofs.within.within.Goals as goal

pub with_tables-requires-clause-tables : goal.with_tables-requires-clause-tables
with_tables-requires-clause-tables c =
    let s = c.requires.given.0 in
    (s, have_own s c.args.flat.now.devices.items c.args.ranges.now c.in_ok-tables.tables.items c.as_slice.result.now c.requires.given.1 c.in_ok-tables.ensures c.as_slice.ensures.value)

pub returns-clause-found : goal.returns-clause-found
returns-clause-found c = λ s given.
    let fs = c.args.flat.now.devices.items in
    let slice = c.as_slice.result.now in
    let others = (certificate_of c.args.ranges.now).ranges in
    let ranges = spelled (map spans_of slice) (all_leaves s.devices) in
    let taken = taken_rows others (map spans_of slice) (all_leaves s.devices) (own_tables s fs c.args.ranges.now c.in_ok-tables.tables.items slice given c.in_ok-tables.ensures c.as_slice.ensures.value) in
    ok_weaker (λ x. IsFoundWith (λ rs. rs ≡ ranges) c.args.repeats s (certificate_of x)) (λ x. IsFoundWithin others c.args.repeats s (certificate_of x))
    (λ x h. found_with (λ rs. rs ≡ ranges) (AreTaken others s.devices) c.args.repeats s (certificate_of x) (λ rs e. e ∙ taken) h) c.with_tables.result
    (c.with_tables.ensures.found s (have_own s fs c.args.ranges.now c.in_ok-tables.tables.items slice given c.in_ok-tables.ensures c.as_slice.ensures.value))

pub returns-clause-refused : goal.returns-clause-refused
returns-clause-refused c = λ s given.
    let fs = c.args.flat.now.devices.items in
    let slice = c.as_slice.result.now in
    let others = (certificate_of c.args.ranges.now).ranges in
    let ranges = spelled (map spans_of slice) (all_leaves s.devices) in
    let taken = taken_rows others (map spans_of slice) (all_leaves s.devices) (own_tables s fs c.args.ranges.now c.in_ok-tables.tables.items slice given c.in_ok-tables.ensures c.as_slice.ensures.value) in
    err_weaker (IsNoBoundAt ranges c.args.repeats s) (IsNoBoundWithin (rows_of c.args.ranges.now) c.args.repeats s) (λ fault h. taken_told (rows_of c.args.ranges.now) ranges c.args.repeats s fault taken h) c.with_tables.result
    (c.with_tables.ensures.refused s (have_own s fs c.args.ranges.now c.in_ok-tables.tables.items slice given c.in_ok-tables.ensures c.as_slice.ensures.value))
