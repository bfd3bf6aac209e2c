use Rattle.std.proofs.Common.{None, sym, subst}
use Rattle.fb_model.specs.Certificates.{all_leaves}
use Rattle.fb_cert.specs.Views.{certificate_of}
use Rattle.fb_find_demands.specs.Rights.{rights_of}
use Rattle.fb_find.specs.Columns.{FulfilsAll}
use Rattle.fb_prices.specs.Words.{prices_of}
use Rattle.fb_work.specs.Algorithms.{OrMemory}
use Rattle.fb_work.specs.Counting.{IsPastLimit, IsTooMuch}
use Rattle.fb_work.specs.Demands.{work_demands}
use Rattle.fb_work.proofs.Columns.{column, least_work, too_much}
use Rattle.fb_work.proofs.Told.{told_of, told_same}
use Rattle.fb_work.proofs.work.counted.Goals as goal

pub solved-requires : goal.solved-requires
solved-requires c =
    let s = c.requires.0 in
    let i = c.requires.1.numbered in
    let n = c.args.numbering in
    let prices = prices_of c.args.prices.now in
    let ranges = (certificate_of c.args.certificate.now).ranges in
    let served = subst (FulfilsAll None n s) (sym c.as_slice.ensures.value) (c.in_ok-order.ensures s i) in
    (work_demands prices ranges (all_leaves s.devices), column c.args.flat.now.devices.items n s i prices ranges c.as_slice.result.now (rights_of c.in_ok-rights.rights.items) served (c.in_ok-rights.ensures.value s i))

pub returns-in_err-numbers-clause-refused : goal.returns-in_err-numbers-clause-refused
returns-in_err-numbers-clause-refused c = λ s has.
    let i = has.numbered in
    let n = c.args.numbering in
    let prices = prices_of c.args.prices.now in
    let ranges = (certificate_of c.args.certificate.now).ranges in
    let served = subst (FulfilsAll None n s) (sym c.as_slice.ensures.value) (c.in_ok-order.ensures s i) in
    let ready = column c.args.flat.now.devices.items n s i prices ranges c.as_slice.result.now (rights_of c.in_ok-rights.rights.items) served (c.in_ok-rights.ensures.value s i) in
    let ds = work_demands prices ranges (all_leaves s.devices) in
    let w = c.in_err-numbers.field-0.0 in
    told_same c.from_residual-in_err-numbers.result w (OrMemory (IsTooMuch prices ranges s)) c.from_residual-in_err-numbers.ensures.1
    (told_of w (IsPastLimit ds) (IsTooMuch prices ranges s) (too_much prices ranges s) (c.in_err-numbers.ensures.refused ds ready))

pub returns-clause-least : goal.returns-clause-least
returns-clause-least c = λ s has.
    let i = has.numbered in
    let n = c.args.numbering in
    let prices = prices_of c.args.prices.now in
    let ranges = (certificate_of c.args.certificate.now).ranges in
    let served = subst (FulfilsAll None n s) (sym c.as_slice.ensures.value) (c.in_ok-order.ensures s i) in
    let ready = column c.args.flat.now.devices.items n s i prices ranges c.as_slice.result.now (rights_of c.in_ok-rights.rights.items) served (c.in_ok-rights.ensures.value s i) in
    least_work c.args.flat.now.devices.items n s i prices ranges c.in_ok-numbers.numbers.items (c.in_ok-numbers.ensures.least (work_demands prices ranges (all_leaves s.devices)) ready)
