use Rattle.std.proofs.lemmas.Result.{err_from_is_err_and}
use Rattle.fb_types.specs.Views.{system_of}
use Rattle.fb_find.proofs.Given.{found_denies, given, never_denies}
use Rattle.fb_find.proofs.Taking.{never_found}
use Rattle.fb_find.proofs.finding.sought.Goals as goal

pub found-requires-clause-given : goal.found-requires-clause-given
found-requires-clause-given c = (system_of c.args.typed.now, given (system_of c.args.typed.now) c.in_ok-flat.flat.devices.items c.stands_in_text.ensures c.in_ok-flat.ensures.tables c.in_ok-flat.ensures.few)

pub returns-in_err-flat-clause-denies : goal.returns-in_err-flat-clause-denies
returns-in_err-flat-clause-denies c =
    let p = err_from_is_err_and c.from_residual.result c.from_residual.ensures.1 in
    rw (p.1, p.2) (never_denies c.args.repeats (system_of c.args.typed.now) c.in_err-flat.field-0.0 (c.in_err-flat.ensures.refused c.args.repeats))

pub returns-in-Ok-clause-found : goal.returns-in-Ok-clause-found
returns-in-Ok-clause-found c =
    let s = system_of c.args.typed.now in
    c.in-Ok.ensures.found s (given s c.in_ok-flat.flat.devices.items c.stands_in_text.ensures c.in_ok-flat.ensures.tables c.in_ok-flat.ensures.few)

pub returns-in-Err-clause-refused : goal.returns-in-Err-clause-refused
returns-in-Err-clause-refused c =
    let s = system_of c.args.typed.now in
    c.in-Err.ensures.refused s (given s c.in_ok-flat.flat.devices.items c.stands_in_text.ensures c.in_ok-flat.ensures.tables c.in_ok-flat.ensures.few)

pub returns-in-Err-clause-denies : goal.returns-in-Err-clause-denies
returns-in-Err-clause-denies c =
    let s = system_of c.args.typed.now in
    found_denies c.args.repeats s c.in-Err.fault (c.in-Err.ensures.refused s (given s c.in_ok-flat.flat.devices.items c.stands_in_text.ensures c.in_ok-flat.ensures.tables c.in_ok-flat.ensures.few))

pub returns-in_err-flat-clause-refused : goal.returns-in_err-flat-clause-refused
returns-in_err-flat-clause-refused c =
    let p = err_from_is_err_and c.from_residual.result c.from_residual.ensures.1 in
    rw (p.1, p.2) (never_found c.args.repeats (system_of c.args.typed.now) c.in_err-flat.field-0.0 (c.in_err-flat.ensures.refused c.args.repeats))
