use Rattle.fb_cert.specs.Views.{certificate_of}
use Rattle.fb_types.specs.Views.{system_of}
use Rattle.fb_model.specs.FinderRanges.{AreFound}
use Rattle.fb_find.proofs.Taking.{found_with}
use Rattle.fb_find_search.proofs.Still.{unclear_told}
use Rattle.std.proofs.Common.{inl}
use Rattle.fb_find_search.proofs.searching.search.Goals as goal

pub returns-in-Ok-clause-found : goal.returns-in-Ok-clause-found
returns-in-Ok-clause-found c =
    let s = system_of c.args.typed.now in
    found_with (AreFound s.devices) (λ rs. Unit {0}) c.args.repeats s (certificate_of c.in-Ok.certificate) (λ rs a. tt) c.in-Ok.ensures.found

pub returns-in-Ok-clause-own : goal.returns-in-Ok-clause-own
returns-in-Ok-clause-own c = inl c.in-Ok.ensures.found

pub returns-in-Err-NoRange-clause-own : goal.returns-in-Err-NoRange-clause-own
returns-in-Err-NoRange-clause-own c = unclear_told certificate_of c.in-Err-NoRange.path c.args.repeats (system_of c.args.typed.now) c.tried.result (rw c.in-Err-NoRange.field-0-is at c.in-Err-NoRange.ensures.refused)
