use Rattle.std.proofs.Common.{subst}
use Rattle.fb_types.specs.Views.{system_of}
use Rattle.fbr_find.specs.Bounding.{AreRangesRead}
use Rattle.fbr_find.proofs.Found.{by_rounds, by_search, by_file}
use Rattle.fbr_find.proofs.wanted.certificate_in.Goals as goal

pub returns-in-Rounds : goal.returns-in-Rounds
returns-in-Rounds c = λ asked files read.
    by_rounds asked c.args.repeats files (system_of c.args.typed.now) c.least_for.result (subst (AreRangesRead asked files) c.in-Rounds.is read) c.least_for.ensures

pub returns-in-Searched : goal.returns-in-Searched
returns-in-Searched c = λ asked files read.
    by_search asked c.args.repeats files (system_of c.args.typed.now) c.searched_for.result (subst (AreRangesRead asked files) c.in-Searched.is read) c.searched_for.ensures

pub returns-in-Within : goal.returns-in-Within
returns-in-Within c = λ asked files read.
    let r = subst (AreRangesRead asked files) c.in-Within.is read in
    by_file asked c.args.repeats files (system_of c.args.typed.now) c.kept_in.result r.0 c.in-Within.file.name.now r.1 r.2.named (c.kept_in.ensures (files r.0) r.2.read)
