use Rattle.fb_find.proofs.clear.with_ranges.Goals as goal

pub returns-in-Ok-clause-ranged : goal.returns-in-Ok-clause-ranged
returns-in-Ok-clause-ranged c = λ s have. c.in-Ok.ensures.ranged s have c.new-certificate.ensures

pub returns-in-Err-clause-refused : goal.returns-in-Err-clause-refused
returns-in-Err-clause-refused c = λ repeats s have. c.in-Err.ensures.refused repeats s have c.new-certificate.ensures
