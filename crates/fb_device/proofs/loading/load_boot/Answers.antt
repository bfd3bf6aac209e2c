use Rattle.std.proofs.lemmas.Result.{IfErr-weaker}
use Rattle.fb_device.proofs.Found.{begin_fault}
use Rattle.fb_device.proofs.loading.load_boot.Goals as goal

pub returns-then-not-is_within-clause-refused : goal.returns-then-not-is_within-clause-refused
returns-then-not-is_within-clause-refused c = c.is_within.ensures.no c.if-not-is_within.true

pub returns-then-not-is_within-clause-accepts : goal.returns-then-not-is_within-clause-accepts
returns-then-not-is_within-clause-accepts c = λ within source system rows short few is e written fits there. absurd (c.is_within.ensures.no c.if-not-is_within.true within)

pub loaded-requires : goal.loaded-requires
loaded-requires c = (c.is_within.ensures.yes c.if-not-is_within.false).cause

pub returns-clause-refused : goal.returns-clause-refused
returns-clause-refused c = IfErr-weaker c.loaded.result _ _ (λ f h. begin_fault c.args.text.now c.args.certificate.now c.args.device.now c.args.first c.args.stamp.sequence f h) c.loaded.ensures.refused

pub returns-clause-limit : goal.returns-clause-limit
returns-clause-limit c = λ n. absurd (n (c.is_within.ensures.yes c.if-not-is_within.false))

pub returns-clause-accepts : goal.returns-clause-accepts
returns-clause-accepts c = λ within. c.loaded.ensures.accepts
