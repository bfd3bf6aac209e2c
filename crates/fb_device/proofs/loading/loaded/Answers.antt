use Rattle.std.proofs.lemmas.Result.{IfOk-weaker, IfErr-weaker}
use Rattle.fb_verified.specs.Checked.{system_in}
use Rattle.std.proofs.Common.{ap}
use Rattle.fb_wire.specs.Views.{stamped_of}
use Rattle.fb_device.specs.declared.refusal.Refusal.TheVariants.{Checked}
use Rattle.fb_device.proofs.Found.{loaded_so, fault_so, memory_so}
use Rattle.fb_device.proofs.loading.loaded.Goals as goal

pub returns-in-Ok-clause-loaded : goal.returns-in-Ok-clause-loaded
returns-in-Ok-clause-loaded c = IfOk-weaker c.made_ready.result _ _ (λ r h. loaded_so c.args.text.now c.args.certificate.now c.args.device.now c.args.first (stamped_of c.args.stamp) c.in-Ok.verified r c.in-Ok.ensures.accepted h) c.made_ready.ensures.ready

pub returns-in-Ok-clause-refused : goal.returns-in-Ok-clause-refused
returns-in-Ok-clause-refused c = IfErr-weaker c.made_ready.result _ _ (λ f h. fault_so c.args.text.now c.args.certificate.now c.args.device.now c.in-Ok.verified f c.in-Ok.ensures.accepted h) c.made_ready.ensures.refused

pub returns-in-Ok-clause-accepts : goal.returns-in-Ok-clause-accepts
returns-in-Ok-clause-accepts c = λ source system rows short few is e written fits there.
    IfErr-weaker c.made_ready.result _ _ (λ f h. memory_so c.in-Ok.verified c.args.device.now f (there (system_in c.in-Ok.verified) c.in-Ok.ensures.accepted.system_is) h) c.made_ready.ensures.refused

pub returns-in-Err-clause-accepts : goal.returns-in-Err-clause-accepts
returns-in-Err-clause-accepts c = λ source system rows short few is e written fits there.
    ap Checked (c.in-Err.ensures.accepts source system rows short few is e written fits)
