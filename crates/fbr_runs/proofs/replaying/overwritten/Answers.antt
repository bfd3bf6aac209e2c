use Rattle.fbr_files.specs.declared.fault.Fault.TheVariants.{Usage}
use Rattle.fbr_files.specs.Outcomes.{Tells, refusal}
use Rattle.fbr_static.proofs.Tellings.{json_told, text_told}
use Rattle.fbr_runs.proofs.replaying.overwritten.Goals as goal

pub returns-then-is_json-clause-told : goal.returns-then-is_json-clause-told
returns-then-is_json-clause-told g c =
    json_told c.args.is_json (λ status. Tells (refusal Usage) (g.W.Write.contents c.args.output.now) (g.W.Write.contents c.misused_told.new.output) status) c.misused_told.result c.if-is_json.true

pub returns-clause-told : goal.returns-clause-told
returns-clause-told g c =
    text_told c.args.is_json (λ status. Tells (refusal Usage) (g.W.Write.contents c.args.output.now) (g.W.Write.contents c.misused.new.output) status) c.misused.result c.misused.ensures.told
