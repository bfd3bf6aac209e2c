use Rattle.std.proofs.Common.{◌∙◌, sym}
use Rattle.fbr_files.specs.Outcomes.{refusal}
use Rattle.fbr_files.specs.declared.fault.Fault.TheVariants.{Usage}
use Rattle.fbr_words.specs.Requests.{asked_of}
use Rattle.fbr.proofs.Told.{outcome_json, outcome_usage}
use Rattle.fbr.proofs.order.refuse_words.Goals as goal

pub returns-then-is_json-clause-told : goal.returns-then-is_json-clause-told
returns-then-is_json-clause-told g c =
    outcome_json (asked_of c.args.request.now) (refusal Usage) (g.W.Write.contents c.args.output.now) (g.W.Write.contents c.print_told.new.output) c.print_told.result (sym c.is_json.ensures ∙ c.if-is_json.true)

pub returns-clause-told : goal.returns-clause-told
returns-clause-told g c =
    outcome_usage (asked_of c.args.request.now) (g.W.Write.contents c.args.output.now) (g.W.Write.contents c.misused.new.output) c.misused.result c.requires c.misused.ensures.told
