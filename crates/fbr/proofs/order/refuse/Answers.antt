use Rattle.std.proofs.Common.{map, ◌∙◌, sym}
use Rattle.fbr_files.specs.Placed.{outcome_at}
use Rattle.fbr_texts.specs.Parts.{start_of}
use Rattle.fbr_words.specs.Requests.{asked_of}
use Rattle.fbr.proofs.Told.{outcome_first, outcome_json}
use Rattle.fbr.proofs.order.refuse.Goals as goal

pub returns-then-is_json-clause-told : goal.returns-then-is_json-clause-told
returns-then-is_json-clause-told g c =
    outcome_json (asked_of c.args.request.now) (outcome_at c.args.meant.app.now (map start_of c.args.meant.parts.now) c.args.fault) (g.W.Write.contents c.args.output.now) (g.W.Write.contents c.print_told.new.output) c.print_told.result (sym c.is_json.ensures ∙ c.if-is_json.true)

pub returns-clause-told : goal.returns-clause-told
returns-clause-told g c =
    outcome_first (asked_of c.args.request.now) c.explains-is_page.result (outcome_at c.args.meant.app.now (map start_of c.args.meant.parts.now) c.args.fault) (g.W.Write.contents c.args.output.now) (g.W.Write.contents c.tell_first.new.output) c.tell_first.result c.explains-is_page.ensures c.tell_first.ensures.told
