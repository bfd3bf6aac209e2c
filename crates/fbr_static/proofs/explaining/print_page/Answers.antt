use Rattle.fbr_files.specs.Outcomes.{outcome_said}
use Rattle.fbr_static.proofs.Tellings.{page_begins}
use Rattle.fbr_static.proofs.explaining.print_page.Goals as goal

pub returns-then-is_strict-clause-first : goal.returns-then-is_strict-clause-first
returns-then-is_strict-clause-first g c =
    page_begins (outcome_said c.args.outcome) (g.W.Write.contents c.args.output.now) (g.W.Write.contents c.print_outcome.new.output) (g.W.Write.contents c.write_all.new.self) c.as_slice.result.now c.in_ok-status.ensures.told.1 c.in_ok-write_all.ensures.bytes

pub returns-else-page-clause-first : goal.returns-else-page-clause-first
returns-else-page-clause-first g c =
    page_begins (outcome_said c.args.outcome) (g.W.Write.contents c.args.output.now) (g.W.Write.contents c.print_outcome.new.output) (g.W.Write.contents c.write_all.new.self) c.as_slice.result.now c.in_ok-status.ensures.told.1 c.in_ok-write_all.ensures.bytes
