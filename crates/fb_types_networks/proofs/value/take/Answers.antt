use Rattle.fb_types_networks.specs.Views.{end_of}
use Rattle.fb_types_networks.specs.contracts.typed.EndPartialEq.TheImpl.{eq-value}
use Rattle.fb_types_networks.proofs.Taken.{taken_added, taken_ends, same_end}
use Rattle.fb_types_networks.proofs.value.take.Goals as goal

pub returns-clause-added : goal.returns-clause-added
returns-clause-added c = taken_added eq-value.it same_end c.args.taken.now.keys c.in_ok-copy.field-0 (end_of c.args.end.now) c.in_ok-insert.field-0 c.in_ok-copy.ensures c.in_ok-insert.ensures.added

pub returns-clause-ends : goal.returns-clause-ends
returns-clause-ends c = taken_ends eq-value.it same_end c.args.taken.now.keys c.insert.new.self.keys c.in_ok-copy.field-0 (end_of c.args.end.now) c.in_ok-insert.field-0 c.in_ok-copy.ensures c.in_ok-insert.ensures.added c.in_ok-insert.ensures.keys
