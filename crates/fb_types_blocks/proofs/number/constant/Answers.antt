use Rattle.fb_tree.specs.Algorithms.{constant_of}
use Rattle.fb_types_blocks.proofs.Numbers.{given_found, given_only, given_refused}
use Rattle.fb_types_blocks.proofs.number.constant.Goals as goal

pub returns-clause-found : goal.returns-clause-found
returns-clause-found c = given_found c.args.of c.args.at (constant_of c.args.value.now) c.given.result c.given.ensures

pub returns-clause-only : goal.returns-clause-only
returns-clause-only c n h = given_only c.args.of c.args.at (constant_of c.args.value.now) c.given.result c.given.ensures n h

pub returns-clause-refused : goal.returns-clause-refused
returns-clause-refused c = given_refused c.args.of c.args.at (constant_of c.args.value.now) c.given.result c.given.ensures
