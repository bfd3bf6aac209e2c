use Rattle.fb_model.specs.Certificates.{all_leaves}
use Rattle.fb_model.specs.Columns.{demands}
use Rattle.fb_find_demands.specs.Rights.{rights_of}
use Rattle.fb_find.proofs.Columns.{closed, column_of}
use Rattle.fb_find.proofs.least.steps.Goals as goal

pub column-requires-clause-demands : goal.column-requires-clause-demands
column-requires-clause-demands c =
    let s = c.requires.0 in
    let ranges = c.requires.1 in
    let repeats = c.requires.2 in
    let ready = c.requires.3 in
    let t = c.requires.4 in
    let fs = c.args.ordered.now.flat.now.devices.items in
    (demands 1 ranges (all_leaves s.devices), column_of repeats fs c.args.ordered.now.numbering.now c.args.ordered.now.order.now s ready 1 ranges (rights_of c.in_ok-rights.rights.items) (c.in_ok-rights.ensures s ready.numbering.numbered.given.tables (closed repeats fs c.args.ordered.now.numbering.now c.args.ordered.now.order.now s ready) ranges t.tables_are t.clear))

pub returns-clause-least : goal.returns-clause-least
returns-clause-least c = λ s ranges repeats ready t.
    let fs = c.args.ordered.now.flat.now.devices.items in
    c.column.ensures.least (demands 1 ranges (all_leaves s.devices)) (column_of repeats fs c.args.ordered.now.numbering.now c.args.ordered.now.order.now s ready 1 ranges (rights_of c.in_ok-rights.rights.items) (c.in_ok-rights.ensures s ready.numbering.numbered.given.tables (closed repeats fs c.args.ordered.now.numbering.now c.args.ordered.now.order.now s ready) ranges t.tables_are t.clear))

pub returns-clause-refused : goal.returns-clause-refused
returns-clause-refused c = λ s ranges repeats ready t.
    let fs = c.args.ordered.now.flat.now.devices.items in
    c.column.ensures.refused (demands 1 ranges (all_leaves s.devices)) (column_of repeats fs c.args.ordered.now.numbering.now c.args.ordered.now.order.now s ready 1 ranges (rights_of c.in_ok-rights.rights.items) (c.in_ok-rights.ensures s ready.numbering.numbered.given.tables (closed repeats fs c.args.ordered.now.numbering.now c.args.ordered.now.order.now s ready) ranges t.tables_are t.clear))
