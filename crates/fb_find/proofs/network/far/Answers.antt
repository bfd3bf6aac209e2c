use Rattle.fb_model.specs.Certificates.{all_leaves}
use Rattle.fb_model.specs.Columns.{network_demands}
use Rattle.fb_find_demands.specs.Rights.{rights_of}
use Rattle.std.proofs.Common.{Some}
use Rattle.fb_find.proofs.Columns.{channels_are, closed, network_of}
use Rattle.fb_find.proofs.network.far.Goals as goal

pub column-requires-clause-demands : goal.column-requires-clause-demands
column-requires-clause-demands c =
    let s = c.requires.0 in
    let ranges = c.requires.1 in
    let ready = c.requires.2 in
    let t = c.requires.3 in
    let fs = c.args.ordered.now.flat.now.devices.items in
    let n = c.args.ordered.now.numbering.now in
    let o = c.args.ordered.now.order.now in
    let r = c.args.repeats in
    (network_demands r ranges (all_leaves s.devices), network_of r fs n o s ready ranges (rights_of c.in_ok-rights.rights.items) (c.in_ok-rights.ensures s ready.numbering.numbered.given.tables (closed (Some r) fs n o s ready) (channels_are r fs n o s ready) ranges t.tables_are t.clear))

pub returns-clause-least : goal.returns-clause-least
returns-clause-least c = λ s ranges ready t.
    let fs = c.args.ordered.now.flat.now.devices.items in
    let n = c.args.ordered.now.numbering.now in
    let o = c.args.ordered.now.order.now in
    let r = c.args.repeats in
    c.column.ensures.least (network_demands r ranges (all_leaves s.devices)) (network_of r fs n o s ready ranges (rights_of c.in_ok-rights.rights.items) (c.in_ok-rights.ensures s ready.numbering.numbered.given.tables (closed (Some r) fs n o s ready) (channels_are r fs n o s ready) ranges t.tables_are t.clear))

pub returns-clause-refused : goal.returns-clause-refused
returns-clause-refused c = λ s ranges ready t.
    let fs = c.args.ordered.now.flat.now.devices.items in
    let n = c.args.ordered.now.numbering.now in
    let o = c.args.ordered.now.order.now in
    let r = c.args.repeats in
    c.column.ensures.refused (network_demands r ranges (all_leaves s.devices)) (network_of r fs n o s ready ranges (rights_of c.in_ok-rights.rights.items) (c.in_ok-rights.ensures s ready.numbering.numbered.given.tables (closed (Some r) fs n o s ready) (channels_are r fs n o s ready) ranges t.tables_are t.clear))
