use Rattle.std.proofs.Common.{sym, string_bytes}
use Rattle.st_exec.specs.Cells.{values_of}
use Rattle.fb_lists.proofs.Lists.{stands_at}
use Rattle.fb_chart.proofs.Moving.{take_room, source_within, source_slot, source_length, source_room, takes_value}
use Rattle.fb_chart.proofs.sampling.sample_one.Goals as goal

pub copy-requires-clause-room : goal.copy-requires-clause-room
copy-requires-clause-room c = take_room c.args.issued.now c.args.own.now c.args.taken.now c.requires

pub fill-requires : goal.fill-requires
fill-requires c = take_room c.args.issued.now c.args.own.now c.args.taken.now c.requires

pub copy-requires-clause-enough : goal.copy-requires-clause-enough
copy-requires-clause-enough c =
    let all = c.args.issued.now in
    let own = c.args.own.now in
    let t = c.args.taken.now in
    let block = c.in-Output.block in
    let y = c.in-Output.field-1 in
    let slot = c.in-Output.slot in
    let is = c.in-Output.is in
    let cells = c.index-issued-block.result in
    let at = stands_at all block cells cells (source_within all own t c.requires block y slot is) c.index-issued-block.is in
    source_room all own t c.requires block y slot is cells at

pub returns-in-Output-clause-values : goal.returns-in-Output-clause-values
returns-in-Output-clause-values c =
    let all = c.args.issued.now in
    let own = c.args.own.now in
    let t = c.args.taken.now in
    let block = c.in-Output.block in
    let y = c.in-Output.field-1 in
    let slot = c.in-Output.slot in
    let is = c.in-Output.is in
    let cells = c.index-issued-block.result in
    let at = stands_at all block cells cells (source_within all own t c.requires block y slot is) c.index-issued-block.is in
    takes_value all own t c.requires block y slot is cells at (values_of c.copy.new.self)
    (c.copy.ensures.values (string_bytes t.input) (string_bytes y) (sym c.requires.slot) (source_slot all own t c.requires block y slot is cells at) (sym c.requires.count) (source_length all own t c.requires block y slot is cells at))
