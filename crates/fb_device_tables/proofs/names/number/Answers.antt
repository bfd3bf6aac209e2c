use Rattle.std.proofs.Common.{sym, ◌∙◌, string_bytes}
use Rattle.std.specs.Str.{bytes_eq}
use Rattle.fb_types_blocks.specs.Views.{names_of}
use Rattle.fb_types_networks.proofs.Places.{position_is, position_map}
use Rattle.fb_device_tables.proofs.Numbers.{number_some, number_none}
use Rattle.fb_device_tables.proofs.names.number.Goals as goal

pub returns-in-Some : goal.returns-in-Some
returns-in-Some c =
    let x = c.args.name.now in
    let names = names_of c.args.names.now in
    let k = sym (position_is (bytes_eq x) names) ∙ position_map (bytes_eq x) string_bytes c.args.names.now.keys ∙ sym c.in-Some.ensures.index in
    number_some x names c.in-Some.index c.short.result k c.short.ensures

pub returns-in-None : goal.returns-in-None
returns-in-None c =
    let x = c.args.name.now in
    let names = names_of c.args.names.now in
    let k = sym (position_is (bytes_eq x) names) ∙ position_map (bytes_eq x) string_bytes c.args.names.now.keys ∙ sym c.in-None.ensures.index in
    number_none x names 0 k
