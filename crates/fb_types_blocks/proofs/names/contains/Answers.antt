use Rattle.std.proofs.Common.{sym, ◌∙◌, string_bytes}
use Rattle.std.specs.Str.{bytes_eq}
use Rattle.fb_types_blocks.proofs.Lists.{any_map}
use Rattle.fb_types_blocks.proofs.names.contains.Goals as goal

pub returns : goal.returns
returns c = c.contains.ensures ∙ sym (any_map (bytes_eq c.args.name.now) string_bytes c.args.names.now.keys)
