use Rattle.std.proofs.Common.{◌≡◌, ◌≤◌, rules, subst, sym, length, string_bytes}
use Rattle.fbr_files.specs.Outcomes.{IsContents}
use Rattle.fbr_files.proofs.Contents.{file_held}
use Rattle.fbr_files.proofs.reading.held_in.Goals as goal

pub returns-in-Ok-from_utf8 : goal.returns-in-Ok-from_utf8
returns-in-Ok-from_utf8 g c =
    let held = g.S.Sources.contents c.args.files.now c.args.name.now in
    let small : length c.in-Ok.bytes.items ≤ 33554432 = search rules in
    let same : string_bytes c.in-Ok-from_utf8.text ≡ c.in-Ok.bytes.items = search rules in
    subst (IsContents held) (sym same) (file_held held c.in-Ok.bytes.items c.in-Ok.ensures small)
