use Rattle.std.proofs.Common.{◌∙◌, ◌+◌, drop, map, ap}
use Rattle.std.specs.Prelude.{option_map}
use Rattle.std.proofs.lemmas.Result.{err_from_is_err_and}
use Rattle.fb_keys.specs.Keys.{line_in, lines_from, with_line}
use Rattle.fb_keys.specs.Views.{line_of, read_of}
use Rattle.fb_keys.proofs.Spoken.{ends_with, goes_on}
use Rattle.fb_keys.proofs.keys.take_lines.Goals as goal

pub returns-in_err-take : goal.returns-in_err-take
returns-in_err-take c =
    let ls = c.args.lines.now in
    let k = c.loop-line.line-index in
    let n = c.loop-line.number + 1 in
    let r = read_of c.loop-line.reader in
    let said = c.read_line.ensures ∙ ap (λ ws. line_in (map (λ w. w.now) ws)) c.as_slice.ensures.value ∙ ap line_in c.in-Ok.ensures in
    let p = err_from_is_err_and c.from_residual.result c.from_residual.ensures.1 in
    rw p.1 (rw p.2 (ends_with (read_of c.take.new.self) (n + 1) (map (λ w. w.now) (drop (k + 1) ls)) (with_line n r (option_map line_of c.read_line.result))
    _ c.in_err-take.field-0.0
    (ap (λ o. lines_from (n + 1) (with_line n r o) (map (λ w. w.now) (drop (k + 1) ls))) said ∙ goes_on ls k _ c.loop-line-test.true n r _ c.loop-line.invariant.0) c.in_err-take.ensures))
