use Rattle.std.proofs.Common.{◌∙◌, sym}
use Rattle.fb_types.specs.Views.{system_of}
use Rattle.fbr_find.proofs.Texts.{long_rows, short_rows}
use Rattle.fbr_find.proofs.wanted.Wanted.text_unless_long.Goals as goal

pub returns-then-rows_are_long : goal.returns-then-rows_are_long
returns-then-rows_are_long c = λ q files read. long_rows q files (system_of c.args.typed.now) c.args.self.now.repeats read.repeats (sym c.rows_are_long.ensures ∙ c.if-rows_are_long.true)

pub returns : goal.returns
returns c = λ q files read.
    short_rows q files (system_of c.args.typed.now) c.args.self.now.repeats c.text_for.result read.repeats (sym c.rows_are_long.ensures ∙ c.if-rows_are_long.false) (c.text_for.ensures q files read)
