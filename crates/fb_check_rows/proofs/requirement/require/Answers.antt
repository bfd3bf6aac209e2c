use Rattle.std.proofs.Common.{refl, string_bytes}
use Rattle.fb_types_blocks.specs.Views.{names_of}
use Rattle.fb_types_blocks.proofs.Lists.{with_key}
use Rattle.fb_check_rows.proofs.Members.{extended}
use Rattle.fb_check_rows.proofs.requirement.require.Goals as goal

pub returns-clause-rows : goal.returns-clause-rows
returns-clause-rows c =
    extended (names_of c.args.rows.now) (string_bytes c.args.row) (names_of c.insert.new.self) _
    (with_key c.args.rows.now.keys c.insert.new.self.keys c.args.row _ _ refl c.in_ok-insert.ensures.added c.in_ok-insert.ensures.keys)
