use Rattle.std.proofs.Common.{sym, rules}
use Rattle.fb_cert.proofs.Entries.{few_none, many_none}
use Rattle.fb_cert.proofs.row.read_row.Goals as goal
use Rattle.fb_cert.proofs.row.read_row.Goals.{in_default-via-then-words-lt2, in_default-via-else-words-lt2+else-words-lt3+else-words-lt4+else-words-lt5}

pub returns-in_default : goal.returns-in_default
returns-in_default c =
    elim c.in_default.branch [
      | in_default-via-then-words-lt2 w ↦ sym (few_none c.args.words.now (search rules))
      | in_default-via-else-words-lt2+else-words-lt3+else-words-lt4+else-words-lt5 w ↦ sym (many_none c.args.words.now (search rules))
    ]
