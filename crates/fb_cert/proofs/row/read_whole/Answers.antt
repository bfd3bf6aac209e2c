use Rattle.std.proofs.Common.{None, sym, ◌∙◌, lit<}
use Rattle.std.proofs.lemmas.Str.Pattern.{strip_prefix_char}
use Rattle.fb_cert.proofs.Numbers.{whole_plain}
use Rattle.fb_cert.proofs.row.read_whole.Goals as goal

pub returns-in-None : goal.returns-in-None
returns-in-None c = c.read_plain.ensures ∙ sym (whole_plain c.args.word.now (strip_prefix_char 45 c.args.word.now None c.in-None.ensures.cases (lit< tt)))
