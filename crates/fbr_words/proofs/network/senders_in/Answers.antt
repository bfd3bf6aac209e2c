use Rattle.std.proofs.Common.{◌≡◌, ◌∙◌, ap, map, Some, codes}
use Rattle.clap.specs.Words.{found_of}
use Rattle.clap.proofs.WalkLemmas.{raw_values-rows}
use Rattle.fb_addresses.specs.Addresses.{parts_of}
use Rattle.fbr_words.specs.Program.{senders_in}
use Rattle.fbr_words.proofs.network.senders_in.Goals as goal

pub returns-in-Some : goal.returns-in-Some
returns-in-Some c = c.read_senders.ensures ∙ ap senders_in (c.in-Some.ensures ∙ raw_values-rows (found_of c.args.words.now) (codes "from"))

pub returns-in-None : goal.returns-in-None
returns-in-None c = ap (λ xs. Some (map parts_of xs)) c.new.ensures ∙ ap senders_in (c.in-None.ensures ∙ raw_values-rows (found_of c.args.words.now) (codes "from"))
