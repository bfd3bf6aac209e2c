use Rattle.std.proofs.Common.{◌≡◌, ◌∙◌, ap, map, Some, codes}
use Rattle.clap.specs.Words.{found_of}
use Rattle.clap.proofs.WalkLemmas.{raw_values-rows}
use Rattle.fb_addresses.specs.Addresses.{endpoint_of}
use Rattle.fbr_words.specs.Program.{peers_in}
use Rattle.fbr_words.proofs.network.peers_in.Goals as goal

pub returns-in-Some : goal.returns-in-Some
returns-in-Some c = c.read_peers.ensures ∙ ap peers_in (c.in-Some.ensures ∙ raw_values-rows (found_of c.args.words.now) (codes "PEER"))

pub returns-in-None : goal.returns-in-None
returns-in-None c = ap (λ xs. Some (map endpoint_of xs)) c.new.ensures ∙ ap peers_in (c.in-None.ensures ∙ raw_values-rows (found_of c.args.words.now) (codes "PEER"))
