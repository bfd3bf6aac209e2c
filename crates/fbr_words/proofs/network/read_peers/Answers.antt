use Rattle.std.proofs.Common.{◌≡◌, ◌∙◌, ◌+◌, [], ◌∷◌, sym, ap, map, length, arith, rules, length-append}
use Rattle.std.specs.Prelude.{option_map}
use Rattle.std.proofs.lemmas.List.{map-append}
use Rattle.fb_addresses.specs.Addresses.{endpoint_of, endpoint_in}
use Rattle.fbr_words.proofs.Each.{none_yet, next_word, no_word, all_words}
use Rattle.fbr_words.proofs.network.read_peers.Goals as goal

pub loop-word-init : goal.loop-word-init
loop-word-init c = (none_yet endpoint_in (map endpoint_of c.new-peers.result) _ (ap (map endpoint_of) c.new-peers.ensures), search rules)

pub push-requires : goal.push-requires
push-requires c = omega (arith, c.loop-word.invariant.1, c.loop-word-test.true, c.if-words-gt64.false)

pub returns-in-None : goal.returns-in-None
returns-in-None c = no_word endpoint_in c.args.words.now c.loop-word.word-index _ (map endpoint_of c.loop-word.peers) c.loop-word-test.true (sym c.read_endpoint.ensures ∙ ap (option_map endpoint_of) c.in-None.is) c.loop-word.invariant.0

pub loop-word-preserved : goal.loop-word-preserved
loop-word-preserved c = (
  next_word endpoint_in c.args.words.now c.loop-word.word-index _ (endpoint_of c.in-Some.address) (map endpoint_of c.loop-word.peers) (map endpoint_of c.push.new.self) _ c.loop-word-test.true (sym c.read_endpoint.ensures ∙ ap (option_map endpoint_of) c.in-Some.is) (ap (map endpoint_of) c.push.ensures ∙ map-append endpoint_of c.loop-word.peers (c.in-Some.address ∷ [])) c.loop-word.invariant.0,
  ap length c.push.ensures ∙ length-append c.loop-word.peers (c.in-Some.address ∷ []) ∙ omega (arith, c.loop-word.invariant.1),
)

pub returns : goal.returns
returns c = all_words endpoint_in c.args.words.now c.loop-word.word-index (map endpoint_of c.loop-word.peers) (omega (arith, c.loop-word-test.false)) c.if-words-gt64.false c.loop-word.invariant.0
