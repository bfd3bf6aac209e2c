use Rattle.std.proofs.Common.{◌≡◌, ◌∙◌, ◌+◌, [], ◌∷◌, sym, ap, map, length, arith, rules, length-append}
use Rattle.std.specs.Prelude.{option_map}
use Rattle.std.proofs.lemmas.List.{map-append}
use Rattle.fb_addresses.specs.Addresses.{parts_of, ip_in}
use Rattle.fbr_words.proofs.Each.{none_yet, next_word, no_word, all_words}
use Rattle.fbr_words.proofs.network.read_senders.Goals as goal

pub loop-word-init : goal.loop-word-init
loop-word-init c = (none_yet ip_in (map parts_of c.new-senders.result) _ (ap (map parts_of) c.new-senders.ensures), search rules)

pub push-requires : goal.push-requires
push-requires c = omega (arith, c.loop-word.invariant.1, c.loop-word-test.true, c.if-words-gt64.false)

pub returns-in-None : goal.returns-in-None
returns-in-None c = no_word ip_in c.args.words.now c.loop-word.word-index _ (map parts_of c.loop-word.senders) c.loop-word-test.true (sym c.read_ip.ensures ∙ ap (option_map parts_of) c.in-None.is) c.loop-word.invariant.0

pub loop-word-preserved : goal.loop-word-preserved
loop-word-preserved c = (
  next_word ip_in c.args.words.now c.loop-word.word-index _ (parts_of c.in-Some.address) (map parts_of c.loop-word.senders) (map parts_of c.push.new.self) _ c.loop-word-test.true (sym c.read_ip.ensures ∙ ap (option_map parts_of) c.in-Some.is) (ap (map parts_of) c.push.ensures ∙ map-append parts_of c.loop-word.senders (c.in-Some.address ∷ [])) c.loop-word.invariant.0,
  ap length c.push.ensures ∙ length-append c.loop-word.senders (c.in-Some.address ∷ []) ∙ omega (arith, c.loop-word.invariant.1),
)

pub returns : goal.returns
returns c = all_words ip_in c.args.words.now c.loop-word.word-index (map parts_of c.loop-word.senders) (omega (arith, c.loop-word-test.false)) c.if-words-gt64.false c.loop-word.invariant.0
