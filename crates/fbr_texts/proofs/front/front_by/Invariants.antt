use Rattle.std.proofs.Common.{◌≡◌, drop}
use Rattle.fb_lex.specs.Views.{tokens_of}
use Rattle.fbr_texts.specs.Fronts.{at_first, front_of, run}
use Rattle.fbr_texts.proofs.front.front_by.Given as goal

-- the front so far, with the tokens that are left
abbrev pub invariant-loop-token : goal.invariant-loop-token
invariant-loop-token l = run (front_of l.front) (tokens_of (drop l.token-index l.tokens)) ≡ run at_first (tokens_of l.tokens)
