-- What the reader of texts answers is what the grammar alone says, and there is one such answer.
use Rattle.std.proofs.Common.{◌≤◌, ℕ, List, length, Result, Ok, Err, ap, subst, arith, inl, inr}
use Rattle.fb_faults.specs.declared.text.TextFault.{TextFault}
use Rattle.fb_faults.specs.declared.text.TextFault.TheVariants.{OutOfMemory, BadCharacter, Syntax, TooDeep, TooLong, BigNumber}
use Rattle.fb_lex.proofs.Whole.{one_place, not_both, fault_unspelled}
use Rattle.fb_model.specs.Tokens.{Token}
use Rattle.fb_model.specs.Spelling.{FirstAt, IsBad, IsBig, Spells, text_limit}
use Rattle.fb_model.specs.StructuredTextGrammar.{most_nested, most_nested_statements}
use Rattle.fb_tree.specs.declared.tree.FileTree.{FileTree}
use Rattle.fb_tree.specs.Files.{source_of}
use Rattle.fb_text.specs.Answers.{ReadsText}
use Rattle.fb_text.proofs.Laws.{tree_read, tree_spelled, source_once}
use Rattle.fb_text_laws.specs.Answers.{IsAnswer, IsAlike}
use Rattle.fb_text_laws.proofs.Places.{syntax_is_so, deep_is_so, syntax_is_all, deep_is_all, syntax_once, deep_once, never_both, no_tree, not_too_deep}

pub answers_are_so : (text : List ℕ) (answer : Result FileTree TextFault) → ReadsText text answer → IsAnswer text answer
answers_are_so text (Ok tree) h = (h.tokens, h.spelled, tree_spelled h.tokens (source_of tree) h.read_is)
answers_are_so text (Err OutOfMemory) h = tt
answers_are_so text (Err (BadCharacter at)) h = h
answers_are_so text (Err (BigNumber at)) h = h
answers_are_so text (Err (Syntax at)) h = syntax_is_so text at h
answers_are_so text (Err (TooDeep at)) h = deep_is_so text at h
answers_are_so text (Err TooLong) h = h

pub answers_are_all : (text : List ℕ) (answer : Result FileTree TextFault) → IsAnswer text answer → ReadsText text answer
answers_are_all text (Ok tree) h = record { tokens = h.0; spelled = h.1; read_is = tree_read h.0 (source_of tree) h.2 }
answers_are_all text (Err OutOfMemory) h = tt
answers_are_all text (Err (BadCharacter at)) h = h
answers_are_all text (Err (BigNumber at)) h = h
answers_are_all text (Err (Syntax at)) h = syntax_is_all text at h
answers_are_all text (Err (TooDeep at)) h = deep_is_all text at h
answers_are_all text (Err TooLong) h = h

-- ---- one answer

module _ (text : List ℕ) where
  bad_unspelled : (at : ℕ) → FirstAt IsBad text at → (ts : List Token) → Spells 0 text ts → ⊥
  bad_unspelled at b ts s = fault_unspelled b.1 (inl b.2) s

  big_unspelled : (at : ℕ) → FirstAt IsBig text at → (ts : List Token) → Spells 0 text ts → ⊥
  big_unspelled at b ts s = fault_unspelled b.1 (inr b.2) s

  bad_not_big : (a b : ℕ) → FirstAt IsBad text a → FirstAt IsBig text b → ⊥
  bad_not_big a b f g = not_both (subst (λ l. IsBad l) (one_place f.1 (inl f.2) g.1 (inr g.2)).1 f.2) g.2

  pub answers_are_one : (a b : Result FileTree TextFault) → length text ≤ text_limit → IsAnswer text a → IsAnswer text b → IsAlike a b
  answers_are_one (Err OutOfMemory) b le f g = tt
  answers_are_one (Err TooLong) b le f g = absurd (omega arith)
  answers_are_one (Ok x) (Err OutOfMemory) le f g = tt
  answers_are_one (Err (BadCharacter i)) (Err OutOfMemory) le f g = tt
  answers_are_one (Err (BigNumber i)) (Err OutOfMemory) le f g = tt
  answers_are_one (Err (Syntax i)) (Err OutOfMemory) le f g = tt
  answers_are_one (Err (TooDeep i)) (Err OutOfMemory) le f g = tt
  answers_are_one a (Err TooLong) le f g = absurd (omega arith)
  answers_are_one (Ok x) (Ok y) le f g = source_once most_nested most_nested_statements most_nested most_nested_statements text (source_of x) (source_of y) f g
  answers_are_one (Ok x) (Err (BadCharacter j)) le f g = absurd (bad_unspelled j g f.0 f.1)
  answers_are_one (Ok x) (Err (BigNumber j)) le f g = absurd (big_unspelled j g f.0 f.1)
  answers_are_one (Ok x) (Err (Syntax j)) le f g = absurd (no_tree text j g (source_of x) f)
  answers_are_one (Ok x) (Err (TooDeep j)) le f g = absurd (not_too_deep text j g (source_of x) f)
  answers_are_one (Err (BadCharacter i)) (Ok y) le f g = absurd (bad_unspelled i f g.0 g.1)
  answers_are_one (Err (BadCharacter i)) (Err (BadCharacter j)) le f g = ap (λ n. BadCharacter n) (one_place f.1 (inl f.2) g.1 (inl g.2)).0
  answers_are_one (Err (BadCharacter i)) (Err (BigNumber j)) le f g = absurd (bad_not_big i j f g)
  answers_are_one (Err (BadCharacter i)) (Err (Syntax j)) le f g = absurd (bad_unspelled i f g.tokens g.spelled)
  answers_are_one (Err (BadCharacter i)) (Err (TooDeep j)) le f g = absurd (bad_unspelled i f g.tokens g.spelled)
  answers_are_one (Err (BigNumber i)) (Ok y) le f g = absurd (big_unspelled i f g.0 g.1)
  answers_are_one (Err (BigNumber i)) (Err (BadCharacter j)) le f g = absurd (bad_not_big j i g f)
  answers_are_one (Err (BigNumber i)) (Err (BigNumber j)) le f g = ap (λ n. BigNumber n) (one_place f.1 (inr f.2) g.1 (inr g.2)).0
  answers_are_one (Err (BigNumber i)) (Err (Syntax j)) le f g = absurd (big_unspelled i f g.tokens g.spelled)
  answers_are_one (Err (BigNumber i)) (Err (TooDeep j)) le f g = absurd (big_unspelled i f g.tokens g.spelled)
  answers_are_one (Err (Syntax i)) (Ok y) le f g = absurd (no_tree text i f (source_of y) g)
  answers_are_one (Err (Syntax i)) (Err (BadCharacter j)) le f g = absurd (bad_unspelled j g f.tokens f.spelled)
  answers_are_one (Err (Syntax i)) (Err (BigNumber j)) le f g = absurd (big_unspelled j g f.tokens f.spelled)
  answers_are_one (Err (Syntax i)) (Err (Syntax j)) le f g = ap (λ n. Syntax n) (syntax_once text i j f g)
  answers_are_one (Err (Syntax i)) (Err (TooDeep j)) le f g = absurd (never_both text i j f g)
  answers_are_one (Err (TooDeep i)) (Ok y) le f g = absurd (not_too_deep text i f (source_of y) g)
  answers_are_one (Err (TooDeep i)) (Err (BadCharacter j)) le f g = absurd (bad_unspelled j g f.tokens f.spelled)
  answers_are_one (Err (TooDeep i)) (Err (BigNumber j)) le f g = absurd (big_unspelled j g f.tokens f.spelled)
  answers_are_one (Err (TooDeep i)) (Err (Syntax j)) le f g = absurd (never_both text j i g f)
  answers_are_one (Err (TooDeep i)) (Err (TooDeep j)) le f g = ap (λ n. TooDeep n) (deep_once text i j f g)
