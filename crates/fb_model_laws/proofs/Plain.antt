-- Texts declare arrays as internal variables alone, and give these no start values.
use Rattle.std.proofs.Common.{◌≡◌, ◌⊎◌, refl, inl, inr, List, None}
use Rattle.std.specs.List.{AllByRecursion}
use Rattle.fb_words.specs.declared.mark.Mark.{Mark}
use Rattle.fb_model.specs.Tokens.{Token}
use Rattle.fb_model.specs.Productions.{Gram, IsMany, none, more, IsSection, absent, present}
use Rattle.fb_model.specs.Declarations.{VariableTree, BodyTree, Chart, Network, BlockTree, SourceTree}
use Rattle.fb_model.specs.StructuredText.{Expression, Statements}
use Rattle.fb_model.specs.DeclarationGrammar.{IsVariable, of_type, IsInternal, a_variable, an_array, a_chart, IsBody, basic, composite, IsBlock, a_block, IsFile, a_file}

-- what is so of each item is so of all
Each : {A : Type 0} → (A → Type 0) → Gram A → Type 0
Each P G = (ts : List Token) (x : _) (rest : List Token) → G ts x rest → P x

each_of_many : {A : Type 0} (P : A → Type 0) {G : Gram A} → Each P G → {ts rest : List Token} {xs : List A} → IsMany G ts xs rest → AllByRecursion P xs
unfolding Each
each_of_many P t none = tt
each_of_many P t (more {ts = ts} {mid = mid} {x = x} g gs) = (t ts x mid g, each_of_many P t gs)

each_of_section : {A : Type 0} (P : A → Type 0) {G : Gram A} → Each P G → {k l : Mark} {ts rest : List Token} {xs : List A} → IsSection k l G ts xs rest → AllByRecursion P xs
each_of_section P t absent = tt
each_of_section P t (present gs) = each_of_many P t gs

-- ---- variables

abbrev pub IsSimple : VariableTree → Type 0
IsSimple v = v.bounds ≡ None

-- no array, or no start value
abbrev pub IsStartless : VariableTree → Type 0
IsStartless v = (v.bounds ≡ None) ⊎ (v.start ≡ None)

simple : Each IsSimple IsVariable
unfolding Each
simple ts x rest (of_type a b c) = refl

startless : Each IsStartless IsInternal
unfolding Each
startless ts x rest (a_variable (of_type a b c)) = inl refl
startless ts x rest (an_array a b c) = inr refl

-- ---- blocks

abbrev pub IsPlainBody : BodyTree → Type 0
IsPlainBody (Chart c) = AllByRecursion IsStartless c.internals
IsPlainBody (Network n) = Unit {0}

pub record IsPlain (b : BlockTree) : Type 0 where
  pub inputs : AllByRecursion IsSimple b.inputs
  pub outputs : AllByRecursion IsSimple b.outputs
  pub body : IsPlainBody b.body

module _ (E : Gram Expression) (L : Gram Statements) where
  plain_body : Each IsPlainBody (IsBody E L)
  unfolding Each
  plain_body ts x rest (basic (a_chart vs a b c)) = each_of_section IsStartless startless vs
  plain_body ts x rest (composite n) = tt

  plain_block : Each IsPlain (IsBlock E L)
  unfolding Each
  plain_block ts x rest (a_block {ts₅ = ts₅} {b = b} n is os us vs h) =
      record { inputs = each_of_section IsSimple simple us; outputs = each_of_section IsSimple simple vs; body = plain_body ts₅ b _ h }

  pub blocks_plain : (ts : List Token) (source : SourceTree) → IsFile E L ts source → AllByRecursion IsPlain source.blocks
  blocks_plain ts source (a_file bs y) = each_of_many IsPlain plain_block bs
