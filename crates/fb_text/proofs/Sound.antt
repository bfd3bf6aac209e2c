-- What is read of block types, systems and whole texts is in the grammar, where that is so of expressions and of lists of statements.
use Rattle.std.proofs.Common.{◌≡◌, ℕ, Bool, true, false, cond, List, ◌∷◌, length, refl, sym, subst}
use Rattle.fb_words.specs.declared.mark.Mark.TheVariants as m
use Rattle.fb_model.specs.Tokens.{Token, token, mark}
use Rattle.fb_model.specs.Productions.{Gram, IsName, IsMany}
use Rattle.fb_model.specs.StructuredText.{Expression, Statements}
use Rattle.fb_model.specs.Declarations.{BlockTree, ResourceTree, DeviceTree, SystemTree, SourceTree}
use Rattle.fb_model.specs.DeclarationGrammar.{IsEvent, IsVariable, IsNetwork, IsBody, basic, composite, IsBlock, a_block, IsResource, a_resource, IsDevice, a_device, IsSystem, a_system}
use Rattle.fb_read.specs.Reading.{Read, next_is, after, name_at, items_at, closed_at, section_at}
use Rattle.fb_read.proofs.Readers.{Meets, Sound, meets_then, seen, expect_then, opens, name_sound}
use Rattle.fb_read.proofs.Repetitions.{IsClosed, a_closed, many_sound, closed_sound, section_sound}
use Rattle.fb_text.specs.Reading.{event_at, variable_at, network_at, chart_at, basic_at, composite_at, body_at, block_at, resource_at, device_at, system_at, file_at}
use Rattle.fb_text.proofs.VariableSound.{event_sound, variable_sound}
use Rattle.fb_text.proofs.NetworkSound.{network_sound}
use Rattle.fb_text.proofs.ChartSound.{chart_sound}

-- ---- systems

pub resource_sound : Sound IsResource resource_at
unfolding resource_at
resource_sound ts = opens IsResource _ m.Resource ts (λ s e on.
    meets_then _ _ (name_at on) (name_sound on) (λ x mid p.
    meets_then _ _ (network_at mid) (network_sound mid) (λ n end q.
    expect_then (λ l. IsNetwork mid n l) _ _ m.EndResource end q (λ s' e' rest q'. a_resource p q'))))

device_of : {s e : ℕ} {ts mid rest : List Token} → (x : _) (rs : List ResourceTree) → IsName ts x mid → IsClosed m.EndDevice IsResource mid rs rest → IsDevice (token (mark m.Device) s e ∷ ts) (record { name = x; resources = rs }) rest
device_of x rs p (a_closed q) = a_device p q

pub device_sound : Sound IsDevice device_at
unfolding device_at
device_sound ts = opens IsDevice _ m.Device ts (λ s e on.
    meets_then _ _ (name_at on) (name_sound on) (λ x mid p.
    meets_then _ _ (closed_at m.EndDevice resource_at mid) (closed_sound IsResource resource_at resource_sound m.EndDevice mid) (λ rs rest q. device_of x rs p q)))

system_of : {s e : ℕ} {ts mid rest : List Token} → (x : _) (ds : List DeviceTree) → IsName ts x mid → IsClosed m.EndSystem IsDevice mid ds rest → IsSystem (token (mark m.System) s e ∷ ts) (record { name = x; devices = ds }) rest
system_of x ds p (a_closed q) = a_system p q

pub system_sound : Sound IsSystem system_at
unfolding system_at
system_sound ts = opens IsSystem _ m.System ts (λ s e on.
    meets_then _ _ (name_at on) (name_sound on) (λ x mid p.
    meets_then _ _ (closed_at m.EndSystem device_at mid) (closed_sound IsDevice device_at device_sound m.EndSystem mid) (λ ds rest q. system_of x ds p q)))

-- ---- blocks

-- block types and a system, and what follows them
pub data IsFront (E : Gram Expression) (L : Gram Statements) : List Token → SourceTree → List Token → Type 0 where
  a_front : {ts mid rest : List Token} {bs : List BlockTree} {y : SystemTree} → IsMany (IsBlock E L) ts bs mid → IsSystem mid y rest → IsFront E L ts (record { blocks = bs; system = y }) rest

module _ (E : Gram Expression) (L : Gram Statements) (expr : Read Expression) (sound : Sound E expr) (list : Read Statements) (list_sound : Sound L list) where
  basic_sound : Sound (IsBody E L) (basic_at expr list)
  unfolding basic_at
  basic_sound ts = meets_then _ _ (chart_at expr list ts) (chart_sound E L expr sound list list_sound ts) (λ c rest p. basic p)

  composite_sound : (s e : ℕ) (ts : List Token) → Meets (IsBody E L (token (mark m.Fbs) s e ∷ ts)) (composite_at (token (mark m.Fbs) s e ∷ ts))
  unfolding composite_at
  composite_sound s e ts = meets_then _ _ (network_at (token (mark m.Fbs) s e ∷ ts)) (network_sound (token (mark m.Fbs) s e ∷ ts)) (λ n rest p. composite p)

  body_sound : Sound (IsBody E L) (body_at expr list)
  unfolding body_at
  body_sound ts = by (next_is m.Fbs ts) refl where
    by : (b : Bool) → next_is m.Fbs ts ≡ b → Meets (IsBody E L ts) (cond b (composite_at ts) (basic_at expr list ts))
    by true e = let q = seen (λ l. ts ≡ l) m.Fbs ts e refl in subst (λ l. Meets (IsBody E L l) (composite_at l)) (sym q.2) (composite_sound q.0 q.1 (after ts))
    by false e = basic_sound ts

  pub block_sound : Sound (IsBlock E L) (block_at expr list)
  unfolding block_at
  block_sound ts = opens (IsBlock E L) _ m.FunctionBlock ts (λ s e ts₀.
      meets_then _ _ (name_at ts₀) (name_sound ts₀) (λ x ts₁ p₁.
      meets_then _ _ (section_at m.EventInput m.EndEvent event_at ts₁) (section_sound IsEvent event_at event_sound m.EventInput m.EndEvent ts₁) (λ is ts₂ p₂.
      meets_then _ _ (section_at m.EventOutput m.EndEvent event_at ts₂) (section_sound IsEvent event_at event_sound m.EventOutput m.EndEvent ts₂) (λ os ts₃ p₃.
      meets_then _ _ (section_at m.VarInput m.EndVar variable_at ts₃) (section_sound IsVariable variable_at variable_sound m.VarInput m.EndVar ts₃) (λ us ts₄ p₄.
      meets_then _ _ (section_at m.VarOutput m.EndVar variable_at ts₄) (section_sound IsVariable variable_at variable_sound m.VarOutput m.EndVar ts₄) (λ vs ts₅ p₅.
      meets_then _ _ (body_at expr list ts₅) (body_sound ts₅) (λ b ts₆ p₆.
      expect_then (λ l. IsBody E L ts₅ b l) _ _ m.EndFunctionBlock ts₆ p₆ (λ s' e' rest p₇. a_block p₁ p₂ p₃ p₄ p₅ p₇))))))))

  pub file_sound : Sound (IsFront E L) (file_at expr list)
  unfolding file_at
  file_sound ts =
      meets_then _ _ (items_at m.System (block_at expr list) ts) (many_sound (IsBlock E L) (block_at expr list) block_sound m.System (length ts) ts) (λ bs mid p.
      meets_then _ _ (system_at mid) (system_sound mid) (λ y rest q. a_front p.0 q))
