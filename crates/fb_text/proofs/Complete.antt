-- Block types, systems and whole texts that are in the grammar are read, where that is so of expressions and of lists of statements.
use Rattle.std.proofs.Common.{◌≡◌, ℕ, true, false, cond, List, ◌∷◌, length, refl, sym, subst, arith, inl}
use Rattle.fb_words.specs.declared.mark.Mark.{Mark}
use Rattle.fb_words.specs.declared.mark.Mark.TheVariants as m
use Rattle.fb_model.specs.Tokens.{Token, token, mark}
use Rattle.fb_model.specs.Productions.{Gram, a_name}
use Rattle.fb_model.specs.StructuredText.{Expression, Statements}
use Rattle.fb_model.specs.Declarations.{BodyTree, SystemTree}
use Rattle.fb_model.specs.DeclarationGrammar.{IsEvent, IsVariable, IsBody, basic, composite, IsBlock, a_block, IsResource, a_resource, IsDevice, a_device, IsSystem, a_system}
use Rattle.fb_read.specs.Reading.{Read, is, next_is, items_at, closed_at, section_at}
use Rattle.fb_read.proofs.Readers.{Gets, Complete, never, Shorter, gets_then}
use Rattle.fb_read.proofs.Repetitions.{a_closed, many_complete, closed_complete, section_avoids, section_complete}
use Rattle.st_parse.specs.ExpressionReading.{continues}
use Rattle.st_parse.specs.Reading.{begins_entry}
use Rattle.st_parse.proofs.Shorter.{NoLonger}
use Rattle.fb_text.specs.Reading.{event_at, variable_at, network_at, chart_at, basic_at, composite_at, body_at, block_at, resource_at, device_at, system_at, file_at}
use Rattle.fb_text.proofs.Sound.{IsFront, a_front}
use Rattle.fb_text.proofs.Shorter.{event_shorter, event_avoids, variable_shorter, variable_avoids, block_shorter, block_avoids, resource_shorter, resource_avoids, device_shorter, device_avoids}
use Rattle.fb_text.proofs.VariableComplete.{event_complete, variable_complete}
use Rattle.fb_text.proofs.NetworkComplete.{network_complete}
use Rattle.fb_text.proofs.ChartComplete.{chart_avoids, chart_complete}

system_first : {ts rest : List Token} {x : SystemTree} → IsSystem ts x rest → next_is m.System ts ≡ true
system_first (a_system p q) = refl

-- the body of a block begins with FBS, VAR or EC_STATES
body_avoids : (E : Gram Expression) (L : Gram Statements) (k : Mark) → is m.Var k ≡ false → is m.EcStates k ≡ false → is m.Fbs k ≡ false → {ts rest : List Token} {b : BodyTree} → IsBody E L ts b rest → next_is k ts ≡ false
body_avoids E L k f g h (basic p) = chart_avoids E L k f g p
body_avoids E L k f g h (composite p) = h

module _ (Deep : Type 0) where
  -- ---- systems

  resource_complete : Complete Deep never IsResource resource_at
  unfolding resource_at
  resource_complete ts x rest (a_resource {s' = s} {e' = e} {mid = mid} {n = n} a_name p) st =
      gets_then _ _ (network_at mid) (n, token (mark m.EndResource) s e ∷ rest) (network_complete Deep m.EndResource refl refl refl s e mid rest n p) (inl refl)

  device_complete : Complete Deep never IsDevice device_at
  unfolding device_at
  device_complete ts x rest (a_device {mid = mid} {rs = rs} a_name h) st =
      gets_then _ _ (closed_at m.EndDevice resource_at mid) (rs, rest) (closed_complete Deep IsResource resource_at resource_shorter m.EndDevice resource_avoids resource_complete refl mid rs rest (a_closed h) refl) (inl refl)

  system_complete : Complete Deep never IsSystem system_at
  unfolding system_at
  system_complete ts x rest (a_system {mid = mid} {ds = ds} a_name h) st =
      gets_then _ _ (closed_at m.EndSystem device_at mid) (ds, rest) (closed_complete Deep IsDevice device_at device_shorter m.EndSystem device_avoids device_complete refl mid ds rest (a_closed h) refl) (inl refl)

  -- ---- blocks

  module _ (E : Gram Expression) (L : Gram Statements) (expr : Read Expression) (short : Shorter E) (whole : Complete Deep continues E expr) (list : Read Statements) (no_longer : NoLonger L) (inner : Complete Deep begins_entry L list) where
    body_complete : (s e : ℕ) (ts rest : List Token) (b : BodyTree) → IsBody E L ts b (token (mark m.EndFunctionBlock) s e ∷ rest) → Gets Deep (body_at expr list ts) (b, token (mark m.EndFunctionBlock) s e ∷ rest)
    unfolding body_at basic_at composite_at
    body_complete s e ts rest b (basic {c = c} p) =
        let end = token (mark m.EndFunctionBlock) s e ∷ rest in
        subst (λ t. Gets Deep (cond t (composite_at ts) (basic_at expr list ts)) (b, end)) (sym (chart_avoids E L m.Fbs refl refl p))
        (gets_then _ _ (chart_at expr list ts) (c, end) (chart_complete Deep E L expr short whole list no_longer inner s e ts rest c p) (inl refl))
    body_complete s e ts rest b (composite {n = n} p) =
        gets_then _ _ (network_at ts) (n, token (mark m.EndFunctionBlock) s e ∷ rest) (network_complete Deep m.EndFunctionBlock refl refl refl s e ts rest n p) (inl refl)

    block_complete : Complete Deep never (IsBlock E L) (block_at expr list)
    unfolding block_at
    block_complete ts x rest (a_block {s' = s} {e' = e} {ts₁ = ts₁} {ts₂ = ts₂} {ts₃ = ts₃} {ts₄ = ts₄} {ts₅ = ts₅} {is = is} {os = os} {us = us} {vs = vs} {b = b} a_name p q r t body) st =
        let end = token (mark m.EndFunctionBlock) s e ∷ rest in
        let events = section_complete Deep IsEvent event_at event_shorter m.EndEvent event_avoids (event_complete Deep) in
        let variables = section_complete Deep IsVariable variable_at variable_shorter m.EndVar variable_avoids (variable_complete Deep) in
        let no_event_input = section_avoids m.EventInput refl (section_avoids m.EventInput refl (section_avoids m.EventInput refl (body_avoids E L m.EventInput refl refl refl body) t) r) q in
        let no_event_output = section_avoids m.EventOutput refl (section_avoids m.EventOutput refl (body_avoids E L m.EventOutput refl refl refl body) t) r in
        let no_input = section_avoids m.VarInput refl (body_avoids E L m.VarInput refl refl refl body) t in
        let no_output = body_avoids E L m.VarOutput refl refl refl body in
        gets_then _ _ (section_at m.EventInput m.EndEvent event_at ts₁) (is, ts₂) (events m.EventInput refl refl ts₁ is ts₂ p no_event_input)
        (gets_then _ _ (section_at m.EventOutput m.EndEvent event_at ts₂) (os, ts₃) (events m.EventOutput refl refl ts₂ os ts₃ q no_event_output)
        (gets_then _ _ (section_at m.VarInput m.EndVar variable_at ts₃) (us, ts₄) (variables m.VarInput refl refl ts₃ us ts₄ r no_input)
        (gets_then _ _ (section_at m.VarOutput m.EndVar variable_at ts₄) (vs, ts₅) (variables m.VarOutput refl refl ts₄ vs ts₅ t no_output)
        (gets_then _ _ (body_at expr list ts₅) (b, end) (body_complete s e ts₅ rest b body)
        (inl refl)))))

    pub file_complete : Complete Deep never (IsFront E L) (file_at expr list)
    unfolding file_at
    file_complete ts x rest (a_front {mid = mid} {bs = bs} {y = y} p q) st =
        gets_then _ _ (items_at m.System (block_at expr list) ts) (bs, mid) (many_complete Deep (IsBlock E L) (block_at expr list) (block_shorter E L no_longer short) m.System (block_avoids E L) block_complete (length ts) ts mid bs (omega arith) p (system_first q))
        (gets_then _ _ (system_at mid) (y, rest) (system_complete mid y rest q refl) (inl refl))
