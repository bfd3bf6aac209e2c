-- Names of ports of services, and what their events are WITH.
use Rattle.std.proofs.Common.{◌≡◌, ℕ, ◌+◌, true, List, [], ◌∷◌, map, drop, string_bytes, Global, refl, sym, ap, ◌∙◌}
use Rattle.std.specs.Prelude.{if◌then◌else◌}
use Rattle.std.specs.Str.{bytes_eq}
use Rattle.std.specs.declared.string.String.{String}
use Rattle.fb_words.specs.declared.elem_type.ElemType.{ElemType}
use Rattle.fb_model.specs.Names.{Name}
use Rattle.fb_model.specs.System as book
use Rattle.fb_model.specs.Store.{variable_names}
use Rattle.fb_model.specs.Services.{numbered, ports, qi, qo, ind, req, sent, received, service_inputs, service_outputs, service_takes, service_gives}
use Rattle.fb_chart.specs.Ports.{sends, receives}

-- the names of ports
pub ports_named : (f : ℕ → Name) (n : ℕ) (types : List ElemType) → variable_names (ports f n types) ≡ numbered f n types
ports_named f n [] = refl
ports_named f n (type ∷ types) = ap (λ ns. f n ∷ ns) (ports_named f (n + 1) types)

pub behind_names : (names : List (String Global)) → map string_bytes (drop 1 names) ≡ drop 1 (map string_bytes names)
behind_names [] = refl
behind_names (n ∷ ns) = refl

-- ---- what events are WITH

pub input_gives : (s : book.Service) (n : ℕ) (types : List ElemType) (o : Name) → s ≡ book.Input n types → variable_names (service_outputs s) ≡ service_gives s o
input_gives s n types o is = ap (λ k. variable_names (service_outputs k)) is ∙ ports_named received 1 types ∙ sym (ap (λ k. service_gives k o) is)

pub subscribe_gives : (s : book.Service) (c : book.Channel) (types : List ElemType) (o : Name) → s ≡ book.Subscribe c types → bytes_eq o ind ≡ true → variable_names (service_outputs s) ≡ service_gives s o
subscribe_gives s c types o is e =
    ap (λ k. variable_names (service_outputs k)) is ∙ ap (λ ns. qo ∷ ns) (ports_named received 1 types)
    ∙ sym (ap (λ b. if b then qo ∷ numbered received 1 types else qo ∷ []) e) ∙ sym (ap (λ k. service_gives k o) is)

pub output_takes : (s : book.Service) (n : ℕ) (types : List ElemType) (e : Name) → s ≡ book.Output n types → variable_names (service_inputs s) ≡ service_takes s e
output_takes s n types e is = ap (λ k. variable_names (service_inputs k)) is ∙ ports_named sent 1 types ∙ sym (ap (λ k. service_takes k e) is)

pub publish_takes : (s : book.Service) (c : book.Channel) (types : List ElemType) (e : Name) → s ≡ book.Publish c types → bytes_eq e req ≡ true → variable_names (service_inputs s) ≡ service_takes s e
publish_takes s c types e is t =
    ap (λ k. variable_names (service_inputs k)) is ∙ ap (λ ns. qi ∷ ns) (ports_named sent 1 types)
    ∙ sym (ap (λ b. if b then qi ∷ numbered sent 1 types else qi ∷ []) t) ∙ sym (ap (λ k. service_takes k e) is)

-- ---- SD_1 and RD_1 and so on

pub input_receives : (s : book.Service) (n : ℕ) (types : List ElemType) → s ≡ book.Input n types → variable_names (service_outputs s) ≡ numbered received 1 (receives s)
input_receives s n types is = ap (λ k. variable_names (service_outputs k)) is ∙ ports_named received 1 types ∙ sym (ap (λ k. numbered received 1 (receives k)) is)

pub subscribe_receives : (s : book.Service) (c : book.Channel) (types : List ElemType) → s ≡ book.Subscribe c types → drop 1 (variable_names (service_outputs s)) ≡ numbered received 1 (receives s)
subscribe_receives s c types is = ap (λ k. drop 1 (variable_names (service_outputs k))) is ∙ ports_named received 1 types ∙ sym (ap (λ k. numbered received 1 (receives k)) is)

pub output_sends : (s : book.Service) (n : ℕ) (types : List ElemType) → s ≡ book.Output n types → variable_names (service_inputs s) ≡ numbered sent 1 (sends s)
output_sends s n types is = ap (λ k. variable_names (service_inputs k)) is ∙ ports_named sent 1 types ∙ sym (ap (λ k. numbered sent 1 (sends k)) is)

pub publish_sends : (s : book.Service) (c : book.Channel) (types : List ElemType) → s ≡ book.Publish c types → drop 1 (variable_names (service_inputs s)) ≡ numbered sent 1 (sends s)
publish_sends s c types is = ap (λ k. drop 1 (variable_names (service_inputs k))) is ∙ ports_named sent 1 types ∙ sym (ap (λ k. numbered sent 1 (sends k)) is)
