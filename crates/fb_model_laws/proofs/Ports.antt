-- The variables of services: their names differ, and what services write has their types.
use Rattle.std.proofs.Common.{◌≡◌, ℕ, ◌+◌, sym, ap, refl, true, false, ◌||◌, List, [], ◌∷◌, None, Some, ◌∙◌}
use Rattle.std.specs.Str.{bytes_eq}
use Rattle.fb_words.specs.declared.elem_type.ElemType.{ElemType}
use Rattle.fb_words.specs.declared.elem_type.ElemType.TheVariants as t
use Rattle.fb_model.specs.Names.{Name, is_in}
use Rattle.fb_model.specs.System.{Variable, Service, Input, Output, Publish, Subscribe, Delay, Cycle, Restart}
use Rattle.fb_model.specs.Services.{qo, received, sent, ports, service_inputs, service_outputs}
use Rattle.fb_model.specs.NetworkTyping.{variable_named}
use Rattle.fb_model.specs.Wires.{Serviced}
use Rattle.fb_model.specs.Store.{variable_names}
use Rattle.fb_model.specs.Ranges.{types_of, variables}
use Rattle.fb_model.proofs.Ports.{NoneIs, service_apart}
use Rattle.fb_model_laws.specs.Leaves.{StartsFit, AreFirst, IsGoodKind}
use Rattle.fb_model_laws.proofs.Typed.{good, zero_fits}

-- ---- services

ports_start : (f : ℕ → Name) (n : ℕ) (types : List ElemType) → StartsFit (ports f n types)
ports_start f n [] = tt
ports_start f n (type ∷ types) = ((zero_fits type, tt), ports_start f (n + 1) types)

pub inputs_start : (s : Service) → StartsFit (service_inputs s)
inputs_start (Input number types) = tt
inputs_start (Output number types) = ports_start sent 1 types
inputs_start (Publish channel types) = ((zero_fits t.Bool, tt), ports_start sent 1 types)
inputs_start (Subscribe channel types) = ((zero_fits t.Bool, tt), tt)
inputs_start Delay = ((zero_fits t.Time, tt), tt)
inputs_start Cycle = ((zero_fits t.Time, tt), tt)
inputs_start Restart = tt

outputs_start : (s : Service) → StartsFit (service_outputs s)
outputs_start (Input number types) = ports_start received 1 types
outputs_start (Output number types) = tt
outputs_start (Publish channel types) = ((zero_fits t.Bool, tt), tt)
outputs_start (Subscribe channel types) = ((zero_fits t.Bool, tt), ports_start received 1 types)
outputs_start Delay = tt
outputs_start Cycle = tt
outputs_start Restart = tt

pub service_good : (s : Service) → IsGoodKind (Serviced s)
service_good s = good (Serviced s) (service_apart s) (inputs_start s) (outputs_start s) tt

abbrev pub qo_port : Variable
qo_port = record { name = qo; type = t.Bool; length = None; start = None }

none_named : (x : Name) (vs : List Variable) → NoneIs x vs → is_in x (variable_names vs) ≡ false
none_named x [] h = refl
none_named x (v ∷ vs) h = ap (λ b. b || is_in x (variable_names vs)) h.0 ∙ none_named x vs h.1

none_ports : (f : ℕ → Name) (x : Name) → ((n : ℕ) → bytes_eq x (f n) ≡ false) → (n : ℕ) (types : List ElemType) → NoneIs x (ports f n types)
none_ports f x d n [] = tt
none_ports f x d n (type ∷ types) = (d n, none_ports f x d (n + 1) types)

-- QO is a BOOL, where it is an output
pub qo_named : (s : Service) → is_in qo (variable_names (service_outputs s)) ≡ true → variable_named (variables (Serviced s)) qo ≡ Some qo_port
qo_named (Input number types) h = absurd (let e : is_in qo (variable_names (ports received 1 types)) ≡ false = none_named qo (ports received 1 types) (none_ports received qo (λ n. refl) 1 types) in let c : true ≡ false = sym h ∙ e in cc)
qo_named (Output number types) h = absurd cc
qo_named (Publish channel types) h = (service_good (Publish channel types)).outputs_first.0
qo_named (Subscribe channel types) h = (service_good (Subscribe channel types)).outputs_first.0
qo_named Delay h = absurd cc
qo_named Cycle h = absurd cc
qo_named Restart h = absurd cc

-- the outputs that take values from outside
pub receivers : (s : Service) → AreFirst (variables (Serviced s)) (ports received 1 (types_of (Serviced s)))
receivers (Input number types) = (service_good (Input number types)).outputs_first
receivers (Output number types) = tt
receivers (Publish channel types) = tt
receivers (Subscribe channel types) = (service_good (Subscribe channel types)).outputs_first.1
receivers Delay = tt
receivers Cycle = tt
receivers Restart = tt
