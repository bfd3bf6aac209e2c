-- Where the variables of services lie, and what fits in them.
use Rattle.std.proofs.Common.{◌≡◌, ℕ, ◌+◌, ◌<◌, ◌≤◌, ℤ, Bool, true, false, ◌||◌, List, [], ◌∷◌, ◌++◌, length, Option, Some, None, refl, sym, ap, ◌∙◌, arith, ◌⊎◌, inl, inr}
use Rattle.std.specs.Prelude.{if◌then◌else◌}
use Rattle.std.specs.Option.{option_map}
use Rattle.std.specs.List.{AllByRecursion}
use Rattle.std.specs.Str.{bytes_eq}
use Rattle.std.proofs.lemmas.Bool.{and_parts}
use Rattle.std.proofs.lemmas.List.{length-map}
use Rattle.fb_model.specs.Values.{in_type, all_in}
use Rattle.fb_words.specs.declared.elem_type.ElemType.{ElemType}
use Rattle.fb_model.specs.Names.{Name, is_in}
use Rattle.fb_model.specs.Language.{given}
use Rattle.fb_model.specs.System as book
use Rattle.fb_model.specs.BlockTyping.{extent}
use Rattle.fb_model.specs.NetworkTyping.{variable_named}
use Rattle.fb_model.specs.Services.{qo, received, sent, numbered, ports, service_inputs, service_outputs, ind, service_gives}
use Rattle.fb_model.specs.Wires.{Serviced}
use Rattle.fb_model.specs.Store.{variable_names}
use Rattle.fb_model.specs.Ranges.{length_in}
use Rattle.fb_model.proofs.Lists.{all_append, all_weaker}
use Rattle.fb_model.proofs.Placed.{name_same}
use Rattle.fb_types_services.specs.Views.{values_of}
use Rattle.st_exec.specs.Forms.{Form, plain_slot, size_of, slot_in, bounds_in, slot_count}
use Rattle.st_exec.specs.Cells.{names_in, shape_in}
use Rattle.st_exec.proofs.Slots.{shape_is, declared_within}
use Rattle.fb_chart.proofs.Acting.{in_front, in_back}
use Rattle.fb_chart.specs.Sampling.{AreStores}
use Rattle.fb_chart.specs.declared.standing.Ports.{Ports}
use Rattle.fb_chart.specs.Ports.{sends, receives, slots_of}
use Rattle.fb_chart.specs.Serving.{CanReply}
use Rattle.fb_chart.proofs.Replies.{numbered_length}

-- ---- how many

sends_few : (service : book.Service) → length (sends service) ≤ length (values_of service)
sends_few (book.Input n types) = omega arith
sends_few (book.Output n types) = omega arith
sends_few (book.Publish channel types) = omega arith
sends_few (book.Subscribe channel types) = omega arith
sends_few book.Delay = omega arith
sends_few book.Cycle = omega arith
sends_few book.Restart = omega arith

all_in_length : (types : List ElemType) (vs : List ℤ) → all_in types vs ≡ true → length vs ≤ length types
all_in_length [] [] h = omega arith
all_in_length [] (v ∷ vs) h = absurd cc
all_in_length (t ∷ types) [] h = absurd cc
all_in_length (t ∷ types) (v ∷ vs) h = omega (arith, all_in_length types vs (and_parts (in_type t v) (all_in types vs) h).1)

pub few_values : (types : List ElemType) (vs : List ℤ) → (vs ≡ []) ⊎ (all_in types vs ≡ true) → length vs ≤ length types
few_values types vs (inl e) = omega (arith, ap length e)
few_values types vs (inr e) = all_in_length types vs e

module _ (service : book.Service) (p : Ports) (forms : List Form) (values : List ℤ) (can : CanReply service p forms values) where
  pub message_fits : length values ≤ length p.received.items
  message_fits = omega (arith, can.message, ap length can.ports.received, length-map (numbered received 1 (receives service)) (plain_slot forms), numbered_length received 1 (receives service))

  pub sent_few : length p.sent.items ≤ 16
  sent_few = omega (arith, can.few, sends_few service, ap length can.ports.sent, length-map (numbered sent 1 (sends service)) (plain_slot forms), numbered_length sent 1 (sends service))

-- ---- where

ports_plain : (f : ℕ → Name) (n : ℕ) (types : List ElemType) → AllByRecursion (λ (v : book.Variable). v.length ≡ None) (ports f n types)
ports_plain f n [] = tt
ports_plain f n (t ∷ types) = (refl, ports_plain f (n + 1) types)

no_length : (vs : List book.Variable) (x : Name) → AllByRecursion (λ (v : book.Variable). v.length ≡ None) vs → length_in vs x ≡ None
no_length [] x h = refl
no_length (v ∷ vs) x h = by (bytes_eq x v.name) (no_length vs x h.1) where
  by : (e : Bool) → length_in vs x ≡ None → given (if e then Some v else variable_named vs x) (λ w. w.length) ≡ None
  by true again = h.0
  by false again = again

numbered_named : (f : ℕ → Name) (n : ℕ) (types : List ElemType) → AllByRecursion (λ (x : Name). is_in x (variable_names (ports f n types)) ≡ true) (numbered f n types)
numbered_named f n [] = tt
numbered_named f n (t ∷ types) = (
  ap (λ e. e || is_in (f n) (variable_names (ports f (n + 1) types))) (name_same (f n)),
  all_weaker (λ (x : Name). is_in x (variable_names (ports f (n + 1) types)) ≡ true) (λ (x : Name). is_in x (variable_names (ports f n (t ∷ types))) ≡ true) (numbered f (n + 1) types) (λ x h. later (bytes_eq x (f n)) _ h) (numbered_named f (n + 1) types),
)
  where
    later : (e c : Bool) → c ≡ true → (e || c) ≡ true
    later true c h = refl
    later false c h = h

no_bounds : (o : Option (ℤ × ℤ)) → option_map extent o ≡ None → o ≡ None
no_bounds None e = refl
no_bounds (Some x) e = absurd cc

-- the variables that receive are outputs
receives_out : (service : book.Service) → AllByRecursion (λ (x : Name). is_in x (variable_names (service_outputs service)) ≡ true) (numbered received 1 (receives service))
receives_out (book.Input n types) = numbered_named received 1 types
receives_out (book.Output n types) = tt
receives_out (book.Publish channel types) = tt
receives_out (book.Subscribe channel types) =
    all_weaker (λ (x : Name). is_in x (variable_names (ports received 1 types)) ≡ true) (λ (x : Name). is_in x (variable_names (service_outputs (book.Subscribe channel types))) ≡ true) (numbered received 1 types) (λ x h. later (bytes_eq x qo) _ h) (numbered_named received 1 types)
  where
    later : (e c : Bool) → c ≡ true → (e || c) ≡ true
    later true c h = refl
    later false c h = h
receives_out book.Delay = tt
receives_out book.Cycle = tt
receives_out book.Restart = tt

-- no variable of a service is an array
none_long : (service : book.Service) → AllByRecursion (λ (v : book.Variable). v.length ≡ None) (service_inputs service ++ (service_outputs service ++ []))
none_long service = all_append (λ (v : book.Variable). v.length ≡ None) (service_inputs service) (service_outputs service ++ []) (ins service) (all_append (λ (v : book.Variable). v.length ≡ None) (service_outputs service) [] (outs service) tt) where
  ins : (service : book.Service) → AllByRecursion (λ (v : book.Variable). v.length ≡ None) (service_inputs service)
  ins (book.Input n types) = tt
  ins (book.Output n types) = ports_plain sent 1 types
  ins (book.Publish channel types) = (refl, ports_plain sent 1 types)
  ins (book.Subscribe channel types) = (refl, tt)
  ins book.Delay = (refl, tt)
  ins book.Cycle = (refl, tt)
  ins book.Restart = tt

  outs : (service : book.Service) → AllByRecursion (λ (v : book.Variable). v.length ≡ None) (service_outputs service)
  outs (book.Input n types) = ports_plain received 1 types
  outs (book.Output n types) = tt
  outs (book.Publish channel types) = (refl, tt)
  outs (book.Subscribe channel types) = (refl, ports_plain received 1 types)
  outs book.Delay = tt
  outs book.Cycle = tt
  outs book.Restart = tt

module _ (service : book.Service) (own issued : List Form) (stores : AreStores (Serviced service) own issued) where
  -- the slot of an output lies before the end
  pub output_within : (x : Name) → is_in x (variable_names (service_outputs service)) ≡ true → plain_slot own x < size_of own
  output_within x h = by (bounds_in own x) refl where
    declared : is_in x (names_in own) ≡ true
    declared = stores.own_names x ∙ in_back x (service_inputs service) (service_outputs service ++ []) (in_front x (service_outputs service) [] h)

    plain : bounds_in own x ≡ None
    plain = sym (shape_is own x) ∙ no_bounds (shape_in own x) (stores.own_lengths x ∙ no_length (service_inputs service ++ (service_outputs service ++ [])) x (none_long service))

    by : (b : Option (ℤ × ℤ)) → bounds_in own x ≡ b → plain_slot own x < size_of own
    by None e =
        let slot : plain_slot own x ≡ slot_in own x = ap (λ (o : Option (ℤ × ℤ)). elim o [ None ↦ slot_in own x | Some b ↦ size_of own ]) e in
        let count : slot_count (bounds_in own x) ≡ 1 = ap slot_count e in
        omega (arith, declared_within own x declared, slot, count)
    by (Some b) e = let no : None ≡ Some b = sym plain ∙ e in absurd cc

  pub received_within : AllByRecursion (λ (n : ℕ). n < size_of own) (slots_of own (numbered received 1 (receives service)))
  received_within = go (numbered received 1 (receives service)) (receives_out service) where
    go : (xs : List Name) → AllByRecursion (λ (x : Name). is_in x (variable_names (service_outputs service)) ≡ true) xs → AllByRecursion (λ (n : ℕ). n < size_of own) (slots_of own xs)
    go [] h = tt
    go (x ∷ xs) h = (output_within x h.0, go xs h.1)

-- what an event output is WITH are outputs
pub gives_out : (service : book.Service) (o : Name) → AllByRecursion (λ (x : Name). is_in x (variable_names (service_outputs service)) ≡ true) (service_gives service o)
gives_out (book.Input n types) o = receives_out (book.Input n types)
gives_out (book.Output n types) o = tt
gives_out (book.Publish channel types) o = (refl, tt)
gives_out (book.Subscribe channel types) o = by (bytes_eq o ind) where
  by : (b : Bool) → AllByRecursion (λ (x : Name). is_in x (variable_names (service_outputs (book.Subscribe channel types))) ≡ true) (if b then qo ∷ numbered received 1 types else qo ∷ [])
  by true = (refl, receives_out (book.Subscribe channel types))
  by false = (refl, tt)
gives_out book.Delay o = tt
gives_out book.Cycle o = tt
gives_out book.Restart o = tt
