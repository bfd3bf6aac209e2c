-- Instances and networks have one typed form, and no fault.
use Rattle.std.proofs.Common.{◌≡◌, inl, inr, true, false, List, [], map, Option, Some, None, Result, Ok, Err, IfOk, IfErr, IfSome, IfNone, refl, sym, ap, subst, ◌∙◌}
use Rattle.fb_model.specs.Names.{Name, is_in}
use Rattle.fb_model.specs.Declarations.{InstanceTree, NetworkTree}
use Rattle.fb_model.specs.System as book
use Rattle.fb_model.specs.Services.{service_inputs}
use Rattle.fb_model.specs.Typing.{service_names, AreNew}
use Rattle.fb_model.specs.Wires.{inputs_of}
use Rattle.fb_model.specs.NetworkTyping.{AreParameters, IsServed, a_service, IsService, lacking, reserved, instance_texts, given_in, AreEventConnections, AreValueConnections}
use Rattle.fb_faults.specs.declared.typing.TypeFault.{TypeFault}
use Rattle.fb_faults.specs.declared.typing.TypeFault.TheVariants as faults
use Rattle.fb_types_blocks.proofs.Faultless.{no_repetition}
use Rattle.fb_types_blocks.proofs.Lists.{map_map}
use Rattle.fb_types_services.proofs.Services.{once, faultless, known}
use Rattle.fb_types_networks.specs.declared.typed.Instance.{Instance}
use Rattle.fb_types_networks.specs.declared.typed.Network.{Network}
use Rattle.fb_types_networks.specs.Views.{Wired, placed_of, wired_of}
use Rattle.fb_model.specs.NetworkFaults.{Placed, placed_in}
use Rattle.fb_types_networks.specs.Ends.{IsTabled}
use Rattle.fb_types_networks.specs.Answers.{AreNamed, IsPlaced, IsServedAs, IsWired, FindsPlaced, FindsServed, FindsWired}
use Rattle.fb_model.specs.NetworkFaults.{own_names}
use Rattle.fb_model.specs.NetworkFaults.{IsParametersFault, IsPlainFault, no_memory_for_plain, with_types, faulty_parameters, IsServedFault, no_memory_for_served, faulty_service, faulty_values, IsNetworkFault, no_memory_for_network, repeated_instance, faulty_events, faulty_values_of}
use Rattle.fb_types_networks.proofs.Parameters.{lacking_none, one_parameters, parameters_true}
use Rattle.fb_types_networks.proofs.Faultless.{events_are, events_true, values_are, values_true}

-- ---- instances of declared types

placed : (x y : Name) (qs rs : List book.Parameter) (b c : book.Body) → x ≡ y → qs ≡ rs → b ≡ c → (let p : Placed = (x, qs, b) in p ≡ (y, rs, c))
placed x y qs rs b c e f g = rw (e, f, g) refl

pub one_plain : (i : InstanceTree) (body : book.Body) (p q : Placed) → IsPlaced i body p → IsPlaced i body q → p ≡ q
one_plain i body p q h k = placed (p.0) (q.0) (p.1) (q.1) (p.2) (q.2) (h.name ∙ sym k.name) (one_parameters (inputs_of body) [] i.parameters (p.1) (q.1) h.parameters k.parameters) (h.body_is ∙ sym k.body_is)

pub plain_true : (i : InstanceTree) (body : book.Body) (p : Placed) (f : TypeFault) → IsPlaced i body p → IsPlainFault i body f → f ≡ faults.OutOfMemory
plain_true i body p f h (no_memory_for_plain e) = e
plain_true i body p f h (with_types x) = let e : None ≡ Some (x.1) = sym h.bare ∙ x.2 in absurd cc
plain_true i body p f h (faulty_parameters x) = parameters_true (inputs_of body) [] i.parameters (p.1) f h.parameters x

pub plain_found : (i : InstanceTree) (body : book.Body) (r : Result Instance TypeFault) → IfOk r (λ x. IsPlaced i body (placed_of x)) → IfErr r (IsPlainFault i body) → (p : Placed) → IsPlaced i body p → FindsPlaced r p
plain_found i body (Ok x) typed refused p h = one_plain i body (placed_of x) p typed h
plain_found i body (Err f) typed refused p h = subst (λ s. FindsPlaced (Err s) p) (sym (plain_true i body p f h refused)) tt

-- ---- instances of services

served_values : (i : InstanceTree) (s k : book.Service) (qs rs : List book.Parameter) → IsServed i s qs → IsServed i k rs → s ≡ k → qs ≡ rs
served_values i s k qs rs (a_service a x) (a_service b y) e =
    one_parameters (service_inputs s) [] (lacking (reserved s) i.parameters) qs rs x (subst (λ t. AreParameters (service_inputs t) [] (lacking (reserved t) i.parameters) rs) (sym e) y)

service_in : (i : InstanceTree) (s : book.Service) (qs : List book.Parameter) → IsServed i s qs → IsService i s
service_in i s qs (a_service a x) = a

pub one_served : (i : InstanceTree) (p q : Placed) → IsServedAs i p → IsServedAs i q → p ≡ q
one_served i p q h k =
    let same = once i h.service k.service (service_in i h.service (p.1) h.served) (service_in i k.service (q.1) k.served) in
    placed (p.0) (q.0) (p.1) (q.1) (p.2) (q.2) (h.name ∙ sym k.name) (served_values i h.service k.service (p.1) (q.1) h.served k.served same) (h.body_is ∙ ap book.Served same ∙ sym k.body_is)

pub service_name : (i : InstanceTree) (p : Placed) → IsServedAs i p → is_in i.type.text service_names ≡ true
service_name i p h = known i h.service (service_in i h.service (p.1) h.served)

values_of_service : (i : InstanceTree) (s k : book.Service) (qs : List book.Parameter) (f : TypeFault) → IsServed i s qs → s ≡ k → IsParametersFault (service_inputs k) [] (lacking (reserved k) i.parameters) f → f ≡ faults.OutOfMemory
values_of_service i s k qs f (a_service a x) e w =
    parameters_true (service_inputs s) [] (lacking (reserved s) i.parameters) qs f x (subst (λ t. IsParametersFault (service_inputs t) [] (lacking (reserved t) i.parameters) f) (sym e) w)

pub served_true : (i : InstanceTree) (p : Placed) (f : TypeFault) → IsServedAs i p → IsServedFault i f → f ≡ faults.OutOfMemory
served_true i p f h (no_memory_for_served e) = e
served_true i p f h (faulty_service x) = faultless i h.service f (service_in i h.service (p.1) h.served) x
served_true i p f h (faulty_values {s = k} is x) = values_of_service i h.service k (p.1) f h.served (once i h.service k (service_in i h.service (p.1) h.served) is) x

served_as : (i : InstanceTree) (s : book.Service) (qs : List book.Parameter) → IsServed i s qs → IsServedAs i (i.name.text, qs, book.Served s)
served_as i s qs h = record { service = s; name = refl; served = h; body_is = refl }

pub served_found : (i : InstanceTree) (r : Result (Option Instance) TypeFault) → IfOk r (λ o. IfSome o (λ x. IsServedAs i (placed_of x))) → IfOk r (λ o. IfNone o (is_in i.type.text service_names ≡ false)) → IfErr r (IsServedFault i)
    → (s : book.Service) (qs : List book.Parameter) → IsServed i s qs → FindsServed r (i.name.text, qs, book.Served s)
served_found i (Ok (Some x)) typed none refused s qs h = ap Some (one_served i (placed_of x) (i.name.text, qs, book.Served s) typed (served_as i s qs h))
served_found i (Ok None) typed none refused s qs h = let e : true ≡ false = sym (service_name i (i.name.text, qs, book.Served s) (served_as i s qs h)) ∙ none in absurd cc
served_found i (Err f) typed none refused s qs h = subst (λ t. FindsServed (Err t) (i.name.text, qs, book.Served s)) (sym (served_true i (i.name.text, qs, book.Served s) f (served_as i s qs h) refused)) tt

-- ---- networks

wired : (is js : List Placed) (es ds vs us : List book.Connection) → is ≡ js → es ≡ ds → vs ≡ us → (let w : Wired = (is, es, vs) in w ≡ (js, ds, us))
wired is js es ds vs us e f g = rw (e, f, g) refl

pub one_wired : (f : book.Face) (n : NetworkTree) (ps : List Placed) (v w : Wired) → IsWired f n ps v → IsWired f n ps w → v ≡ w
one_wired f n ps v w h k =
    wired (v.0) (w.0) (v.1) (w.1) (v.2) (w.2) (h.instances ∙ sym k.instances)
    (events_are f (placed_in ps) n.events (v.1) h.events ∙ sym (events_are f (placed_in ps) n.events (w.1) k.events))
    (values_are f (placed_in ps) (given_in (placed_in ps)) n.values (v.2) h.values ∙ sym (values_are f (placed_in ps) (given_in (placed_in ps)) n.values (w.2) k.values))

pub wired_true : (g : book.Face) (n : NetworkTree) (ps : List Placed) (w : Wired) (f : TypeFault) → IsWired g n ps w → IsNetworkFault g n ps f → f ≡ faults.OutOfMemory
wired_true g n ps w f h (no_memory_for_network e) = e
wired_true g n ps w f h (repeated_instance x) = no_repetition _ (map (λ i. i.name) n.instances) f x (subst (AreNew _) (sym (map_map (λ x. x.text) (λ i. i.name) n.instances)) h.names)
wired_true g n ps w f h (faulty_events (inl e)) = e
wired_true g n ps w f h (faulty_events (inr x)) = events_true g (placed_in ps) n.events (w.1) f h.events x
wired_true g n ps w f h (faulty_values_of x) = values_true g (placed_in ps) (given_in (placed_in ps)) n.values (w.2) f h.values x

pub wired_found : (g : book.Face) (n : NetworkTree) (ps : List Placed) (r : Result Network TypeFault) → IfOk r (λ x. IsWired g n ps (wired_of x)) → IfErr r (IsNetworkFault g n ps) → (w : Wired) → IsWired g n ps w → FindsWired r w
wired_found g n ps (Ok x) typed refused w h = one_wired g n ps (wired_of x) w typed h
wired_found g n ps (Err f) typed refused w h = subst (λ s. FindsWired (Err s) w) (sym (wired_true g n ps w f h refused)) tt

-- ---- what is made of its parts

pub plain_of : (i : InstanceTree) (body : book.Body) (qs : List book.Parameter) (p : Placed) → i.types ≡ None → AreParameters (inputs_of body) [] (lacking [] i.parameters) qs → p ≡ (i.name.text, qs, body) → IsPlaced i body p
plain_of i body qs p bare typed e =
    record {
      bare = bare;
      name = ap (λ t. t.0) e;
      parameters = subst (λ rs. AreParameters (inputs_of body) [] i.parameters rs) (sym (ap (λ t. t.1) e)) (subst (λ ps. AreParameters (inputs_of body) [] ps qs) (lacking_none i.parameters) typed);
      body_is = ap (λ t. t.2) e;
    }

pub served_of : (i : InstanceTree) (s : book.Service) (p : Placed) → IsService i s → p.0 ≡ i.name.text → p.2 ≡ book.Served s → AreParameters (service_inputs s) [] (lacking (reserved s) i.parameters) (p.1) → IsServedAs i p
served_of i s p is name body typed = record { service = s; name = name; served = a_service is typed; body_is = body }

pub tabled : (n : NetworkTree) (names : List Name) (is : List Instance) → names ≡ instance_texts n.instances → AreNamed n (map placed_of is) → IsTabled names is
tabled n names is e named = record { names_are = e ∙ sym named.names_are }

pub wired_of_parts : (f : book.Face) (n : NetworkTree) (is : List Instance) (es vs : List book.Connection) (w : Wired) → w ≡ (map placed_of is, es, vs) → AreNew (own_names f) (instance_texts n.instances)
    → AreEventConnections f (placed_in (map placed_of is)) n.events es → AreValueConnections f (placed_in (map placed_of is)) (given_in (placed_in (map placed_of is))) n.values vs → IsWired f n (map placed_of is) w
wired_of_parts f n is es vs w e new events values =
    record {
      names = new;
      instances = ap (λ t. t.0) e;
      events = subst (λ ds. AreEventConnections f (placed_in (map placed_of is)) n.events ds) (sym (ap (λ t. t.1) e)) events;
      values = subst (λ ds. AreValueConnections f (placed_in (map placed_of is)) (given_in (placed_in (map placed_of is))) n.values ds) (sym (ap (λ t. t.2) e)) values;
    }
