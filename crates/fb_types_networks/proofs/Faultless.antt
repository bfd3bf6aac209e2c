-- What is well typed has no fault that a refusal could name, and one typed form.
use Rattle.std.proofs.Common.{◌≡◌, ◌⊎◌, inl, inr, Bool, true, false, cond, List, [], ◌∷◌, ◌++◌, map, Option, Some, None, option_map, Result, Ok, Err, IfOk, IfErr, refl, sym, ap, subst, ◌∙◌}
use Rattle.std.specs.List.{Any}
use Rattle.fb_words.specs.declared.elem_type.ElemType.{ElemType}
use Rattle.fb_model.specs.Names.{Name, is_in}
use Rattle.fb_model.specs.Productions.{Word}
use Rattle.fb_model.specs.Trees.{PortTree, ConnectionTree}
use Rattle.fb_model.specs.System.{Face, Body, Instances, End, Connection, Variable}
use Rattle.fb_model.specs.TextTyping.{widens}
use Rattle.fb_model.specs.Typing.{names_of, event_inputs_of, event_outputs_of, body_named}
use Rattle.fb_model.specs.Wires.{inputs_of}
use Rattle.fb_model.specs.NetworkTyping.{variable_named, outputs_of, IsEnd, own_port, port_of, IsValueEnd, own_value, value_at, IsEventConnection, AreEventConnections, no_event, an_event, IsValueConnection, AreValueConnections, no_value, a_value, passes, is_taken}
use Rattle.fb_faults.specs.declared.typing.TypeFault.{TypeFault}
use Rattle.fb_faults.specs.declared.typing.TypeFault.TheVariants as faults
use Rattle.fb_words.specs.declared.end.Way.{Way}
use Rattle.fb_words.specs.declared.end.Way.TheVariants as w
use Rattle.fb_words.specs.declared.end.Carried.{Carried}
use Rattle.fb_words.specs.declared.end.Carried.TheVariants.{Events, Values}
use Rattle.fb_types_networks.specs.Answers.{Finds}
use Rattle.fb_types_networks.proofs.Loops.{any_nil, any_cons}
use Rattle.fb_types_networks.specs.Ends.{carries_to}
use Rattle.fb_model.specs.NetworkFaults.{event_port, value_port, inner_port, IsPortEnd, own, within}
use Rattle.fb_model.specs.NetworkFaults as code
use Rattle.fb_model.specs.NetworkFaults.{no_memory_for_own, wrong_own, no_memory_for_inner, wrong_inner, IsEndFault, faulty_own, unknown_instance, faulty_inner, IsEventFault, faulty_source, faulty_target, passing, Among, IsValueFault, no_memory_for_value, faulty_origin, faulty_goal, passing_value, other_type, second_source, IsValuesFault, this_value, later_value}

-- ---- ends

-- the end that a port is
abbrev end_at : PortTree → End
end_at p = elim p.second [ None ↦ record { instance = None; port = p.first.text } | Some x ↦ record { instance = Some p.first.text; port = x.text } ]

-- an end that is found, with what it carries
abbrev Says : Way → Face → Instances → Word → Option Word → Carried → Type 0
Says way f inner x None c = code.own_port way f x.text ≡ Some c
Says way f inner x (Some y) c = (b : Body) × (body_named inner x.text ≡ Some b) × (inner_port way b y.text ≡ Some c)

some_none : {X : Type 0} {o : Option X} {x : X} → o ≡ Some x → o ≡ None → ⊥
some_none e f = let h = sym e ∙ f in cc

-- where an end is found, a fault is want of memory
end_true : (way : Way) (f : Face) (inner : Instances) (at : _) (p : PortTree) (c : Carried) (t : TypeFault) → Says way f inner p.first p.second c → IsEndFault way f inner at p t → t ≡ faults.OutOfMemory
end_true way f inner at p c t s (faulty_own n (no_memory_for_own e)) = e
end_true way f inner at p c t s (faulty_own n (wrong_own none h)) = absurd (some_none (subst (λ o. Says way f inner p.first o c) n s) none)
end_true way f inner at p c t s (unknown_instance {y = y} n none h) = let k = subst (λ o. Says way f inner p.first o c) n s in absurd (some_none k.1 none)
end_true way f inner at p c t s (faulty_inner n found (no_memory_for_inner e)) = e
end_true way f inner at p c t s (faulty_inner {y = y} {b = b} n found (wrong_inner none h)) =
    let k = subst (λ o. Says way f inner p.first o c) n s in
    let same : k.0 ≡ b = let e : Some k.0 ≡ Some b = sym k.1 ∙ found in cc in
    absurd (some_none (subst (λ d. inner_port way d y.text ≡ Some c) same k.2) none)

-- ends found are one end, and carry one thing
one_end : (way : Way) (f : Face) (inner : Instances) (p : PortTree) (e : End) (c : Carried) → IsPortEnd way f inner p e c → (e ≡ end_at p) × Says way f inner p.first p.second c
one_end way f inner p e c (own n h) = (h.1 ∙ ap (λ s. end_at (record { first = p.first; second = s })) (sym n), subst (λ o. Says way f inner p.first o c) (sym n) h.0)
one_end way f inner p e c (within {y = y} {b = b} n found h) = (h.1 ∙ ap (λ s. end_at (record { first = p.first; second = s })) (sym n), subst (λ o. Says way f inner p.first o c) (sym n) (b, found, h.0))

one_carried : (way : Way) (f : Face) (inner : Instances) (x : Word) (o : Option Word) (c d : Carried) → Says way f inner x o c → Says way f inner x o d → c ≡ d
one_carried way f inner x None c d a b = let e : Some c ≡ Some d = sym a ∙ b in cc
one_carried way f inner x (Some y) c d a b =
    let same : a.0 ≡ b.0 = let e : Some a.0 ≡ Some b.0 = sym a.1 ∙ b.1 in cc in
    let e : Some c ≡ Some d = sym (subst (λ k. inner_port way k y.text ≡ Some c) same a.2) ∙ b.2 in cc

-- ---- event connections

named_port : (names : List Name) (x : Name) → is_in x names ≡ true → event_port names x ≡ Some Events
named_port names x e = ap (λ b. cond b (Some Events) None) e

source_says : (f : Face) (inner : Instances) (p : PortTree) (e : End) → IsEnd (names_of f.event_inputs) event_outputs_of inner p e → (e ≡ end_at p) × Says w.EventSource f inner p.first p.second Events
source_says f inner p e (own_port {w = x} h) = (refl, named_port (names_of f.event_inputs) x.text h)
source_says f inner p e (port_of {w = x} {x = y} {body = b} found h) = (refl, (b, found, named_port (event_outputs_of b) y.text h))

target_says : (f : Face) (inner : Instances) (p : PortTree) (e : End) → IsEnd (names_of f.event_outputs) event_inputs_of inner p e → (e ≡ end_at p) × Says w.EventTarget f inner p.first p.second Events
target_says f inner p e (own_port {w = x} h) = (refl, named_port (names_of f.event_outputs) x.text h)
target_says f inner p e (port_of {w = x} {x = y} {body = b} found h) = (refl, (b, found, named_port (event_inputs_of b) y.text h))

-- a connection by its ends
abbrev at_ends : ConnectionTree → Connection
at_ends c = record { source = end_at c.source; target = end_at c.target }

not_both : (a b : Bool) → a ≡ b → a ≡ true → b ≡ false → ⊥
not_both a b e f g = let h : true ≡ false = sym f ∙ e ∙ g in cc

event_is : (f : Face) (inner : Instances) (c : ConnectionTree) (d : Connection) → IsEventConnection f inner c d → d ≡ at_ends c
event_is f inner c d h = let s = (source_says f inner c.source d.source h.source).0 in let t = (target_says f inner c.target d.target h.target).0 in rw (← s, ← t) refl

event_true : (f : Face) (inner : Instances) (c : ConnectionTree) (d : Connection) (t : TypeFault) → IsEventConnection f inner c d → IsEventFault f inner c t → t ≡ faults.OutOfMemory
event_true f inner c d t h (faulty_source x) = end_true w.EventSource f inner c.at c.source Events t (source_says f inner c.source d.source h.source).1 x
event_true f inner c d t h (faulty_target x) = end_true w.EventTarget f inner c.at c.target Events t (target_says f inner c.target d.target h.target).1 x
event_true f inner c d t h (passing {d = u} {e = v} {k = k} {l = l} a b p e) =
    let s = (one_end w.EventSource f inner c.source u k a).0 ∙ sym (source_says f inner c.source d.source h.source).0 in
    let g = (one_end w.EventTarget f inner c.target v l b).0 ∙ sym (target_says f inner c.target d.target h.target).0 in
    absurd (not_both (passes u v) (passes d.source d.target) (ap (λ i. passes i v) s ∙ ap (λ i. passes d.source i) g) p h.stays)

pub events_are : (f : Face) (inner : Instances) (cs : List ConnectionTree) (ds : List Connection) → AreEventConnections f inner cs ds → ds ≡ map at_ends cs
events_are f inner cs ds no_event = refl
events_are f inner cs ds (an_event {c = c} {cs = rest} {d = d} {ds = others} h t) = rw (event_is f inner c d h, events_are f inner rest others t) refl

pub events_true : (f : Face) (inner : Instances) (cs : List ConnectionTree) (ds : List Connection) (t : TypeFault) → AreEventConnections f inner cs ds → Any (λ c. IsEventFault f inner c t) cs → t ≡ faults.OutOfMemory
events_true f inner cs ds t no_event a = absurd (any_nil a)
events_true f inner cs ds t (an_event {c = c} {cs = rest} {d = d} {ds = others} h k) a = elim (any_cons c rest a) [ inl x ↦ event_true f inner c d t h x | inr x ↦ events_true f inner rest others t k x ]

-- ---- data connections

valued : (vs : List Variable) (x : Name) (v : Variable) → variable_named vs x ≡ Some v → value_port vs x ≡ Some (Values v.type)
valued vs x v e = ap (option_map (λ v. Values v.type)) e

origin_says : (f : Face) (inner : Instances) (p : PortTree) (e : End) (a : ElemType) → IsValueEnd f.inputs outputs_of inner p e a → (e ≡ end_at p) × Says w.ValueSource f inner p.first p.second (Values a)
origin_says f inner p e a (own_value {w = x} {v = v} h) = (refl, valued f.inputs x.text v h)
origin_says f inner p e a (value_at {w = x} {x = y} {body = b} {v = v} found h) = (refl, (b, found, valued (outputs_of b) y.text v h))

goal_says : (f : Face) (inner : Instances) (p : PortTree) (e : End) (a : ElemType) → IsValueEnd f.outputs inputs_of inner p e a → (e ≡ end_at p) × Says w.ValueTarget f inner p.first p.second (Values a)
goal_says f inner p e a (own_value {w = x} {v = v} h) = (refl, valued f.outputs x.text v h)
goal_says f inner p e a (value_at {w = x} {x = y} {body = b} {v = v} found h) = (refl, (b, found, valued (inputs_of b) y.text v h))

value_is : (f : Face) (inner : Instances) (c : ConnectionTree) (d : Connection) → IsValueConnection f inner c d → d ≡ at_ends c
value_is f inner c d h = let s = (origin_says f inner c.source d.source h.given h.source).0 in let t = (goal_says f inner c.target d.target h.taken h.target).0 in rw (← s, ← t) refl

value_true : (f : Face) (inner : Instances) (before : List End) (c : ConnectionTree) (d : Connection) (t : TypeFault) → IsValueConnection f inner c d → is_taken before d.target ≡ false → IsValueFault f inner before c t → t ≡ faults.OutOfMemory
value_true f inner before c d t h new (no_memory_for_value e) = e
value_true f inner before c d t h new (faulty_origin x) = end_true w.ValueSource f inner c.at c.source (Values h.given) t (origin_says f inner c.source d.source h.given h.source).1 x
value_true f inner before c d t h new (faulty_goal x) = end_true w.ValueTarget f inner c.at c.target (Values h.taken) t (goal_says f inner c.target d.target h.taken h.target).1 x
value_true f inner before c d t h new (passing_value {d = u} {e = v} {k = k} {l = l} a b p e) =
    let s = (one_end w.ValueSource f inner c.source u k a).0 ∙ sym (origin_says f inner c.source d.source h.given h.source).0 in
    let g = (one_end w.ValueTarget f inner c.target v l b).0 ∙ sym (goal_says f inner c.target d.target h.taken h.target).0 in
    absurd (not_both (passes u v) (passes d.source d.target) (ap (λ i. passes i v) s ∙ ap (λ i. passes d.source i) g) p h.stays)
value_true f inner before c d t h new (other_type {d = u} {e = v} {a = a} {b = b} from into narrow e) =
    let s = one_carried w.ValueSource f inner c.source.first c.source.second (Values a) (Values h.given) (one_end w.ValueSource f inner c.source u (Values a) from).1 (origin_says f inner c.source d.source h.given h.source).1 in
    let g = one_carried w.ValueTarget f inner c.target.first c.target.second (Values b) (Values h.taken) (one_end w.ValueTarget f inner c.target v (Values b) into).1 (goal_says f inner c.target d.target h.taken h.target).1 in
    let same : widens h.given h.taken ≡ widens a b = let x : h.given ≡ a = cc in let y : h.taken ≡ b = cc in ap (λ i. widens i h.taken) x ∙ ap (λ i. widens a i) y in
    absurd (not_both (widens h.given h.taken) (widens a b) same h.fits narrow)
value_true f inner before c d t h new (second_source {e = v} {l = l} into already e) =
    let g = (one_end w.ValueTarget f inner c.target v l into).0 ∙ sym (goal_says f inner c.target d.target h.taken h.target).0 in
    absurd (not_both (is_taken before v) (is_taken before d.target) (ap (is_taken before) g) already new)

pub values_are : (f : Face) (inner : Instances) (before : List End) (cs : List ConnectionTree) (ds : List Connection) → AreValueConnections f inner before cs ds → ds ≡ map at_ends cs
values_are f inner before cs ds no_value = refl
values_are f inner before cs ds (a_value {c = c} {cs = rest} {d = d} {ds = others} h n t) = rw (value_is f inner c d h, values_are f inner (before ++ d.target ∷ []) rest others t) refl

nothing_wrong : {f : Face} {inner : Instances} {before : List End} {t : TypeFault} → IsValuesFault f inner before [] t → ⊥
nothing_wrong x = elim x [ ]

pub values_true : (f : Face) (inner : Instances) (before : List End) (cs : List ConnectionTree) (ds : List Connection) (t : TypeFault) → AreValueConnections f inner before cs ds → IsValuesFault f inner before cs t → t ≡ faults.OutOfMemory
values_true f inner before cs ds t no_value x = absurd (nothing_wrong x)
values_true f inner before cs ds t (a_value {c = c} {cs = rest} {d = d} {ds = others} h n k) (this_value x) = value_true f inner before c d t h n x
values_true f inner before cs ds t (a_value {c = c} {cs = rest} {d = d} {ds = others} h n k) (later_value {d = e} g m x) =
    let same : e.target ≡ d.target = ap (λ i. i.target) (value_is f inner c e g ∙ sym (value_is f inner c d h)) in
    values_true f inner (before ++ d.target ∷ []) rest others t k (subst (λ i. IsValuesFault f inner (before ++ i ∷ []) rest t) same x)

-- ---- what is found

module _ {V : Type 0} (f : Face) (inner : Instances) (view : V → List Connection) where
  pub events_found : (cs : List ConnectionTree) (r : Result V TypeFault) → IfOk r (λ v. AreEventConnections f inner cs (view v)) → IfErr r (Among (IsEventFault f inner) cs)
      → (ds : List Connection) → AreEventConnections f inner cs ds → Finds view r ds
  events_found cs (Ok made) typed refused ds h = events_are f inner cs (view made) typed ∙ sym (events_are f inner cs ds h)
  events_found cs (Err t) typed (inl e) ds h = subst (λ s. Finds view (Err s) ds) (sym e) tt
  events_found cs (Err t) typed (inr a) ds h = subst (λ s. Finds view (Err s) ds) (sym (events_true f inner cs ds t h a)) tt

  pub values_found : (before : List End) (cs : List ConnectionTree) (r : Result V TypeFault) → IfOk r (λ v. AreValueConnections f inner before cs (view v))
      → IfErr r (λ t. (t ≡ faults.OutOfMemory) ⊎ IsValuesFault f inner before cs t) → (ds : List Connection) → AreValueConnections f inner before cs ds → Finds view r ds
  values_found before cs (Ok made) typed refused ds h = values_are f inner before cs (view made) typed ∙ sym (values_are f inner before cs ds h)
  values_found before cs (Err t) typed (inl e) ds h = subst (λ s. Finds view (Err s) ds) (sym e) tt
  values_found before cs (Err t) typed (inr a) ds h = subst (λ s. Finds view (Err s) ds) (sym (values_true f inner before cs ds t h a)) tt
