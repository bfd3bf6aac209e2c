-- Declared types have one body, and no fault.
use Rattle.std.proofs.Common.{◌≡◌, ◌⊎◌, inl, inr, Bool, true, false, ◌||◌, ℕ, zero, suc, ◌<◌, ◌≤◌, List, [], ◌∷◌, ◌++◌, map, length, get_or, Some, None, refl, sym, ap, subst, ◌∙◌, arith}
use Rattle.std.specs.Prelude.{codes}
use Rattle.std.proofs.Math.Nat.{max-le, le-max_left, le-max_right}
use Rattle.std.specs.List.{Contains}
use Rattle.std.specs.Str.{bytes_eq}
use Rattle.std.proofs.lemmas.List.{length-map, get_or-map}
use Rattle.fb_model.specs.Names.{Name, is_in}
use Rattle.fb_model.specs.Declarations.{ChartTree, InstanceTree, NetworkTree, Chart, Network, BlockTree}
use Rattle.fb_model.specs.Trees.{ConnectionTree}
use Rattle.fb_model.specs.System as book
use Rattle.fb_model.specs.Typing.{service_names, AreNew, AreDistinct, names_of}
use Rattle.fb_model.specs.Store.{variable_names}
use Rattle.fb_model.specs.BlockTyping.{Declared, IsBasic, IsFace, face_names, names_in, typed_event, variable_of, event_texts}
use Rattle.fb_model.specs.NetworkTyping.{type_named, most_deep, IsMade, a_basic, a_composite, IsInstance, of_type, of_service, AreInstances, no_instance, an_instance, AreParameters, IsServed, a_service, given_in, AreEventConnections, AreValueConnections, instance_texts}
use Rattle.fb_model.specs.Wires.{inputs_of}
use Rattle.fb_faults.specs.declared.typing.TypeFault.{TypeFault}
use Rattle.fb_faults.specs.declared.typing.TypeFault.TheVariants as faults
use Rattle.fb_types_blocks.proofs.Single.{one_basic, one_interface}
use Rattle.fb_types_blocks.proofs.Faultless.{no_face_fault}
use Rattle.fb_types_blocks.proofs.FaultlessBlocks.{no_block_fault}
use Rattle.fb_types_blocks.proofs.Lists.{map_map, new_split}
use Rattle.fb_types_blocks.proofs.Refused.{either_of}
use Rattle.fb_model.specs.ServiceFaults.{IsServiceFault, faulty_number, faulty_channel, with_brackets}
use Rattle.fb_types_services.proofs.Services.{known}
use Rattle.fb_types_networks.specs.Views.{Wired}
use Rattle.fb_model.specs.NetworkFaults.{Placed, placed_in}
use Rattle.fb_types_networks.specs.Answers.{IsPlaced, IsServedAs}
use Rattle.fb_model.specs.NetworkFaults.{own_names}
use Rattle.fb_model.specs.NetworkFaults.{IsServedFault, no_memory_for_served, faulty_service, faulty_values, IsPlainFault, IsNetworkFault}
use Rattle.fb_types_networks.proofs.Faultless.{events_are, values_are}
use Rattle.fb_types_networks.proofs.Networks.{one_plain, one_served, plain_true, served_true, wired_true}
use Rattle.fb_model.specs.Nesting.{deep, deepest, IsOf, Uses, Leads, itself, further, Nests, no_composite, innermost, outside}
use Rattle.fb_model.specs.SourceFaults as fault

-- ---- one of a list

pub among_cons : {X : Type 0} (y : X) (ys : List X) (x : X) → Contains (y ∷ ys) x → (y ≡ x) ⊎ Contains ys x
among_cons y ys x (zero, l, e) = inl e
among_cons y ys x (suc k, l, e) = inr (k, omega (arith, l), e)

pub among_nil : {X : Type 0} {x : X} → Contains [] x → ⊥
among_nil h = omega (arith, h.1)

pub among_first : {X : Type 0} (x : X) (xs : List X) → Contains (x ∷ xs) x
among_first x xs = (0, omega arith, refl)

pub among_later : {X : Type 0} (y : X) (xs : List X) (x : X) → Contains xs x → Contains (y ∷ xs) x
among_later y xs x (k, l, e) = (suc k, omega (arith, l), e)

pub among_at : {X Y : Type 0} (f : X → Y) (xs : List X) (i : ℕ) (x : X) → i < length xs → x ≡ get_or xs i x → Contains (map f xs) (f x)
among_at f xs i x l e = (i, subst (λ n. i < n) (sym (length-map xs f)) l, get_or-map f xs i x (f x) l ∙ ap f (sym e))

-- ---- parts of declarations

same_chart : {x y : ChartTree} → Chart x ≡ Chart y → x ≡ y
same_chart e = cc

same_network : {x y : NetworkTree} → Network x ≡ Network y → x ≡ y
same_network e = cc

no_chart : {x : ChartTree} {y : NetworkTree} → Chart x ≡ Network y → ⊥
no_chart e = cc

same_some : {X : Type 0} {x y : X} → Some x ≡ Some y → x ≡ y
same_some e = cc

some_none : {X : Type 0} {x : X} → Some x ≡ None → ⊥
some_none e = cc

true_false : true ≡ false → ⊥
true_false e = cc

pub one_type : (bs : List BlockTree) (x : Name) (b c : BlockTree) → type_named bs x ≡ Some b → type_named bs x ≡ Some c → b ≡ c
one_type bs x b c e f = same_some (sym e ∙ f)

-- the names of an interface are those of its declaration
event_names : (es : List _) → names_of (map typed_event es) ≡ event_texts es
event_names es = map_map (λ e. e.name) typed_event es

variable_texts : (ds : List Declared) → variable_names (map variable_of ds) ≡ names_in ds
variable_texts [] = refl
variable_texts (d ∷ ds) = ap (λ l. d.name ∷ l) (variable_texts ds)

pub own_face : (b : BlockTree) (ins outs : List Declared) (f : book.Face) → IsFace b ins outs f → own_names f ≡ face_names b ins outs
own_face b ins outs f h =
    ap own_names h.face
    ∙ ap (λ l. l ++ names_of (map typed_event b.event_outputs) ++ variable_names (map variable_of ins) ++ variable_names (map variable_of outs)) (event_names b.event_inputs)
    ∙ ap (λ l. event_texts b.event_inputs ++ l ++ variable_names (map variable_of ins) ++ variable_names (map variable_of outs)) (event_names b.event_outputs)
    ∙ ap (λ l. event_texts b.event_inputs ++ event_texts b.event_outputs ++ l ++ variable_names (map variable_of outs)) (variable_texts ins)
    ∙ ap (λ l. event_texts b.event_inputs ++ event_texts b.event_outputs ++ names_in ins ++ l) (variable_texts outs)

service_known : (i : InstanceTree) (s : book.Service) (qs : List book.Parameter) → IsServed i s qs → is_in i.type.text service_names ≡ true
service_known i s qs (a_service a ps) = known i s a

-- ---- how deep composites nest

mutual
  pub made_deep : (bs : List BlockTree) (d : ℕ) (b : BlockTree) (x : book.Body) → IsMade bs d b x → deep x ≤ d
  made_deep bs d b x (a_basic e k) = omega arith
  made_deep bs d b x (a_composite {d = e} {n = n} {inner = inner} c f names is es vs) = let l = instances_deep bs e n.instances inner is in omega (arith, l)

  instance_deep : (bs : List BlockTree) (d : ℕ) (i : InstanceTree) (qs : List book.Parameter) (x : book.Body) → IsInstance bs d i qs x → deep x ≤ d
  instance_deep bs d i qs x (of_type {b = b} s t n m ps) = made_deep bs d b x m
  instance_deep bs d i qs x (of_service s) = omega arith

  pub instances_deep : (bs : List BlockTree) (d : ℕ) (is : List InstanceTree) (inner : book.Instances) → AreInstances bs d is inner → deepest inner ≤ d
  instances_deep bs d is inner no_instance = omega arith
  instances_deep bs d is inner (an_instance {i = i} {is = js} {qs = qs} {body = body} {rest = rest} h t) = max-le (instance_deep bs d i qs body h) (instances_deep bs d js rest t)

-- what is made is made too where composites may nest as deep as they do
mutual
  pub again : (bs : List BlockTree) (d e : ℕ) (b : BlockTree) (x : book.Body) → IsMade bs d b x → deep x ≤ e → IsMade bs e b x
  again bs d e b x (a_basic c k) l = a_basic c k
  again bs d zero b x (a_composite c f names is es vs) l = absurd (omega (arith, l))
  again bs d (suc e) b x (a_composite {d = d'} {n = n} {inner = inner} c f names is es vs) l = a_composite c f names (all_again bs d' e n.instances inner is (omega (arith, l))) es vs

  instance_again : (bs : List BlockTree) (d e : ℕ) (i : InstanceTree) (qs : List book.Parameter) (x : book.Body) → IsInstance bs d i qs x → deep x ≤ e → IsInstance bs e i qs x
  instance_again bs d e i qs x (of_type {b = b} s t n m ps) l = of_type s t n (again bs d e b x m l) ps
  instance_again bs d e i qs x (of_service s) l = of_service s

  pub all_again : (bs : List BlockTree) (d e : ℕ) (is : List InstanceTree) (inner : book.Instances) → AreInstances bs d is inner → deepest inner ≤ e → AreInstances bs e is inner
  all_again bs d e is inner no_instance l = no_instance
  all_again bs d e is inner (an_instance {i = i} {is = js} {qs = qs} {body = body} {rest = rest} h t) l =
      let m = le-max_left (deep body) (deepest rest) in
      let n = le-max_right (deep body) (deepest rest) in
      an_instance (instance_again bs d e i qs body h (omega (arith, l, m))) (all_again bs d e js rest t (omega (arith, l, n)))

-- composites nest in a type no deeper than is said where it is made
mutual
  pub nests_within : (bs : List BlockTree) (d : ℕ) (b : BlockTree) (x : book.Body) (n : ℕ) → IsMade bs d b x → Nests bs b n → n ≤ d
  nests_within bs d b x n m no_composite = omega arith
  nests_within bs d b x n (a_basic c k) (innermost e) = absurd (no_chart (sym c ∙ e))
  nests_within bs d b x n (a_composite c f names is es vs) (innermost e) = omega arith
  nests_within bs d b x n (a_basic c k) (outside u t) = absurd (no_chart (sym c ∙ u.composite))
  nests_within bs d b x n (a_composite {d = e} {n = w} {inner = inner} c f names is es vs) (outside {c = c'} {i = i} {n = m} u t) =
      let l = all_within bs e w.instances inner i c' m is (subst (λ (v : NetworkTree). Contains v.instances i) (same_network (sym u.composite ∙ c)) u.among) u.of_type t in
      omega (arith, l)

  pub all_within : (bs : List BlockTree) (d : ℕ) (is : List InstanceTree) (inner : book.Instances) (i : InstanceTree) (c : BlockTree) (n : ℕ) → AreInstances bs d is inner → Contains is i → IsOf bs i c → Nests bs c n → n ≤ d
  all_within bs d is inner i c n no_instance a o t = absurd (among_nil a)
  all_within bs d is inner i c n (an_instance {i = j} {is = js} {qs = qs} {body = body} {rest = rest} h r) a o t =
      either_of (λ e. instance_within bs d j qs body c n h (subst (λ k. IsOf bs k c) (sym e) o) t) (λ m. all_within bs d js rest i c n r m o t) (among_cons j js i a)

  instance_within : (bs : List BlockTree) (d : ℕ) (i : InstanceTree) (qs : List book.Parameter) (x : book.Body) (c : BlockTree) (n : ℕ) → IsInstance bs d i qs x → IsOf bs i c → Nests bs c n → n ≤ d
  instance_within bs d i qs x c n (of_type {b = b} s t w m ps) o k = nests_within bs d b x n m (subst (λ a. Nests bs a n) (one_type bs i.type.text c b o.named t) k)
  instance_within bs d i qs x c n (of_service {s = s} h) o k = absurd (true_false (sym (service_known i s qs h) ∙ o.declared))

-- ---- rings

abbrev Below : List BlockTree → ℕ → BlockTree → Type 0
Below bs d c = (e : ℕ) × (y : book.Body) × (e < d) × IsMade bs e c y

instance_made : (bs : List BlockTree) (d : ℕ) (i : InstanceTree) (qs : List book.Parameter) (x : book.Body) (c : BlockTree) → IsInstance bs d i qs x → IsOf bs i c → (y : book.Body) × IsMade bs d c y
instance_made bs d i qs x c (of_type {b = b} s t n m ps) o = (x, subst (λ a. IsMade bs d a x) (one_type bs i.type.text b c t o.named) m)
instance_made bs d i qs x c (of_service {s = s} h) o = absurd (true_false (sym (service_known i s qs h) ∙ o.declared))

all_made : (bs : List BlockTree) (d : ℕ) (is : List InstanceTree) (inner : book.Instances) (i : InstanceTree) (c : BlockTree) → AreInstances bs d is inner → Contains is i → IsOf bs i c → (y : book.Body) × IsMade bs d c y
all_made bs d is inner i c no_instance a o = absurd (among_nil a)
all_made bs d is inner i c (an_instance {i = j} {is = js} {qs = qs} {body = body} {rest = rest} h r) a o =
    either_of (λ e. instance_made bs d j qs body c h (subst (λ k. IsOf bs k c) (sym e) o)) (λ m. all_made bs d js rest i c r m o) (among_cons j js i a)

-- a type that a composite uses is made with composites nested less deep
part_made : (bs : List BlockTree) (d : ℕ) (b : BlockTree) (x : book.Body) (i : InstanceTree) (c : BlockTree) → IsMade bs d b x → Uses bs b i c → Below bs d c
part_made bs d b x i c (a_basic e k) u = absurd (no_chart (sym e ∙ u.composite))
part_made bs d b x i c (a_composite {d = e} {n = n} {inner = inner} q f names is es vs) u =
    let m = all_made bs e n.instances inner i c is (subst (λ (v : NetworkTree). Contains v.instances i) (same_network (sym u.composite ∙ q)) u.among) u.of_type in
    (e, m.0, omega arith, m.1)

led_made : (bs : List BlockTree) (d : ℕ) (b : BlockTree) (x : book.Body) (c : BlockTree) → IsMade bs d b x → Leads bs b c → (e : ℕ) × (y : book.Body) × (e ≤ d) × IsMade bs e c y
led_made bs d b x c m itself = (d, x, omega arith, m)
led_made bs d b x c m (further {c = a} {i = i} l u) =
    let p = led_made bs d b x a m l in
    let q = part_made bs p.0 a p.1 i c p.3 u in
    (q.0, q.1, omega (arith, p.2, q.2), q.3)

-- what is made is on no ring
pub no_ring : (n : ℕ) (bs : List BlockTree) (d : ℕ) (b : BlockTree) (x : book.Body) (i : InstanceTree) (c : BlockTree) → d ≤ n → IsMade bs d b x → Uses bs b i c → Leads bs c b → ⊥
no_ring zero bs d b x i c l m u w = let p = part_made bs d b x i c m u in omega (arith, l, p.2)
no_ring (suc n) bs d b x i c l m u w =
    let p = part_made bs d b x i c m u in
    let q = led_made bs p.0 c p.1 b p.3 w in
    no_ring n bs q.0 b q.1 i c (omega (arith, l, p.2, q.2)) q.3 u w

-- ---- one body

same_events : (f g : book.Face) (inner other : book.Instances) (cs : List ConnectionTree) (es ds : List book.Connection) → AreEventConnections f inner cs es → AreEventConnections g other cs ds → es ≡ ds
same_events f g inner other cs es ds h k = events_are f inner cs es h ∙ sym (events_are g other cs ds k)

same_values : (f g : book.Face) (inner other : book.Instances) (cs : List ConnectionTree) (es ds : List book.Connection) → AreValueConnections f inner (given_in inner) cs es → AreValueConnections g other (given_in other) cs ds → es ≡ ds
same_values f g inner other cs es ds h k = values_are f inner (given_in inner) cs es h ∙ sym (values_are g other (given_in other) cs ds k)

same_parameters : (i : InstanceTree) (x y : book.Body) (qs rs : List book.Parameter) → x ≡ y → i.types ≡ None → AreParameters (inputs_of x) [] i.parameters qs → AreParameters (inputs_of y) [] i.parameters rs → qs ≡ rs
same_parameters i x y qs rs e n h k =
    let p : Placed = (i.name.text, qs, x) in
    let q : Placed = (i.name.text, rs, x) in
    let a : IsPlaced i x p = record { bare = n; name = refl; parameters = h; body_is = refl } in
    let b : IsPlaced i x q = record { bare = n; name = refl; parameters = subst (λ z. AreParameters (inputs_of z) [] i.parameters rs) (sym e) k; body_is = refl } in
    ap (λ (z : Placed). z.1) (one_plain i x p q a b)

same_served : (i : InstanceTree) (s k : book.Service) (qs rs : List book.Parameter) → IsServed i s qs → IsServed i k rs → (qs ≡ rs) × (book.Served s ≡ book.Served k)
same_served i s k qs rs h l =
    let p : Placed = (i.name.text, qs, book.Served s) in
    let q : Placed = (i.name.text, rs, book.Served k) in
    let a : IsServedAs i p = record { service = s; name = refl; served = h; body_is = refl } in
    let b : IsServedAs i q = record { service = k; name = refl; served = l; body_is = refl } in
    let e = one_served i p q a b in
    (ap (λ (z : Placed). z.1) e, ap (λ (z : Placed). z.2) e)

composite_same : (f g : book.Face) (inner other : book.Instances) (es ds vs us : List book.Connection) → f ≡ g → inner ≡ other → es ≡ ds → vs ≡ us → book.Composite f inner es vs ≡ book.Composite g other ds us
composite_same f g inner other es ds vs us a b c d = rw (a, b, c, d) refl

instance_same : (x : Name) (qs rs : List book.Parameter) (b c : book.Body) (rest others : book.Instances) → qs ≡ rs → b ≡ c → rest ≡ others → book.instance x qs b rest ≡ book.instance x rs c others
instance_same x qs rs b c rest others e f g = rw (e, f, g) refl

mutual
  pub one_made : (bs : List BlockTree) (d e : ℕ) (b : BlockTree) (x y : book.Body) → IsMade bs d b x → IsMade bs e b y → x ≡ y
  one_made bs d e b x y (a_basic {c = c} {k = k} p h) (a_basic {c = a} {k = j} q l) = ap book.Basic (one_basic b c k j h (subst (λ z. IsBasic b z j) (sym (same_chart (sym p ∙ q))) l))
  one_made bs d e b x y (a_basic p h) (a_composite q f names is es vs) = absurd (no_chart (sym p ∙ q))
  one_made bs d e b x y (a_composite p f names is es vs) (a_basic q h) = absurd (no_chart (sym q ∙ p))
  one_made bs d e b x y (a_composite {d = d'} {n = n} {ins = ins} {outs = outs} {f = f} {inner = inner} {es = es} {vs = vs} p face names is ev va)
      (a_composite {d = e'} {n = m} {ins = jns} {outs = kuts} {f = g} {inner = other} {es = ds} {vs = us} q face' names' js dv ua) =
      let same = same_network (sym p ∙ q) in
      composite_same f g inner other es ds vs us (one_interface b ins outs jns kuts f g face face')
      (all_one bs d' e' n.instances inner other is (subst (λ (v : NetworkTree). AreInstances bs e' v.instances other) (sym same) js))
      (same_events f g inner other n.events es ds ev (subst (λ (v : NetworkTree). AreEventConnections g other v.events ds) (sym same) dv))
      (same_values f g inner other n.values vs us va (subst (λ (v : NetworkTree). AreValueConnections g other (given_in other) v.values us) (sym same) ua))

  pub one_instance : (bs : List BlockTree) (d e : ℕ) (i : InstanceTree) (qs rs : List book.Parameter) (x y : book.Body) → IsInstance bs d i qs x → IsInstance bs e i rs y → (qs ≡ rs) × (x ≡ y)
  one_instance bs d e i qs rs x y (of_type {b = b} s t n m ps) (of_type {b = c} s' t' n' m' ps') =
      let same = one_made bs d e b x y m (subst (λ a. IsMade bs e a y) (one_type bs i.type.text c b t' t) m') in
      (same_parameters i x y qs rs same n ps ps', same)
  one_instance bs d e i qs rs x y (of_type s t n m ps) (of_service {s = k} h) = absurd (true_false (sym (service_known i k rs h) ∙ s))
  one_instance bs d e i qs rs x y (of_service {s = k} h) (of_type s t n m ps) = absurd (true_false (sym (service_known i k qs h) ∙ s))
  one_instance bs d e i qs rs x y (of_service {s = s} h) (of_service {s = k} l) = same_served i s k qs rs h l

  pub all_one : (bs : List BlockTree) (d e : ℕ) (is : List InstanceTree) (inner other : book.Instances) → AreInstances bs d is inner → AreInstances bs e is other → inner ≡ other
  all_one bs d e is inner other no_instance no_instance = refl
  all_one bs d e is inner other (an_instance {i = i} {is = js} {qs = qs} {body = body} {rest = rest} h t) (an_instance {qs = rs} {body = body'} {rest = rest'} k u) =
      let one = one_instance bs d e i qs rs body body' h k in
      instance_same i.name.text qs rs body body' rest rest' (one.0) (one.1) (all_one bs d e js rest rest' t u)

-- ---- no fault

first_two : (a b rest : Bool) → a || b ≡ true → a || (b || rest) ≡ true
first_two true b rest e = refl
first_two false true rest e = refl
first_two false false rest e = absurd cc

next_two : (x y a b rest : Bool) → a || b ≡ true → x || (y || (a || (b || rest))) ≡ true
next_two true y a b rest e = refl
next_two false true a b rest e = refl
next_two false false a b rest e = first_two a b rest e

last_three : (w x y z a b c : Bool) → a || (b || c) ≡ true → w || (x || (y || (z || (a || (b || (c || false)))))) ≡ true
last_three true x y z a b c e = refl
last_three false true y z a b c e = refl
last_three false false true z a b c e = refl
last_three false false false true a b c e = refl
last_three false false false false true b c e = refl
last_three false false false false false true c e = refl
last_three false false false false false false true e = refl
last_three false false false false false false false e = absurd cc

-- only an instance of a service has a service's fault
service_named : (i : InstanceTree) (f : TypeFault) → IsServiceFault i f → is_in i.type.text service_names ≡ true
service_named i f (faulty_number e h) =
    let x = i.type.text in
    first_two (bytes_eq x (codes "INPUT")) (bytes_eq x (codes "OUTPUT"))
    (bytes_eq x (codes "PUBLISH") || (bytes_eq x (codes "SUBSCRIBE") || (bytes_eq x (codes "E_DELAY") || (bytes_eq x (codes "E_CYCLE") || (bytes_eq x (codes "E_RESTART") || false))))) e
service_named i f (faulty_channel e h) =
    let x = i.type.text in
    next_two (bytes_eq x (codes "INPUT")) (bytes_eq x (codes "OUTPUT")) (bytes_eq x (codes "PUBLISH")) (bytes_eq x (codes "SUBSCRIBE")) (bytes_eq x (codes "E_DELAY") || (bytes_eq x (codes "E_CYCLE") || (bytes_eq x (codes "E_RESTART") || false))) e
service_named i f (with_brackets e h) =
    let x = i.type.text in
    last_three (bytes_eq x (codes "INPUT")) (bytes_eq x (codes "OUTPUT")) (bytes_eq x (codes "PUBLISH")) (bytes_eq x (codes "SUBSCRIBE")) (bytes_eq x (codes "E_DELAY")) (bytes_eq x (codes "E_CYCLE")) (bytes_eq x (codes "E_RESTART")) e

no_service : (i : InstanceTree) (f : TypeFault) → is_in i.type.text service_names ≡ false → IsServedFault i f → f ≡ faults.OutOfMemory
no_service i f n (no_memory_for_served e) = e
no_service i f n (faulty_service h) = absurd (true_false (sym (service_named i f h) ∙ n))
no_service i f n (faulty_values {s = s} is h) = absurd (true_false (sym (known i s is) ∙ n))

wired_fault : (b : BlockTree) (ins outs : List Declared) (f : book.Face) (n : NetworkTree) (ps : List Placed) (es vs : List book.Connection) (w : TypeFault)
    → IsFace b ins outs f → AreDistinct (face_names b ins outs ++ instance_texts n.instances) → AreEventConnections f (placed_in ps) n.events es → AreValueConnections f (placed_in ps) (given_in (placed_in ps)) n.values vs
    → IsNetworkFault f n ps w → w ≡ faults.OutOfMemory
wired_fault b ins outs f n ps es vs w face names ev va h =
    let x : Wired = (ps, es, vs) in
    let new = (new_split [] (face_names b ins outs) (instance_texts n.instances) names).1 in
    wired_true f n ps x w (record { names = subst (λ l. AreNew l (instance_texts n.instances)) (sym (own_face b ins outs f face)) new; instances = refl; events = ev; values = va }) h

mutual
  pub type_true : (bs : List BlockTree) (d : ℕ) (b : BlockTree) (x : book.Body) (f : TypeFault) → d ≤ most_deep → IsMade bs d b x → fault.IsTypeFault bs b f → f ≡ faults.OutOfMemory
  type_true bs d b x f l m (fault.no_memory_for_type e) = e
  type_true bs d b x f l m (fault.ring {c = c} {i = i} u w e) = absurd (no_ring d bs d b x i c (omega arith) m u w)
  type_true bs d b x f l (a_basic {c = c} {k = k} p h) (fault.faulty_basic {c = a} q w) = no_block_fault b a k f (subst (λ z. IsBasic b z k) (same_chart (sym p ∙ q)) h) w
  type_true bs d b x f l (a_composite p face names is es vs) (fault.faulty_basic q w) = absurd (no_chart (sym q ∙ p))
  type_true bs d b x f l (a_basic p h) (fault.faulty_interface q w) = absurd (no_chart (sym p ∙ q))
  type_true bs d b x f l (a_composite {n = n} {ins = ins} {outs = outs} {f = g} p face names is es vs) (fault.faulty_interface q w) =
      no_face_fault b ins outs g f face (new_split [] (face_names b ins outs) (instance_texts n.instances) names).0 w
  type_true bs d b x f l (a_basic p h) (fault.faulty_part q a w) = absurd (no_chart (sym p ∙ q))
  type_true bs d b x f l (a_composite {d = e} {n = n} {inner = inner} p face names is es vs) (fault.faulty_part {n = m} {i = i} q a w) =
      all_true bs e n.instances inner i f (omega (arith, l)) is (subst (λ (v : NetworkTree). Contains v.instances i) (same_network (sym q ∙ p)) a) w
  type_true bs d b x f l (a_basic p h) (fault.faulty_network q face js w) = absurd (no_chart (sym p ∙ q))
  type_true bs d b x f l (a_composite {d = e} {n = n} {ins = ins} {outs = outs} {f = g} {inner = inner} {es = es} {vs = vs} p face names is ev va)
      (fault.faulty_network {n = m} {d = e'} {ins = jns} {outs = kuts} {g = g'} {ps = ps} q face' js w) =
      let same = same_network (sym q ∙ p) in
      let inside = all_one bs e e' n.instances inner (placed_in ps) is (subst (λ (v : NetworkTree). AreInstances bs e' v.instances (placed_in ps)) same js) in
      let outside = one_interface b jns kuts ins outs g' g face' face in
      wired_fault b ins outs g n ps es vs f face names (subst (λ z. AreEventConnections g z n.events es) inside ev) (subst (λ z. AreValueConnections g z (given_in z) n.values vs) inside va)
      (subst (λ z. IsNetworkFault z n ps f) outside (subst (λ z. IsNetworkFault g' z ps f) same w))

  pub all_true : (bs : List BlockTree) (d : ℕ) (is : List InstanceTree) (inner : book.Instances) (i : InstanceTree) (f : TypeFault) → d ≤ most_deep → AreInstances bs d is inner → Contains is i → fault.IsInstanceFault bs i f → f ≡ faults.OutOfMemory
  all_true bs d is inner i f l no_instance a w = absurd (among_nil a)
  all_true bs d is inner i f l (an_instance {i = j} {is = js} {qs = qs} {body = body} {rest = rest} h t) a w =
      either_of (λ e. instance_true bs d j qs body f l h (subst (λ k. fault.IsInstanceFault bs k f) (sym e) w)) (λ m. all_true bs d js rest i f l t m w) (among_cons j js i a)

  instance_true : (bs : List BlockTree) (d : ℕ) (i : InstanceTree) (qs : List book.Parameter) (x : book.Body) (f : TypeFault) → d ≤ most_deep → IsInstance bs d i qs x → fault.IsInstanceFault bs i f → f ≡ faults.OutOfMemory
  instance_true bs d i qs x f l h (fault.no_memory_for_instance e) = e
  instance_true bs d i qs x f l (of_type {b = b} s t n m ps) (fault.unknown_type a none e) = absurd (some_none (sym t ∙ none))
  instance_true bs d i qs x f l (of_service {s = s} h) (fault.unknown_type a none e) = absurd (true_false (sym (service_known i s qs h) ∙ a))
  instance_true bs d i qs x f l (of_type {b = b} s t n m ps) (fault.faulty_type {c = c} o w) = type_true bs d b x f l m (subst (λ z. fault.IsTypeFault bs z f) (one_type bs i.type.text c b o.named t) w)
  instance_true bs d i qs x f l (of_service {s = s} h) (fault.faulty_type o w) = absurd (true_false (sym (service_known i s qs h) ∙ o.declared))
  instance_true bs d i qs x f l (of_type {b = b} s t n m ps) (fault.faulty_plain {c = c} {d = e} {body = y} o k w) =
      let same = one_made bs e d b y x (subst (λ z. IsMade bs e z y) (one_type bs i.type.text c b o.named t) k) m in
      let p : Placed = (i.name.text, qs, x) in
      plain_true i x p f (record { bare = n; name = refl; parameters = ps; body_is = refl }) (subst (λ z. IsPlainFault i z f) same w)
  instance_true bs d i qs x f l (of_service {s = s} h) (fault.faulty_plain o k w) = absurd (true_false (sym (service_known i s qs h) ∙ o.declared))
  instance_true bs d i qs x f l (of_type s t n m ps) (fault.faulty_service w) = no_service i f s w
  instance_true bs d i qs x f l (of_service {s = s} h) (fault.faulty_service w) =
      let p : Placed = (i.name.text, qs, book.Served s) in
      served_true i p f (record { service = s; name = refl; served = h; body_is = refl }) w
