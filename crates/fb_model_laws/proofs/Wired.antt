-- Event outputs lead to event inputs of leaves, through composites.
use Rattle.std.proofs.Common.{◌≡◌, ℕ, ◌+◌, pos, sym, ap, subst, refl, Bool, true, false, ◌||◌, List, [], ◌∷◌, ◌++◌, Option, None, Some, ◌∙◌}
use Rattle.std.specs.Prelude.{if◌then◌else◌}
use Rattle.std.specs.List.{AllByRecursion}
use Rattle.std.specs.Str.{bytes_eq}
use Rattle.fb_model.specs.Names.{Name, Path, Place, is_in}
use Rattle.fb_model.specs.Values.{One}
use Rattle.fb_model.specs.Declarations.{BlockTree, SourceTree}
use Rattle.fb_model.specs.System.{Event, Service, Input, Output, Publish, Subscribe, Delay, Cycle, Restart, Connection, Face, Body, Basic, Served, Composite, Instances, nothing, instance, Resource, Device, System, constant}
use Rattle.fb_model.specs.Services.{arrive, expire, service_event_inputs, service_events}
use Rattle.fb_model.specs.Typing.{names_of, event_inputs_of, body_named}
use Rattle.fb_model.specs.NetworkTyping.{ElaboratesWith}
use Rattle.fb_model.specs.Wires.{Leaf, Source, Constant, is_end, followed, entered, entered_in, fed, given_in, inputs_of, leaves_of, leaves_in, resource_leaves, leaves_from, leaves, leaf_at}
use Rattle.fb_model.specs.Certificates.{is_input, has_event, event_names, IsWired}
use Rattle.fb_model.proofs.Lists.{all_append, all_both, all_weaker}
use Rattle.fb_model.proofs.Placed.{all_left, all_right}
use Rattle.fb_model_laws.proofs.Made.{body_has, end_known, IsEventLink, IsWellMade, AreWellMade, IsWellResource, IsWellDevice}
use Rattle.fb_model_laws.proofs.Typed.{eq_sym, devices_made}
use Rattle.fb_model_laws.proofs.Paths.{resource_body, device_apart, AreFound, all_found}

pub eq_turned : (m n : Name) → bytes_eq m n ≡ bytes_eq n m
eq_turned m n = sym (eq_sym m n (bytes_eq m n) refl)

-- an event input of a leaf
abbrev IsTaken : List Leaf → Place → Type 0
IsTaken all p = is_input all p ≡ true

-- ---- one leaf

same_names : (es : List Event) → names_of es ≡ event_names es
same_names [] = refl
same_names (e ∷ es) = ap (λ ns. e.name ∷ ns) (same_names es)

still_in : (x : Name) (xs ys : List Name) → is_in x xs ≡ true → is_in x (xs ++ ys) ≡ true
still_in x [] ys h = cc
still_in x (n ∷ xs) ys h = by (bytes_eq x n) h (still_in x xs ys) where
  by : (b : Bool) → (b || is_in x xs) ≡ true → (is_in x xs ≡ true → is_in x (xs ++ ys) ≡ true) → (b || is_in x (xs ++ ys)) ≡ true
  by true h next = refl
  by false h next = next h

service_takes_it : (service : Service) (port : Name) → is_in port (service_event_inputs service) ≡ true → is_in port (service_events service) ≡ true
service_takes_it (Input number types) port h = cc
service_takes_it (Output number types) port h = h
service_takes_it (Publish channel types) port h = h
service_takes_it (Subscribe channel types) port h = still_in port (service_event_inputs (Subscribe channel types)) (arrive ∷ []) h
service_takes_it Delay port h = still_in port (service_event_inputs Delay) (expire ∷ []) h
service_takes_it Cycle port h = still_in port (service_event_inputs Cycle) (expire ∷ []) h
service_takes_it Restart port h = cc

-- ---- where connections lead

either : (P : Place → Type 0) (b : Bool) (xs ys : List Place) → AllByRecursion P xs → AllByRecursion P ys → AllByRecursion P (if b then xs else ys)
either P true xs ys h k = h
either P false xs ys h k = k

module _ (P : Place → Type 0) (face : Face) (whole : Instances) (to : Name → Name → List Place) (outer : Name → List Place) where
  abbrev Reaches : Type 0
  Reaches = (j port : Name) → body_has event_inputs_of (body_named whole j) port ≡ true → AllByRecursion P (to j port)

  at_end : Reaches → ((o : Name) → AllByRecursion P (outer o)) → (j : Option Name) (port : Name) → end_known (names_of face.event_outputs) event_inputs_of whole j port ≡ true → AllByRecursion P (elim j [ None ↦ outer port | Some j ↦ to j port ])
  at_end h k None port known = k port
  at_end h k (Some j) port known = h j port known

  pub led : Reaches → ((o : Name) → AllByRecursion P (outer o)) → (cs : List Connection) → AllByRecursion (IsEventLink face whole) cs → (i : Option Name) (o : Name) → AllByRecursion P (followed cs i o to outer)
  led h k [] l i o = tt
  led h k (c ∷ cs) l i o = let next = led h k cs l.1 i o in either P (is_end i o c.source) _ _ (all_append P _ _ (at_end h k c.target.instance c.target.port l.0) next) next

-- ---- bodies

mutual
  entered_taken : (all : List Leaf) (body : Body) (home : ℕ) (path : Path) (targets : Name → List Place) (source : Name → Source) → IsWellMade body → AreFound all (leaves_of body home path targets source)
      → (port : Name) → is_in port (event_inputs_of body) ≡ true → AllByRecursion (IsTaken all) (entered body path port)
  entered_taken all (Basic block) home path targets source m f port h = (ap (λ o. has_event o port) f.0 ∙ subst (λ ns. is_in port ns ≡ true) (same_names block.event_inputs) h, tt)
  entered_taken all (Served service) home path targets source m f port h = (ap (λ o. has_event o port) f.0 ∙ service_takes_it service port h, tt)
  entered_taken all (Composite face inner events values) home path targets source m f port h =
      led (IsTaken all) face inner (entered_in inner path) (λ o. [])
      (entered_taken_in all inner home path (λ j port. followed events (Some j) port (entered_in inner path) targets) (λ j port other. fed values (Some j) port (given_in inner path) source other) m.0 f) (λ o. tt) events m.1.event_links None port

  entered_taken_in : (all : List Leaf) (inner : Instances) (home : ℕ) (path : Path) (targets : Name → Name → List Place) (source : Name → Name → Source → Source) → AreWellMade inner → AreFound all (leaves_in inner home path targets source)
      → (j port : Name) → body_has event_inputs_of (body_named inner j) port ≡ true → AllByRecursion (IsTaken all) (entered_in inner path j port)
  entered_taken_in all nothing home path targets source m f j port known = tt
  entered_taken_in all (instance name parameters body rest) home path targets source m f j port known =
      by (bytes_eq name j) (subst (λ b. body_has event_inputs_of (if b then Some body else body_named rest j) port ≡ true) (eq_turned j name) known)
      (λ h. entered_taken all body home (path ++ name ∷ []) (targets name) (λ port. source name port (Constant (constant parameters (inputs_of body) port))) m.0 (all_left _ _ (leaves_in rest home path targets source) f) port h)
      (λ h. entered_taken_in all rest home path targets source m.2 (all_right _ (leaves_of body home (path ++ name ∷ []) (targets name) (λ port. source name port (Constant (constant parameters (inputs_of body) port)))) _ f) j port h) where
        by : (b : Bool) → body_has event_inputs_of (if b then Some body else body_named rest j) port ≡ true
            → (is_in port (event_inputs_of body) ≡ true → AllByRecursion (IsTaken all) (entered body (path ++ name ∷ []) port))
            → (body_has event_inputs_of (body_named rest j) port ≡ true → AllByRecursion (IsTaken all) (entered_in rest path j port))
            → AllByRecursion (IsTaken all) (if b then entered body (path ++ name ∷ []) port else entered_in rest path j port)
        by true h here there = here h
        by false h here there = there h

-- the outputs of a leaf lead to event inputs
abbrev LeadsTo : List Leaf → Leaf → Type 0
LeadsTo all l = (o : Name) → AllByRecursion (IsTaken all) (l.targets o)

mutual
  leads_of : (all : List Leaf) (body : Body) (home : ℕ) (path : Path) (targets : Name → List Place) (source : Name → Source) → IsWellMade body → AreFound all (leaves_of body home path targets source)
      → ((o : Name) → AllByRecursion (IsTaken all) (targets o)) → AllByRecursion (LeadsTo all) (leaves_of body home path targets source)
  leads_of all (Basic block) home path targets source m f h = (h, tt)
  leads_of all (Served service) home path targets source m f h = (h, tt)
  leads_of all (Composite face inner events values) home path targets source m f h =
      leads_in all inner home path (λ j port. followed events (Some j) port (entered_in inner path) targets) (λ j port other. fed values (Some j) port (given_in inner path) source other) m.0 f
      (λ j. led (IsTaken all) face inner (entered_in inner path) targets
      (entered_taken_in all inner home path (λ j port. followed events (Some j) port (entered_in inner path) targets) (λ j port other. fed values (Some j) port (given_in inner path) source other) m.0 f) h events m.1.event_links (Some j))

  leads_in : (all : List Leaf) (inner : Instances) (home : ℕ) (path : Path) (targets : Name → Name → List Place) (source : Name → Name → Source → Source) → AreWellMade inner → AreFound all (leaves_in inner home path targets source)
      → ((j o : Name) → AllByRecursion (IsTaken all) (targets j o)) → AllByRecursion (LeadsTo all) (leaves_in inner home path targets source)
  leads_in all nothing home path targets source m f h = tt
  leads_in all (instance name parameters body rest) home path targets source m f h =
      all_append (LeadsTo all) _ _
      (leads_of all body home (path ++ name ∷ []) (targets name) (λ port. source name port (Constant (constant parameters (inputs_of body) port))) m.0 (all_left _ _ (leaves_in rest home path targets source) f) (h name))
      (leads_in all rest home path targets source m.2 (all_right _ (leaves_of body home (path ++ name ∷ []) (targets name) (λ port. source name port (Constant (constant parameters (inputs_of body) port)))) _ f) h)

-- ---- devices

leads_from : (all : List Leaf) (n : ℕ) (path : Path) (rs : List Resource) → AllByRecursion IsWellResource rs → AreFound all (leaves_from n path rs) → AllByRecursion (LeadsTo all) (leaves_from n path rs)
leads_from all n path [] m f = tt
leads_from all n path (r ∷ rs) m f =
    all_append (LeadsTo all) _ _ (leads_of all (resource_body r) n (path ++ r.name ∷ []) (λ o. []) (λ i. Constant (One (pos 0))) m.0 (all_left _ (resource_leaves n path r) (leaves_from (n + 1) path rs) f) (λ o. tt))
    (leads_from all (n + 1) path rs m.1 (all_right _ (resource_leaves n path r) (leaves_from (n + 1) path rs) f))

device_wired : (d : Device) → IsWellDevice d → AllByRecursion (IsWired (leaves d)) (leaves d)
device_wired d m =
    let found = all_found (leaves d) (device_apart d m) in
    all_both (λ (l : Leaf). leaf_at (leaves d) l.path ≡ Some l) (LeadsTo (leaves d)) (IsWired (leaves d)) (leaves d) (λ l f t. record { found = f; targets = t }) found (leads_from (leaves d) 0 (d.name ∷ []) d.resources m.resources found)

pub all_wired : (library : List BlockTree) (source : SourceTree) (system : System) → ElaboratesWith library source system → AllByRecursion (λ (d : Device). AllByRecursion (IsWired (leaves d)) (leaves d)) system.devices
all_wired library source system e = all_weaker IsWellDevice (λ (d : Device). AllByRecursion (IsWired (leaves d)) (leaves d)) system.devices device_wired (devices_made library source system e)
