-- Where bodies hold words in capitals alone, their leaves do, and so do the places that events reach.
use Rattle.std.proofs.Common.{◌≡◌, ℕ, ◌+◌, pos, refl, true, false, Bool, ◌&&◌, List, [], ◌∷◌, ◌++◌, Option, None, Some}
use Rattle.std.specs.Prelude.{if◌then◌else◌}
use Rattle.std.specs.List.{AllByRecursion}
use Rattle.std.specs.Str.{bytes_eq}
use Rattle.fb_model.specs.Names.{Name, Path, Place}
use Rattle.fb_model.specs.Values.{One}
use Rattle.fb_model.specs.Spelling.{is_start, is_part, IsParts, no_part, part, IsWord, word}
use Rattle.fb_model.specs.System.{Service, Input, Output, Publish, Subscribe, Delay, Cycle, Restart, Connection, Body, Basic, Served, Composite, Instances, nothing, instance, Resource, constant}
use Rattle.fb_model.specs.Services.{service_events}
use Rattle.fb_model.specs.Wires.{is_end, followed, entered, entered_in, Source, Constant, given_in, fed, inputs_of, leaves_of, leaves_in, resource_leaves, leaves_from}
use Rattle.fb_model.proofs.Lists.{all_append}
use Rattle.fb_model_laws.specs.Words.{IsCapital, AreCapitals, IsCapitalLeaf}
use Rattle.fb_model_laws.proofs.Bodies.{LeadToCapitals, IsCapitalBody, AreCapitalBodies}

-- ---- services

abbrev pub are_parts : List ℕ → Bool
are_parts [] = true
are_parts (c ∷ cs) = is_part c && are_parts cs

abbrev pub is_word : List ℕ → Bool
is_word [] = false
is_word (c ∷ cs) = is_start c && are_parts cs

parts_of : (cs : List ℕ) → are_parts cs ≡ true → IsParts cs
parts_of [] h = no_part
parts_of (c ∷ cs) h = by (is_part c) refl h (parts_of cs) where
  by : (b : Bool) → is_part c ≡ b → (b && are_parts cs) ≡ true → (are_parts cs ≡ true → IsParts cs) → IsParts (c ∷ cs)
  by true e h next = part e (next h)
  by false e h next = absurd cc

-- a text that passes the test is a word
pub word_of : (cs : List ℕ) → is_word cs ≡ true → IsWord cs
word_of [] h = absurd cc
word_of (c ∷ cs) h = by (is_start c) refl h where
  by : (b : Bool) → is_start c ≡ b → (b && are_parts cs) ≡ true → IsWord (c ∷ cs)
  by true e h = word e (parts_of cs h)
  by false e h = absurd cc

-- the names of a service's event inputs and arrival are words in capitals
pub service_capitals : (s : Service) → AreCapitals (service_events s)
service_capitals (Input number types) = ((word_of _ refl, refl), tt)
service_capitals (Output number types) = ((word_of _ refl, refl), tt)
service_capitals (Publish channel types) = ((word_of _ refl, refl), ((word_of _ refl, refl), tt))
service_capitals (Subscribe channel types) = ((word_of _ refl, refl), ((word_of _ refl, refl), ((word_of _ refl, refl), tt)))
service_capitals Delay = ((word_of _ refl, refl), ((word_of _ refl, refl), ((word_of _ refl, refl), tt)))
service_capitals Cycle = ((word_of _ refl, refl), ((word_of _ refl, refl), ((word_of _ refl, refl), tt)))
service_capitals Restart = ((word_of _ refl, refl), tt)

-- ---- where events lead

-- the names of a place are words in capitals
abbrev pub IsCapitalPlace : Place → Type 0
IsCapitalPlace p = AreCapitals p.path × IsCapital p.event

either : (b : Bool) (xs ys : List Place) → AllByRecursion IsCapitalPlace xs → AllByRecursion IsCapitalPlace ys → AllByRecursion IsCapitalPlace (if b then xs else ys)
either true xs ys h k = h
either false xs ys h k = k

followed_capitals : (cs : List Connection) (i : Option Name) (port : Name) (inner : Name → Name → List Place) (outer : Name → List Place) → LeadToCapitals cs
    → ((j o : Name) → IsCapital o → AllByRecursion IsCapitalPlace (inner j o)) → ((o : Name) → AllByRecursion IsCapitalPlace (outer o)) → AllByRecursion IsCapitalPlace (followed cs i port inner outer)
followed_capitals [] i port inner outer h f g = tt
followed_capitals (c ∷ cs) i port inner outer h f g =
    let next = followed_capitals cs i port inner outer h.1 f g in
    either (is_end i port c.source) _ _ (all_append IsCapitalPlace _ _ (led c.target.instance) next) next where
      led : (t : Option Name) → AllByRecursion IsCapitalPlace (elim t [ None ↦ outer c.target.port | Some j ↦ inner j c.target.port ])
      led None = g c.target.port
      led (Some j) = f j c.target.port h.0

path_capitals : (path : Path) (name : Name) → AreCapitals path → IsCapital name → AreCapitals (path ++ name ∷ [])
path_capitals path name h k = all_append IsCapital path (name ∷ []) h (k, tt)

mutual
  entered_capitals : (x : Body) (path : Path) (port : Name) → IsCapitalBody x → AreCapitals path → IsCapital port → AllByRecursion IsCapitalPlace (entered x path port)
  entered_capitals (Basic block) path port h k w = ((k, w), tt)
  entered_capitals (Served service) path port h k w = ((k, w), tt)
  entered_capitals (Composite face inner events values) path port h k w = followed_capitals events None port (entered_in inner path) (λ o. []) h.1 (λ j o v. inner_capitals inner path j o h.0 k v) (λ o. tt)

  inner_capitals : (inner : Instances) (path : Path) (j port : Name) → AreCapitalBodies inner → AreCapitals path → IsCapital port → AllByRecursion IsCapitalPlace (entered_in inner path j port)
  inner_capitals nothing path j port h k w = tt
  inner_capitals (instance name parameters body rest) path j port h k w =
      either (bytes_eq name j) _ _ (entered_capitals body (path ++ name ∷ []) port h.1 (path_capitals path name k h.0) w) (inner_capitals rest path j port h.2 k w)

-- ---- leaves

mutual
  body_leaves : (x : Body) (home : ℕ) (path : Path) (targets : Name → List Place) (source : Name → Source) → IsCapitalBody x → AreCapitals path → ((o : Name) → AllByRecursion IsCapitalPlace (targets o)) → AllByRecursion IsCapitalLeaf (leaves_of x home path targets source)
  body_leaves (Basic block) home path targets source h k w = (record { path = k; variables = h.variables; algorithms = h.algorithms; states = h.states; events = h.events; targets = w }, tt)
  body_leaves (Served service) home path targets source h k w = (record { path = k; variables = tt; algorithms = tt; states = tt; events = service_capitals service; targets = w }, tt)
  body_leaves (Composite face inner events values) home path targets source h k w =
      inner_leaves inner home path (λ j port. followed events (Some j) port (entered_in inner path) targets) (λ j port other. fed values (Some j) port (given_in inner path) source other) h.0 k
      (λ j o. followed_capitals events (Some j) o (entered_in inner path) targets h.1 (λ i u v. inner_capitals inner path i u h.0 k v) w)

  inner_leaves : (inner : Instances) (home : ℕ) (path : Path) (targets : Name → Name → List Place) (source : Name → Name → Source → Source) → AreCapitalBodies inner → AreCapitals path → ((j o : Name) → AllByRecursion IsCapitalPlace (targets j o)) → AllByRecursion IsCapitalLeaf (leaves_in inner home path targets source)
  inner_leaves nothing home path targets source h k w = tt
  inner_leaves (instance name parameters body rest) home path targets source h k w =
      all_append IsCapitalLeaf _ _
      (body_leaves body home (path ++ name ∷ []) (targets name) (λ port. source name port (Constant (constant parameters (inputs_of body) port))) h.1 (path_capitals path name k h.0) (w name))
      (inner_leaves rest home path targets source h.2 k w)

-- a resource whose names are words in capitals
pub record IsCapitalResource (r : Resource) : Type 0 where
  pub name : IsCapital r.name
  pub inner : AreCapitalBodies r.inner
  pub events : LeadToCapitals r.events

pub resource_capitals : (n : ℕ) (path : Path) (r : Resource) → AreCapitals path → IsCapitalResource r → AllByRecursion IsCapitalLeaf (resource_leaves n path r)
resource_capitals n path r k h =
    body_leaves (Composite (record { event_inputs = []; event_outputs = []; inputs = []; outputs = [] }) r.inner r.events r.values) n (path ++ r.name ∷ []) (λ o. []) (λ i. Constant (One (pos 0)))
    (h.inner, h.events) (path_capitals path r.name k h.name) (λ o. tt)

pub leaves_capitals : (n : ℕ) (path : Path) (rs : List Resource) → AreCapitals path → AllByRecursion IsCapitalResource rs → AllByRecursion IsCapitalLeaf (leaves_from n path rs)
leaves_capitals n path [] k h = tt
leaves_capitals n path (r ∷ rs) k h = all_append IsCapitalLeaf _ _ (resource_capitals n path r k h.0) (leaves_capitals (n + 1) path rs k h.1)
