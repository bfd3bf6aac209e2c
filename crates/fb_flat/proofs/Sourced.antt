-- Data inputs take their values from leaves of the same resource, so the paths there are words where those of the leaves are.
use Rattle.std.proofs.Common.{ℕ, Bool, true, false, List, [], ◌∷◌, ◌++◌, Option, None, Some}
use Rattle.std.specs.Prelude.{if◌then◌else◌}
use Rattle.std.specs.List.{AllByRecursion}
use Rattle.std.specs.Str.{bytes_eq}
use Rattle.fb_model.specs.Names.{Name, Path, Place}
use Rattle.fb_model.specs.System.{Connection, Body, Basic, Served, Composite, Instances, nothing, instance, constant}
use Rattle.fb_model.specs.Wires.{Leaf, Source, Output_of, Constant, is_end, followed, entered_in, fed, given_by, given_in, inputs_of, leaves_of, leaves_in}
use Rattle.fb_model.specs.Spelling.{AreWords}
use Rattle.fb_model.proofs.Lists.{all_append}
use Rattle.fb_model.proofs.Placed.{all_left, all_right}
use Rattle.fb_flat.proofs.Texts.{HasSome, some_more}

-- a leaf by a path of words, of one name at least; or a value
abbrev pub IsWordySource : Source → Type 0
IsWordySource (Output_of path name) = HasSome path × AreWords path
IsWordySource (Constant value) = Unit {0}

abbrev pub HasWords : Leaf → Type 0
HasWords leaf = AreWords leaf.path

abbrev pub IsSourced : Leaf → Type 0
IsSourced leaf = (x : Name) → IsWordySource (leaf.source x)

either : (b : Bool) (s t : Source) → IsWordySource s → IsWordySource t → IsWordySource (if b then s else t)
either true s t h k = h
either false s t h k = k

fed_on : (i : Option Name) (port : Name) (inner : Name → Name → Source) (outer : Name → Source) (other : Source) → ((j o : Name) → IsWordySource (inner j o)) → ((o : Name) → IsWordySource (outer o)) → IsWordySource other
    → (cs : List Connection) → IsWordySource (fed cs i port inner outer other)
fed_on i port inner outer other h k l [] = l
fed_on i port inner outer other h k l (c ∷ cs) = either (is_end i port c.target) _ _ (one c.source.instance) (fed_on i port inner outer other h k l cs) where
  one : (j : Option Name) → IsWordySource (elim j [ None ↦ outer c.source.port | Some j ↦ inner j c.source.port ])
  one None = k c.source.port
  one (Some j) = h j c.source.port

mutual
  gives : (body : Body) (home : ℕ) (path : Path) (targets : Name → List Place) (source : Name → Source) → HasSome path → AllByRecursion HasWords (leaves_of body home path targets source) → (port : Name) → IsWordySource (given_by body path port)
  gives (Basic block) home path targets source s h port = (s, h.0)
  gives (Served service) home path targets source s h port = (s, h.0)
  gives (Composite face inner events values) home path targets source s h port =
      fed_on None port (given_in inner path) (λ i. Constant (constant [] face.inputs i)) (Constant (constant [] face.outputs port))
      (gives_in inner home path (λ j port. followed events (Some j) port (entered_in inner path) targets) (λ j port other. fed values (Some j) port (given_in inner path) source other) s h) (λ o. tt) tt values

  gives_in : (inner : Instances) (home : ℕ) (path : Path) (targets : Name → Name → List Place) (source : Name → Name → Source → Source) → HasSome path → AllByRecursion HasWords (leaves_in inner home path targets source)
      → (j port : Name) → IsWordySource (given_in inner path j port)
  gives_in nothing home path targets source s h j port = tt
  gives_in (instance name parameters body rest) home path targets source s h j port =
      either (bytes_eq name j) _ _
      (gives body home (path ++ name ∷ []) (targets name) (λ port. source name port (Constant (constant parameters (inputs_of body) port))) (some_more path (name ∷ []) s) (all_left HasWords _ (leaves_in rest home path targets source) h) port)
      (gives_in rest home path targets source s (all_right HasWords (leaves_of body home (path ++ name ∷ []) (targets name) (λ port. source name port (Constant (constant parameters (inputs_of body) port)))) _ h) j port)

mutual
  pub sourced_of : (body : Body) (home : ℕ) (path : Path) (targets : Name → List Place) (source : Name → Source) → HasSome path → AllByRecursion HasWords (leaves_of body home path targets source)
      → ((x : Name) → IsWordySource (source x)) → AllByRecursion IsSourced (leaves_of body home path targets source)
  sourced_of (Basic block) home path targets source s h k = (k, tt)
  sourced_of (Served service) home path targets source s h k = (k, tt)
  sourced_of (Composite face inner events values) home path targets source s h k =
      sourced_in inner home path (λ j port. followed events (Some j) port (entered_in inner path) targets) (λ j port other. fed values (Some j) port (given_in inner path) source other) s h
      (λ j port other o.
      fed_on (Some j) port (given_in inner path) source other
      (gives_in inner home path (λ j port. followed events (Some j) port (entered_in inner path) targets) (λ j port other. fed values (Some j) port (given_in inner path) source other) s h) k o values)

  sourced_in : (inner : Instances) (home : ℕ) (path : Path) (targets : Name → Name → List Place) (source : Name → Name → Source → Source) → HasSome path → AllByRecursion HasWords (leaves_in inner home path targets source)
      → ((j port : Name) (other : Source) → IsWordySource other → IsWordySource (source j port other)) → AllByRecursion IsSourced (leaves_in inner home path targets source)
  sourced_in nothing home path targets source s h k = tt
  sourced_in (instance name parameters body rest) home path targets source s h k =
      all_append IsSourced _ _
      (sourced_of body home (path ++ name ∷ []) (targets name) (λ port. source name port (Constant (constant parameters (inputs_of body) port))) (some_more path (name ∷ []) s) (all_left HasWords _ (leaves_in rest home path targets source) h)
      (λ x. k name x (Constant (constant parameters (inputs_of body) x)) tt))
      (sourced_in rest home path targets source s (all_right HasWords (leaves_of body home (path ++ name ∷ []) (targets name) (λ port. source name port (Constant (constant parameters (inputs_of body) port)))) _ h) k)
