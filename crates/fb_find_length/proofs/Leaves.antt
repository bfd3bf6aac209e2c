-- The rows of a system, leaf by leaf and through composites.
use Rattle.std.proofs.Common.{◌≡◌, ℕ, suc, ◌+◌, ◌<◌, pos, Bool, true, false, cond, is_some, not, List, [], ◌∷◌, ◌++◌, length, Option, None, Some, MatchOption, nat_lt, lt-ltb, le-ltb, refl, sym, ap, ◌∙◌, arith}
use Rattle.fb_model.specs.Names.{Name, Path, Place, at_place}
use Rattle.fb_model.specs.Values.{One}
use Rattle.fb_model.specs.System.{Variable, Body, Basic, Served, Composite, Instances, nothing, instance, Resource, Device, System, constant}
use Rattle.fb_model.specs.Wires.{Kind, Charted, Serviced, Source, Constant, Leaf, followed, entered_in, fed, given_in, inputs_of, leaves_of, leaves_in, leaves_from, leaves}
use Rattle.fb_model.specs.Certificates.{is_boolean, PlaceRows, Range_rows, Charge_rows, Weight_rows, Far_rows, Far_state_rows, places_in, ranged_variables, of_kind, state_names, events_of, ranged, state_places, event_places, required, all_leaves}
use Rattle.fb_model.specs.CertificateText.{most_characters}
use Rattle.fb_model_laws.proofs.Paths.{resource_body}
use Rattle.fb_model_lengths.specs.Lengths.{path_length, beside, rows_length, all_length, least_length}
use Rattle.fb_find_length.specs.Counting.{names_length, ranges_length, kind_ranges, kind_length, body_length, inner_length, resource_length, resources_length, device_length, devices_length}

-- ---- one leaf

rows_append : (kind : PlaceRows) (xs ys : List Place) → rows_length kind (xs ++ ys) ≡ rows_length kind xs + rows_length kind ys
rows_append kind [] ys = omega arith
rows_append kind (x ∷ xs) ys = omega (arith, rows_append kind xs ys)

rows_names : (kind : PlaceRows) (path : Path) (ns : List Name) → rows_length kind (places_in path ns) ≡ names_length (path_length path + beside kind) ns
rows_names kind path [] = refl
rows_names kind path (n ∷ ns) = omega (arith, rows_names kind path ns)

rows_ranges : (path : Path) (vs : List Variable) → rows_length Range_rows (ranged_variables path vs) ≡ ranges_length (path_length path + 11) vs
rows_ranges path [] = refl
rows_ranges path (v ∷ vs) = by (is_boolean v.type) (rows_ranges path vs)
  where
    by : (b : Bool) → rows_length Range_rows (ranged_variables path vs) ≡ ranges_length (path_length path + 11) vs
        → rows_length Range_rows (cond b (ranged_variables path vs) (at_place path v.name ∷ ranged_variables path vs)) ≡ cond b 0 (path_length path + 11 + length v.name) + ranges_length (path_length path + 11) vs
    by true h = omega (arith, h)
    by false h = omega (arith, h)

rows_kind : (path : Path) (kind : Kind) → rows_length Range_rows (of_kind path kind) ≡ kind_ranges (path_length path + 11) kind
rows_kind path (Charted block) =
    let ins = ranged_variables path block.inputs in
    let outs = ranged_variables path block.outputs in
    let inner = ranged_variables path block.internals in
    omega (arith, rows_append Range_rows (ins ++ outs) inner, rows_append Range_rows ins outs, rows_ranges path block.inputs, rows_ranges path block.outputs, rows_ranges path block.internals)
rows_kind path (Serviced service) = refl

-- ---- leaves

abbrev leaves_length : Option ℕ → List Leaf → ℕ
leaves_length repeats [] = 0
leaves_length repeats (leaf ∷ rest) = kind_length repeats (path_length leaf.path) leaf.kind + leaves_length repeats rest

leaves_append : (repeats : Option ℕ) (xs ys : List Leaf) → leaves_length repeats (xs ++ ys) ≡ leaves_length repeats xs + leaves_length repeats ys
leaves_append repeats [] ys = omega arith
leaves_append repeats (x ∷ xs) ys = omega (arith, leaves_append repeats xs ys)

ranged_split : (leaf : Leaf) (rest : List Leaf) → rows_length Range_rows (ranged (leaf ∷ rest)) ≡ kind_ranges (path_length leaf.path + 11) leaf.kind + rows_length Range_rows (ranged rest)
ranged_split leaf rest = omega (arith, rows_append Range_rows (of_kind leaf.path leaf.kind) (ranged rest), rows_kind leaf.path leaf.kind)

states_split : (kind : PlaceRows) (leaf : Leaf) (rest : List Leaf) → rows_length kind (state_places (leaf ∷ rest)) ≡ names_length (path_length leaf.path + beside kind) (state_names leaf.kind) + rows_length kind (state_places rest)
states_split kind leaf rest = omega (arith, rows_append kind (places_in leaf.path (state_names leaf.kind)) (state_places rest), rows_names kind leaf.path (state_names leaf.kind))

events_split : (kind : PlaceRows) (leaf : Leaf) (rest : List Leaf) → rows_length kind (event_places (leaf ∷ rest)) ≡ names_length (path_length leaf.path + beside kind) (events_of leaf.kind) + rows_length kind (event_places rest)
events_split kind leaf rest = omega (arith, rows_append kind (places_in leaf.path (events_of leaf.kind)) (event_places rest), rows_names kind leaf.path (events_of leaf.kind))

by_leaves : (repeats : Option ℕ) (all : List Leaf) → all_length (λ kind. required kind repeats all) ≡ leaves_length repeats all
by_leaves None [] = refl
by_leaves (Some r) [] = refl
by_leaves None (leaf ∷ rest) = omega (arith, by_leaves None rest, ranged_split leaf rest, states_split Charge_rows leaf rest, events_split Weight_rows leaf rest)
by_leaves (Some r) (leaf ∷ rest) =
    omega (arith, by_leaves (Some r) rest, ranged_split leaf rest, states_split Charge_rows leaf rest, events_split Weight_rows leaf rest, events_split Far_rows leaf rest, states_split Far_state_rows leaf rest)

-- ---- through composites

path_more : (path : Path) (name : Name) → path_length (path ++ name ∷ []) ≡ path_length path + suc (length name)
path_more [] name = omega arith
path_more (n ∷ path) name = omega (arith, path_more path name)

mutual
  body_leaves : (repeats : Option ℕ) (body : Body) (home : ℕ) (path : Path) (targets : Name → List Place) (source : Name → Source) → leaves_length repeats (leaves_of body home path targets source) ≡ body_length repeats (path_length path) body
  body_leaves repeats (Basic block) home path targets source = omega arith
  body_leaves repeats (Served service) home path targets source = omega arith
  body_leaves repeats (Composite face inner events values) home path targets source =
      inner_leaves repeats inner home path (λ j port. followed events (Some j) port (entered_in inner path) targets) (λ j port other. fed values (Some j) port (given_in inner path) source other)

  inner_leaves : (repeats : Option ℕ) (is : Instances) (home : ℕ) (path : Path) (targets : Name → Name → List Place) (source : Name → Name → Source → Source) → leaves_length repeats (leaves_in is home path targets source) ≡ inner_length repeats (path_length path) is
  inner_leaves repeats nothing home path targets source = refl
  inner_leaves repeats (instance name parameters body rest) home path targets source =
      let own = leaves_of body home (path ++ name ∷ []) (targets name) (λ port. source name port (Constant (constant parameters (inputs_of body) port))) in
      let first : leaves_length repeats own ≡ body_length repeats (path_length path + suc (length name)) body =
      body_leaves repeats body home (path ++ name ∷ []) (targets name) (λ port. source name port (Constant (constant parameters (inputs_of body) port))) ∙ ap (λ n. body_length repeats n body) (path_more path name) in
      omega (arith, leaves_append repeats own (leaves_in rest home path targets source), first, inner_leaves repeats rest home path targets source)

resources_leaves : (repeats : Option ℕ) (home : ℕ) (path : Path) (rs : List Resource) → leaves_length repeats (leaves_from home path rs) ≡ resources_length repeats (path_length path) rs
resources_leaves repeats home path [] = refl
resources_leaves repeats home path (r ∷ rs) =
    let own = leaves_of (resource_body r) home (path ++ r.name ∷ []) (λ o. []) (λ i. Constant (One (pos 0))) in
    let first : leaves_length repeats own ≡ resource_length repeats (path_length path) r =
    body_leaves repeats (resource_body r) home (path ++ r.name ∷ []) (λ o. []) (λ i. Constant (One (pos 0))) ∙ ap (λ n. inner_length repeats n r.inner) (path_more path r.name) in
    omega (arith, leaves_append repeats own (leaves_from (home + 1) path rs), first, resources_leaves repeats (home + 1) path rs)

device_leaves : (repeats : Option ℕ) (d : Device) → leaves_length repeats (leaves d) ≡ device_length repeats d
device_leaves repeats d =
    let named : path_length (d.name ∷ []) ≡ suc (length d.name) = omega arith in
    resources_leaves repeats 0 (d.name ∷ []) d.resources ∙ ap (λ n. resources_length repeats n d.resources) named

devices_leaves : (repeats : Option ℕ) (ds : List Device) → leaves_length repeats (all_leaves ds) ≡ devices_length repeats ds
devices_leaves repeats [] = refl
devices_leaves repeats (d ∷ ds) = omega (arith, leaves_append repeats (leaves d) (all_leaves ds), device_leaves repeats d, devices_leaves repeats ds)

pub devices_least : (repeats : Option ℕ) (s : System) → devices_length repeats s.devices ≡ least_length repeats s
devices_least repeats s = sym (by_leaves repeats (all_leaves s.devices) ∙ devices_leaves repeats s.devices)

-- nothing is left just where there was not enough
pub told : (r : Option ℕ) (b : Bool) (x : ℕ) → is_some r ≡ not b → MatchOption r (16777216 < x) (λ rest. rest + x ≡ 16777216) → b ≡ nat_lt most_characters x
told None true x s h = sym (lt-ltb 16777216 x h)
told None false x s h = absurd cc
told (Some rest) true x s h = absurd cc
told (Some rest) false x s h = sym (le-ltb 16777216 x (omega (arith, h)))
