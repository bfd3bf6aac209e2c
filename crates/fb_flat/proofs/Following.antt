-- Networks and composites a part at a time, and results along an equation.
use Rattle.std.proofs.Common.{◌≡◌, ◌∙◌, ℕ, suc, ◌+◌, Bool, true, false, cond, List, [], ◌∷◌, ◌++◌, Option, None, Some, map, refl, sym, ap, subst, pos, rules, string_bytes, Global, Result, Ok, Err, IfOk}
use Rattle.std.specs.declared.rc.Rc.{Rc}
use Rattle.fb_model.specs.System as book
use Rattle.fb_types_blocks.specs.declared.typed.Face.{Face}
use Rattle.fb_types_blocks.specs.Views.{block_of, face_of}
use Rattle.std.specs.Str.{bytes_eq}
use Rattle.std.specs.Option.{option_map_or}
use Rattle.std.specs.declared.vec.Vec.{Vec}
use denote.Ref.{Bor}
use Rattle.fb_model.specs.Names.{Name, Path, Place, at_place}
use Rattle.fb_model.specs.Values.{One}
use Rattle.fb_model.specs.Wires.{Source, Output_of, Constant, is_end, entered, entered_in, enter_count, enter_count_in, followed, follow_count, fed, given_by, given_in}
use Rattle.fb_types_services.specs.declared.service.Service.{Service}
use Rattle.fb_types_services.specs.Views.{service_of}
use Rattle.fb_types_networks.specs.declared.typed.Body as raw
use Rattle.fb_types_networks.specs.declared.typed.Body.{Body, out-Body, fold-Body, fold_out-Body, map-Body, the_lemmas}
use Rattle.fb_types_networks.specs.declared.typed.Body.TheOpen.{Body-F}
use Rattle.fb_types_networks.specs.declared.typed.Instance.{Instance}
use Rattle.fb_types_networks.specs.declared.typed.Connection.{Connection}
use Rattle.fb_types_networks.specs.declared.typed.Network.{Network, out-Network}
use Rattle.fb_types_networks.specs.Views.{Wired, instances_of, connection_of, body_step, instance_step, network_step, body_of, placed_of, wired_of}
use Rattle.fb_model.specs.NetworkFaults.{Placed, placed_in}
use Rattle.fb_types_networks.proofs.Instances.{view_instance, view_network}
use Rattle.fb_flat.specs.Sites.{inner_of, events_in}
use Rattle.fb_flat.specs.Leaves.{values_in}
use Rattle.fb_flat.specs.Placed.{first_named}
use Rattle.fb_flat.specs.Bundled.{seen, ending, source_of, target_of}
use Rattle.fb_flat.specs.Indexes.{IsInside}
use Rattle.fb_flat.specs.declared.lookup.Inside.TheVariants as i

pub ok_along : {X E Y : Type 0} (f : X → Y) {a b : Y} → a ≡ b → (r : Result X E) → IfOk r (λ v. f v ≡ a) → IfOk r (λ v. f v ≡ b)
ok_along f e (Ok v) h = h ∙ e
ok_along f e (Err x) h = tt

pub inner_is : (n : Network) → inner_of n ≡ instances_of (out-Network n).instances.items
inner_is n = ap (λ w. placed_in (w.0)) (view_network n)

pub view_composite : (f : Rc Face Global) (n : Rc Network Global) → body_of (raw.Composite f n) ≡ book.Composite (face_of f.value) (inner_of n.value) (events_in n.value) (values_in n.value)
view_composite f n = search (rules, the_lemmas)

pub view_served : (s : Service) → body_of (raw.Served s) ≡ book.Served (service_of s)
view_served s = search (rules, the_lemmas)

pub events_are : (n : Network) → events_in n ≡ map connection_of (out-Network n).events.items
events_are n = ap (λ w. w.1) (view_network n)

pub values_are : (n : Network) → values_in n ≡ map connection_of (out-Network n).values.items
values_are n = ap (λ w. w.2) (view_network n)

-- ---- bodies, by what is inside

body_seen : Body-F Body Instance Network → book.Body
body_seen (Body-F.Basic k) = book.Basic (block_of k.value)
body_seen (Body-F.Served s) = book.Served (service_of s)
body_seen (Body-F.Composite f n) = book.Composite (face_of f.value) (inner_of n.value) (events_in n.value) (values_in n.value)

body_is : (b : Body) → body_of b ≡ body_seen (out-Body b)
unfolding body_seen
body_is b = fold_out-Body book.Body Placed Wired body_step instance_step network_step b ∙ by (out-Body b) where
  by : (f : Body-F Body Instance Network) → body_step (map-Body Body Instance Network book.Body Placed Wired body_of placed_of wired_of f) ≡ body_seen f
  by (Body-F.Basic k) = refl
  by (Body-F.Served s) = refl
  by (Body-F.Composite f n) = refl

-- a composite's parts are those of what is inside
pub composite_is : (b : Body) (g : Bor Face) (v : Network) → IsInside (out-Body b) (i.Composite g v) → body_of b ≡ book.Composite (face_of g.now) (inner_of v) (events_in v) (values_in v)
unfolding body_seen
composite_is b g v h = body_is b ∙ by (out-Body b) h where
  by : (f : Body-F Body Instance Network) → IsInside f (i.Composite g v) → body_seen f ≡ book.Composite (face_of g.now) (inner_of v) (events_in v) (values_in v)
  by (Body-F.Basic k) h = absurd h
  by (Body-F.Served s) h = absurd h
  by (Body-F.Composite f n) h = ap (λ x. book.Composite (face_of x) (inner_of n.value) (events_in n.value) (values_in n.value)) (sym (h.0)) ∙ ap (λ m. book.Composite (face_of g.now) (inner_of m) (events_in m) (values_in m)) (sym (h.1))

-- a leaf is no composite
pub leaf_by : (P : book.Body → Type 0) → ((k : book.Block) → P (book.Basic k)) → ((s : book.Service) → P (book.Served s)) → (b : Body) → IsInside (out-Body b) i.Leaf → P (body_of b)
unfolding body_seen
leaf_by P basic served b h = subst P (sym (body_is b)) (by (out-Body b) h) where
  by : (f : Body-F Body Instance Network) → IsInside f i.Leaf → P (body_seen f)
  by (Body-F.Basic k) h = basic (block_of k.value)
  by (Body-F.Served s) h = served (service_of s)
  by (Body-F.Composite f n) h = absurd h

pub entered_leaf : (b : Body) (path : Path) (port : Name) → IsInside (out-Body b) i.Leaf → entered (body_of b) path port ≡ at_place path port ∷ []
entered_leaf b path port h = leaf_by (λ x. entered x path port ≡ at_place path port ∷ []) (λ k. refl) (λ s. refl) b h

pub count_leaf : (b : Body) (port : Name) → IsInside (out-Body b) i.Leaf → enter_count (body_of b) port ≡ 0
count_leaf b port h = leaf_by (λ x. enter_count x port ≡ 0) (λ k. refl) (λ s. refl) b h

pub given_leaf : (b : Body) (path : Path) (port : Name) → IsInside (out-Body b) i.Leaf → given_by (body_of b) path port ≡ Output_of path port
given_leaf b path port h = leaf_by (λ x. given_by x path port ≡ Output_of path port) (λ k. refl) (λ s. refl) b h

-- ---- the first instance of a name

abbrev entered_at : Option Instance → Path → Name → List Place
entered_at None path port = []
entered_at (Some i) path port = entered (body_of i.body) (path ++ string_bytes i.name ∷ []) port

abbrev count_at : Option Instance → Name → ℕ
count_at None port = 0
count_at (Some i) port = enter_count (body_of i.body) port

abbrev given_at : Option Instance → Path → Name → Source
given_at None path port = Constant (One (pos 0))
given_at (Some i) path port = given_by (body_of i.body) (path ++ string_bytes i.name ∷ []) port

entered_first : (is : List Instance) (path : Path) (x port : Name) → entered_in (instances_of is) path x port ≡ entered_at (first_named is x) path port
entered_first [] path x port = refl
entered_first (i ∷ is) path x port = ap (λ p. entered_in (placed_in (p ∷ map placed_of is)) path x port) (view_instance i) ∙ by (bytes_eq (string_bytes i.name) x) (entered_first is path x port) where
  by : (b : Bool) → entered_in (instances_of is) path x port ≡ entered_at (first_named is x) path port
      → cond b (entered (body_of i.body) (path ++ string_bytes i.name ∷ []) port) (entered_in (instances_of is) path x port) ≡ entered_at (cond b (Some i) (first_named is x)) path port
  by true e = refl
  by false e = e

count_first : (is : List Instance) (x port : Name) → enter_count_in (instances_of is) x port ≡ count_at (first_named is x) port
count_first [] x port = refl
count_first (i ∷ is) x port = ap (λ p. enter_count_in (placed_in (p ∷ map placed_of is)) x port) (view_instance i) ∙ by (bytes_eq (string_bytes i.name) x) (count_first is x port) where
  by : (b : Bool) → enter_count_in (instances_of is) x port ≡ count_at (first_named is x) port
      → cond b (enter_count (body_of i.body) port) (enter_count_in (instances_of is) x port) ≡ count_at (cond b (Some i) (first_named is x)) port
  by true e = refl
  by false e = e

given_first : (is : List Instance) (path : Path) (x port : Name) → given_in (instances_of is) path x port ≡ given_at (first_named is x) path port
given_first [] path x port = refl
given_first (i ∷ is) path x port = ap (λ p. given_in (placed_in (p ∷ map placed_of is)) path x port) (view_instance i) ∙ by (bytes_eq (string_bytes i.name) x) (given_first is path x port) where
  by : (b : Bool) → given_in (instances_of is) path x port ≡ given_at (first_named is x) path port
      → cond b (given_by (body_of i.body) (path ++ string_bytes i.name ∷ []) port) (given_in (instances_of is) path x port) ≡ given_at (cond b (Some i) (first_named is x)) path port
  by true e = refl
  by false e = e

-- what the instance of a name, or none, enters and gives in a network
pub enters_at : (n : Network) (path : Path) (x port : Name) (o : Option Instance) → first_named (out-Network n).instances.items x ≡ o → entered_in (inner_of n) path x port ≡ entered_at o path port
enters_at n path x port o e = ap (λ is. entered_in is path x port) (inner_is n) ∙ entered_first (out-Network n).instances.items path x port ∙ ap (λ o. entered_at o path port) e

pub counts_at : (n : Network) (x port : Name) (o : Option Instance) → first_named (out-Network n).instances.items x ≡ o → enter_count_in (inner_of n) x port ≡ count_at o port
counts_at n x port o e = ap (λ is. enter_count_in is x port) (inner_is n) ∙ count_first (out-Network n).instances.items x port ∙ ap (λ o. count_at o port) e

pub gives_at : (n : Network) (path : Path) (x port : Name) (o : Option Instance) → first_named (out-Network n).instances.items x ≡ o → given_in (inner_of n) path x port ≡ given_at o path port
gives_at n path x port o e = ap (λ is. given_in is path x port) (inner_is n) ∙ given_first (out-Network n).instances.items path x port ∙ ap (λ o. given_at o path port) e

-- ---- the connections of an end

followed_ending : (i : Option Name) (port : Name) (inner : Name → Name → List Place) (outer : Name → List Place) (cs : List book.Connection) → followed (ending source_of i port cs) i port inner outer ≡ followed cs i port inner outer
followed_ending i port inner outer [] = refl
followed_ending i port inner outer (c ∷ cs) = by (is_end i port c.source) refl (elim c.target.instance [ None ↦ outer c.target.port | Some j ↦ inner j c.target.port ]) refl (followed_ending i port inner outer cs) where
  by : (b : Bool) → is_end i port c.source ≡ b → (one : List Place) → (elim c.target.instance [ None ↦ outer c.target.port | Some j ↦ inner j c.target.port ]) ≡ one
      → followed (ending source_of i port cs) i port inner outer ≡ followed cs i port inner outer
      → followed (cond b (c ∷ ending source_of i port cs) (ending source_of i port cs)) i port inner outer ≡ cond b (one ++ followed cs i port inner outer) (followed cs i port inner outer)
  by true h one g e =
      ap (λ t. cond t ((elim c.target.instance [ None ↦ outer c.target.port | Some j ↦ inner j c.target.port ]) ++ followed (ending source_of i port cs) i port inner outer) (followed (ending source_of i port cs) i port inner outer)) h
      ∙ ap (λ l. l ++ followed (ending source_of i port cs) i port inner outer) g ∙ ap (λ l. one ++ l) e
  by false h one g e = e

count_ending : (i : Option Name) (port : Name) (inner : Name → Name → ℕ) (outer : Name → ℕ) (cs : List book.Connection) → follow_count (ending source_of i port cs) i port inner outer ≡ follow_count cs i port inner outer
count_ending i port inner outer [] = refl
count_ending i port inner outer (c ∷ cs) = by (is_end i port c.source) refl (elim c.target.instance [ None ↦ outer c.target.port | Some j ↦ inner j c.target.port ]) refl (count_ending i port inner outer cs) where
  by : (b : Bool) → is_end i port c.source ≡ b → (one : ℕ) → (elim c.target.instance [ None ↦ outer c.target.port | Some j ↦ inner j c.target.port ]) ≡ one
      → follow_count (ending source_of i port cs) i port inner outer ≡ follow_count cs i port inner outer
      → follow_count (cond b (c ∷ ending source_of i port cs) (ending source_of i port cs)) i port inner outer ≡ cond b (suc one + follow_count cs i port inner outer) (follow_count cs i port inner outer)
  by true h one g e =
      ap (λ t. cond t (suc (elim c.target.instance [ None ↦ outer c.target.port | Some j ↦ inner j c.target.port ]) + follow_count (ending source_of i port cs) i port inner outer) (follow_count (ending source_of i port cs) i port inner outer)) h
      ∙ ap (λ n. suc n + follow_count (ending source_of i port cs) i port inner outer) g ∙ ap (λ n. suc one + n) e
  by false h one g e = e

fed_ending : (i : Option Name) (port : Name) (inner : Name → Name → Source) (outer : Name → Source) (other : Source) (cs : List book.Connection) → fed (ending target_of i port cs) i port inner outer other ≡ fed cs i port inner outer other
fed_ending i port inner outer other [] = refl
fed_ending i port inner outer other (c ∷ cs) = by (is_end i port c.target) refl (elim c.source.instance [ None ↦ outer c.source.port | Some j ↦ inner j c.source.port ]) refl (fed_ending i port inner outer other cs) where
  by : (b : Bool) → is_end i port c.target ≡ b → (one : Source) → (elim c.source.instance [ None ↦ outer c.source.port | Some j ↦ inner j c.source.port ]) ≡ one
      → fed (ending target_of i port cs) i port inner outer other ≡ fed cs i port inner outer other
      → fed (cond b (c ∷ ending target_of i port cs) (ending target_of i port cs)) i port inner outer other ≡ cond b one (fed cs i port inner outer other)
  by true h one g e =
      ap (λ t. cond t (elim c.source.instance [ None ↦ outer c.source.port | Some j ↦ inner j c.source.port ]) (fed (ending target_of i port cs) i port inner outer other)) h ∙ g
  by false h one g e = e

-- where the connections of an end are the same, so is what they lead to, how many are followed, and what feeds the end
pub same_followed : (i : Option Name) (port : Name) (inner : Name → Name → List Place) (outer : Name → List Place) (xs ys : List book.Connection) → ending source_of i port xs ≡ ending source_of i port ys → followed xs i port inner outer ≡ followed ys i port inner outer
same_followed i port inner outer xs ys e = sym (followed_ending i port inner outer xs) ∙ ap (λ cs. followed cs i port inner outer) e ∙ followed_ending i port inner outer ys

pub same_count : (i : Option Name) (port : Name) (inner : Name → Name → ℕ) (outer : Name → ℕ) (xs ys : List book.Connection) → ending source_of i port xs ≡ ending source_of i port ys → follow_count xs i port inner outer ≡ follow_count ys i port inner outer
same_count i port inner outer xs ys e = sym (count_ending i port inner outer xs) ∙ ap (λ cs. follow_count cs i port inner outer) e ∙ count_ending i port inner outer ys

pub same_fed : (i : Option Name) (port : Name) (inner : Name → Name → Source) (outer : Name → Source) (other : Source) (xs ys : List book.Connection) → ending target_of i port xs ≡ ending target_of i port ys → fed xs i port inner outer other ≡ fed ys i port inner outer other
same_fed i port inner outer other xs ys e = sym (fed_ending i port inner outer other xs) ∙ ap (λ cs. fed cs i port inner outer other) e ∙ fed_ending i port inner outer other ys

-- what an index found for an end
abbrev pub Found : Type 0
Found = Option (Bor (Vec (Bor Connection) Global))

abbrev pub found_in : Found → List (Bor Connection)
found_in r = option_map_or (λ v. v.now.items) r []

pub when_some : (side : book.Connection → book.End) (i : Option Name) (port : Name) (cs : List book.Connection) (r : Found) (v : Bor (Vec (Bor Connection) Global)) (items : List (Bor Connection)) → r ≡ Some v → items ≡ v.now.items
    → ending side i port (map seen (found_in r)) ≡ ending side i port cs → ending side i port (map seen items) ≡ ending side i port cs
when_some side i port cs r v items is e h = ap (λ l. ending side i port (map seen l)) (e ∙ sym (ap found_in is)) ∙ h

pub when_none : (side : book.Connection → book.End) (i : Option Name) (port : Name) (cs : List book.Connection) (r : Found) → r ≡ None → ending side i port (map seen (found_in r)) ≡ ending side i port cs → ending side i port [] ≡ ending side i port cs
when_none side i port cs r is h = sym (ap (λ q. ending side i port (map seen (found_in q))) is) ∙ h
