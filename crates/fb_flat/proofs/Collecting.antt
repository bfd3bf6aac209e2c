-- Leaves of instances, one after another.
use Rattle.std.proofs.Common.{◌≡◌, ℕ, ◌+◌, ◌<◌, ◌≤◌, List, [], ◌∷◌, ◌++◌, map, drop, length, get_or, sym, ap, subst, ◌∙◌, Some, string_bytes, arith}
use Rattle.std.proofs.lemmas.List.{map-append}
use Rattle.fb_model.specs.Names.{Name, Path, Place}
use Rattle.fb_model.specs.System as book
use Rattle.fb_model.specs.System.{constant}
use Rattle.fb_model.specs.Wires.{Source, Constant, followed, entered_in, fed, given_in, inputs_of, leaves_of, leaves_in, follow_count, enter_count_in, count_of, count_in}
use Rattle.fb_types_blocks.proofs.Refused.{drop_step, drop_all}
use Rattle.fb_types_networks.specs.declared.typed.Instance.{Instance}
use Rattle.fb_types_networks.specs.declared.typed.Network.{Network}
use Rattle.fb_types_networks.specs.Views.{parameter_of, body_of, placed_of, instances_of}
use Rattle.fb_model.specs.NetworkFaults.{placed_in}
use Rattle.fb_types_networks.proofs.Instances.{view_instance}
use Rattle.fb_flat.specs.declared.site.Trail.{Trail}
use Rattle.fb_flat.specs.declared.site.Around.{Around}
use Rattle.fb_flat.specs.Sites.{path_of, inner_of, events_in, left_by, left_count}
use Rattle.fb_flat.specs.declared.walk.Stop.{Stop}
use Rattle.fb_flat.specs.declared.walk.Stop.TheVariants as stop
use Rattle.fb_flat.specs.Walks.{IsStop}
use Rattle.fb_flat.specs.Leaves.{Written, written, values_in, held_by}

pub stop_weaker : (P Q : Type 0) (s : Stop) → (P → Q) → IsStop P s → IsStop Q s
stop_weaker P Q stop.OutOfMemory f h = tt
stop_weaker P Q stop.Full f h = f h

-- where the outputs of the instances of a network lead
abbrev pub targets_in : Network → Trail → Around → Name → Name → List Place
targets_in n t a = λ j port. followed (events_in n) (Some j) port (entered_in (inner_of n) (path_of t)) (left_by a)

-- what holds their inputs
abbrev pub sources_in : Network → Trail → Around → Name → Name → Source → Source
sources_in n t a = λ j port other. fed (values_in n) (Some j) port (given_in (inner_of n) (path_of t)) (held_by a) other

-- how many connections are followed from their outputs
abbrev pub counts_in : Network → Around → Name → Name → ℕ
counts_in n a = λ j port. follow_count (events_in n) (Some j) port (enter_count_in (inner_of n)) (left_count a)

module _ (path : Path) (targets : Name → Name → List Place) (source : Name → Name → Source → Source) where
  -- the leaves of instances
  abbrev pub leaves_among : List Instance → List Written
  leaves_among xs = map written (leaves_in (instances_of xs) 0 path targets source)

  -- and of one of them, by its name in the path
  abbrev pub leaves_under : Name → Instance → List Written
  leaves_under n x = map written (leaves_of (body_of x.body) 0 (path ++ n ∷ []) (targets (string_bytes x.name)) (λ port. source (string_bytes x.name) port (Constant (constant (map parameter_of x.parameters.items) (inputs_of (body_of x.body)) port))))

  pub leaves_step : (x : Instance) (xs : List Instance) → leaves_among (x ∷ xs) ≡ leaves_under (string_bytes x.name) x ++ leaves_among xs
  leaves_step x xs =
      ap (λ v. map written (leaves_in (placed_in (v ∷ map placed_of xs)) 0 path targets source)) (view_instance x)
      ∙ map-append written (leaves_of (body_of x.body) 0 (path ++ string_bytes x.name ∷ []) (targets (string_bytes x.name)) (λ port. source (string_bytes x.name) port (Constant (constant (map parameter_of x.parameters.items) (inputs_of (body_of x.body)) port))))
      (leaves_in (instances_of xs) 0 path targets source)

module _ (f : Name → Name → ℕ) where
  abbrev pub count_among : List Instance → ℕ
  count_among xs = count_in (instances_of xs) f

  pub count_step : (xs : List Instance) (k : ℕ) (x : Instance) → k < length xs → x ≡ get_or xs k x → count_among (drop k xs) ≡ count_of (body_of x.body) (f (string_bytes x.name)) + count_among (drop (k + 1) xs)
  count_step xs k x lt at = ap count_among (drop_step xs k x lt at) ∙ ap (λ v. count_in (placed_in (v ∷ map placed_of (drop (k + 1) xs))) f) (view_instance x)

  -- a budget that pays for the instances so far, one instance on
  pub paid_on : (xs : List Instance) (k : ℕ) (x : Instance) → k < length xs → x ≡ get_or xs k x → (left next start : ℕ) → left + count_among xs ≡ start + count_among (drop k xs)
      → next + count_of (body_of x.body) (f (string_bytes x.name)) ≡ left → next + count_among xs ≡ start + count_among (drop (k + 1) xs)
  paid_on xs k x lt at left next start so e = plain (count_among xs) (count_among (drop k xs)) (count_among (drop (k + 1) xs)) (count_of (body_of x.body) (f (string_bytes x.name))) (count_step xs k x lt at) so e where
    plain : (all here there b : ℕ) → here ≡ b + there → left + all ≡ start + here → next + b ≡ left → next + all ≡ start + there
    plain all here there b e g h = omega (arith, e, g, h)

  -- an instance cannot be paid
  pub unpaid : (xs : List Instance) (k : ℕ) (x : Instance) → k < length xs → x ≡ get_or xs k x → (left start : ℕ) → left + count_among xs ≡ start + count_among (drop k xs)
      → left < count_of (body_of x.body) (f (string_bytes x.name)) → (is : book.Instances) → is ≡ instances_of xs → start < count_in is f
  unpaid xs k x lt at left start so over is e = subst (λ js. start < count_in js f) (sym e) (plain (count_among xs) (count_among (drop k xs)) (count_among (drop (k + 1) xs)) (count_of (body_of x.body) (f (string_bytes x.name))) (count_step xs k x lt at) so over) where
    plain : (all here there b : ℕ) → here ≡ b + there → left + all ≡ start + here → left < b → start < all
    plain all here there b e g h = omega (arith, e, g, h)

  -- all are paid at the end
  pub paid_all : (xs : List Instance) (k : ℕ) → length xs ≤ k → (left start : ℕ) → left + count_among xs ≡ start + count_among (drop k xs) → (is : book.Instances) → is ≡ instances_of xs → left + count_in is f ≡ start
  paid_all xs k le left start so is e = ap (λ js. left + count_in js f) e ∙ so ∙ ap (λ ds. start + count_among ds) (drop_all xs k le) ∙ nothing_more start where
    nothing_more : (n : ℕ) → n + 0 ≡ n
    nothing_more n = omega arith
