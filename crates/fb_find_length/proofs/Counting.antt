-- Rows one after another, and lengths that are not told apart above the limit.
use Rattle.std.proofs.Common.{◌≡◌, ℕ, suc, ◌+◌, ◌<◌, ◌≤◌, inl, inr, Bool, true, false, cond, List, [], ◌∷◌, map, drop, length, slice_get, Option, None, Some, MatchOption, refl, ap, ap₂, subst, arith, string_bytes}
use Rattle.std.specs.declared.string.String.{String}
use Rattle.std.specs.declared.vec.Vec.{Vec}
use Rattle.std.specs.declared.alloc.Global.{Global}
use Rattle.fb_model.specs.Names.{Name}
use Rattle.fb_model.specs.System.{Variable, Body, Basic, Served, Composite, Instances, nothing, instance, Resource}
use Rattle.fb_model.specs.BlockTyping.{variable_of}
use Rattle.fb_model.specs.Wires.{Kind, Charted, Serviced}
use Rattle.fb_model.specs.Certificates.{names, event_names, is_boolean, state_names, events_of}
use Rattle.fb_types_blocks.specs.declared.typed.Action.{Action}
use Rattle.fb_types_blocks.specs.declared.typed.Block.{Block}
use Rattle.fb_types_blocks.specs.declared.typed.Variable.{Variable as Typed}
use Rattle.fb_types_blocks.specs.Views.{action_of, event_of, declared_of, block_of}
use Rattle.fb_types_blocks.proofs.Refused.{drop_got}
use Rattle.fb_find_length.specs.Counting.{names_length, range_length, ranges_length, kind_ranges, own_length, far_length, kind_length, body_length, inner_length, resource_length, resources_length, AreAlike}

-- ---- what is left of a budget

-- what is spent in two steps, and what is not spent, since the second has too little
pub spent_twice : (left mid x y : ℕ) (r : Option ℕ) → mid + x ≡ left → MatchOption r (mid < y) (λ rest. rest + y ≡ mid) → MatchOption r (left < x + y) (λ rest. rest + (x + y) ≡ left)
spent_twice left mid x y None e h = omega (arith, e, h)
spent_twice left mid x y (Some rest) e h = omega (arith, e, h)

pub unspent : (left x : ℕ) (r : Option ℕ) → r ≡ None → left < x → MatchOption r (left < x) (λ rest. rest + x ≡ left)
unspent left x None e l = l
unspent left x (Some rest) e l = absurd cc

-- ---- the next of what is left

pub table_next : {V : Type 0} (one : ℕ) (xs : List (String Global × V)) (i : ℕ) (x : String Global × V) → slice_get xs i ≡ Some x
    → names_length one (map (λ p. string_bytes p.0) (drop i xs)) ≡ (one + length (string_bytes (x.0))) + names_length one (map (λ p. string_bytes p.0) (drop (i + 1) xs))
table_next one xs i x h = ap (λ ys. names_length one (map (λ p. string_bytes p.0) ys)) (drop_got xs i x h)

-- variables by their entries
abbrev pub listed : List (String Global × Typed) → List Variable
listed es = map variable_of (map (λ p. declared_of (string_bytes p.0) p.1) es)

pub ranges_next : (one : ℕ) (xs : List (String Global × Typed)) (i : ℕ) (x : String Global × Typed) → slice_get xs i ≡ Some x
    → ranges_length one (listed (drop i xs)) ≡ range_length one (string_bytes (x.0)) (x.1.of_type) + ranges_length one (listed (drop (i + 1) xs))
ranges_next one xs i x h = ap (λ ys. ranges_length one (listed ys)) (drop_got xs i x h)

-- ---- the names of a leaf

state_names_are : (xs : List (String Global × Vec Action Global)) → names (map (λ p. record { name = string_bytes p.0; actions = map action_of p.1.items }) xs) ≡ map (λ p. string_bytes p.0) xs
state_names_are [] = refl
state_names_are (x ∷ xs) = ap (λ ns. string_bytes x.0 ∷ ns) (state_names_are xs)

event_names_are : (xs : List (String Global × Vec (String Global) Global)) → event_names (map (λ p. event_of (string_bytes p.0) p.1.items) xs) ≡ map (λ p. string_bytes p.0) xs
event_names_are [] = refl
event_names_are (x ∷ xs) = ap (λ ns. string_bytes x.0 ∷ ns) (event_names_are xs)

pub own_is : (n : ℕ) (b : Block) → own_length n (Charted (block_of b)) ≡ kind_ranges (n + 11) (Charted (block_of b)) + (names_length (n + 12) (map (λ p. string_bytes p.0) b.states.entries) + names_length (n + 12) (map (λ p. string_bytes p.0) b.face.event_inputs.entries))
own_is n b =
    ap₂ (λ ss es. kind_ranges (n + 11) (Charted (block_of b)) + (names_length (n + 12) ss + names_length (n + 12) es)) (state_names_are b.states.entries) (event_names_are b.face.event_inputs.entries)

pub far_is : (r : ℕ) (n : ℕ) (b : Block) → far_length (Some r) n (Charted (block_of b)) ≡ names_length (n + 7) (map (λ p. string_bytes p.0) b.face.event_inputs.entries) + names_length (n + 12) (map (λ p. string_bytes p.0) b.states.entries)
far_is r n b = ap₂ (λ es ss. names_length (n + 7) es + names_length (n + 12) ss) (event_names_are b.face.event_inputs.entries) (state_names_are b.states.entries)

-- ---- lengths above the limit

alike_sum : (a b c d : ℕ) → AreAlike a b → AreAlike c d → AreAlike (a + c) (b + d)
alike_sum a b c d (inl e) (inl f) = inl (ap₂ (λ x y. x + y) e f)
alike_sum a b c d (inl e) (inr g) = inr (omega (arith, g.0), omega (arith, g.1))
alike_sum a b c d (inr g) h = inr (omega (arith, g.0), omega (arith, g.1))

alike_names : (n m k : ℕ) (ns : List Name) → AreAlike n m → AreAlike (names_length (n + k) ns) (names_length (m + k) ns)
alike_names n m k ns (inl e) = inl (ap (λ z. names_length (z + k) ns) e)
alike_names n m k [] (inr g) = inl refl
alike_names n m k (x ∷ ns) (inr g) = inr (omega (arith, g.0), omega (arith, g.1))

alike_range : (n m : ℕ) (x : Name) (v : Variable) → AreAlike n m → AreAlike (range_length (n + 11) x v.type) (range_length (m + 11) x v.type)
alike_range n m x v h = by (is_boolean v.type) h
  where
    by : (b : Bool) → AreAlike n m → AreAlike (cond b 0 (n + 11 + length x)) (cond b 0 (m + 11 + length x))
    by true h = inl refl
    by false (inl e) = inl (ap (λ z. z + 11 + length x) e)
    by false (inr g) = inr (omega (arith, g.0), omega (arith, g.1))

alike_ranges : (n m : ℕ) (vs : List Variable) → AreAlike n m → AreAlike (ranges_length (n + 11) vs) (ranges_length (m + 11) vs)
alike_ranges n m [] h = inl refl
alike_ranges n m (v ∷ vs) h =
    alike_sum (range_length (n + 11) v.name v.type) (range_length (m + 11) v.name v.type) (ranges_length (n + 11) vs) (ranges_length (m + 11) vs) (alike_range n m v.name v h) (alike_ranges n m vs h)

alike_kind_ranges : (n m : ℕ) (kind : Kind) → AreAlike n m → AreAlike (kind_ranges (n + 11) kind) (kind_ranges (m + 11) kind)
alike_kind_ranges n m (Charted block) h =
    alike_sum (ranges_length (n + 11) block.inputs) (ranges_length (m + 11) block.inputs) (ranges_length (n + 11) block.outputs + ranges_length (n + 11) block.internals) (ranges_length (m + 11) block.outputs + ranges_length (m + 11) block.internals)
    (alike_ranges n m block.inputs h)
    (alike_sum (ranges_length (n + 11) block.outputs) (ranges_length (m + 11) block.outputs) (ranges_length (n + 11) block.internals) (ranges_length (m + 11) block.internals) (alike_ranges n m block.outputs h) (alike_ranges n m block.internals h))
alike_kind_ranges n m (Serviced service) h = inl refl

alike_own : (n m : ℕ) (kind : Kind) → AreAlike n m → AreAlike (own_length n kind) (own_length m kind)
alike_own n m kind h =
    alike_sum (kind_ranges (n + 11) kind) (kind_ranges (m + 11) kind) (names_length (n + 12) (state_names kind) + names_length (n + 12) (events_of kind)) (names_length (m + 12) (state_names kind) + names_length (m + 12) (events_of kind))
    (alike_kind_ranges n m kind h)
    (alike_sum (names_length (n + 12) (state_names kind)) (names_length (m + 12) (state_names kind)) (names_length (n + 12) (events_of kind)) (names_length (m + 12) (events_of kind)) (alike_names n m 12 (state_names kind) h) (alike_names n m 12 (events_of kind) h))

alike_far : (repeats : Option ℕ) (n m : ℕ) (kind : Kind) → AreAlike n m → AreAlike (far_length repeats n kind) (far_length repeats m kind)
alike_far None n m kind h = inl refl
alike_far (Some r) n m kind h =
    alike_sum (names_length (n + 7) (events_of kind)) (names_length (m + 7) (events_of kind)) (names_length (n + 12) (state_names kind)) (names_length (m + 12) (state_names kind)) (alike_names n m 7 (events_of kind) h) (alike_names n m 12 (state_names kind) h)

alike_kind : (repeats : Option ℕ) (n m : ℕ) (kind : Kind) → AreAlike n m → AreAlike (kind_length repeats n kind) (kind_length repeats m kind)
alike_kind repeats n m kind h = alike_sum (own_length n kind) (own_length m kind) (far_length repeats n kind) (far_length repeats m kind) (alike_own n m kind h) (alike_far repeats n m kind h)

mutual
  pub alike_body : (repeats : Option ℕ) (n m : ℕ) (body : Body) → AreAlike n m → AreAlike (body_length repeats n body) (body_length repeats m body)
  alike_body repeats n m (Basic block) h = alike_kind repeats n m (Charted block) h
  alike_body repeats n m (Served service) h = alike_kind repeats n m (Serviced service) h
  alike_body repeats n m (Composite face inner events values) h = alike_inner repeats n m inner h

  pub alike_inner : (repeats : Option ℕ) (n m : ℕ) (is : Instances) → AreAlike n m → AreAlike (inner_length repeats n is) (inner_length repeats m is)
  alike_inner repeats n m nothing h = inl refl
  alike_inner repeats n m (instance name parameters body rest) h =
      alike_sum (body_length repeats (n + suc (length name)) body) (body_length repeats (m + suc (length name)) body) (inner_length repeats n rest) (inner_length repeats m rest)
      (alike_body repeats (n + suc (length name)) (m + suc (length name)) body (alike_sum n m (suc (length name)) (suc (length name)) h (inl refl))) (alike_inner repeats n m rest h)

pub alike_resources : (repeats : Option ℕ) (n m : ℕ) (rs : List Resource) → AreAlike n m → AreAlike (resources_length repeats n rs) (resources_length repeats m rs)
alike_resources repeats n m [] h = inl refl
alike_resources repeats n m (r ∷ rs) h =
    alike_sum (resource_length repeats n r) (resource_length repeats m r) (resources_length repeats n rs) (resources_length repeats m rs)
    (alike_inner repeats (n + suc (length r.name)) (m + suc (length r.name)) r.inner (alike_sum n m (suc (length r.name)) (suc (length r.name)) h (inl refl))) (alike_resources repeats n m rs h)

-- what is spent of a budget within the limit is the same
pub spent_alike : (left x y : ℕ) (r : Option ℕ) → left ≤ 16777216 → AreAlike x y → MatchOption r (left < x) (λ rest. rest + x ≡ left) → MatchOption r (left < y) (λ rest. rest + y ≡ left)
spent_alike left x y r small (inl e) h = subst (λ z. MatchOption r (left < z) (λ rest. rest + z ≡ left)) e h
spent_alike left x y None small (inr g) h = omega (arith, small, g.1)
spent_alike left x y (Some rest) small (inr g) h = absurd (omega (arith, small, g.0, h))
