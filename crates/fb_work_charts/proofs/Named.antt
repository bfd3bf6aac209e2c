-- What stands under names in tables, and in the book.
use Rattle.std.proofs.Common.{◌≡◌, ℕ, ◌+◌, Bool, true, false, cond, List, [], ◌∷◌, map, length, Option, Some, None, refl, ap, ◌∙◌, string_bytes, arith}
use Rattle.std.specs.Map.{lookup}
use Rattle.std.specs.Str.{bytes_eq}
use Rattle.std.specs.declared.string.String.{String}
use Rattle.std.specs.declared.vec.Vec.{Vec}
use Rattle.std.specs.declared.alloc.Global.{Global}
use Rattle.fb_words.specs.declared.elem_type.ElemType.{ElemType}
use Rattle.fb_model.specs.Names.{Name}
use Rattle.fb_model.specs.System as book
use Rattle.fb_model.specs.Charts.{actions_of}
use Rattle.fb_model.specs.Services.{numbered}
use Rattle.fb_model.specs.Store.{carried}
use Rattle.fb_model.proofs.Names.{eq_turned}
use Rattle.fb_types_blocks.specs.declared.typed.Action.{Action}
use Rattle.fb_types_blocks.specs.Views.{action_of, event_of}

abbrev pub state_of : String Global × Vec Action Global → book.State
state_of p = record { name = string_bytes p.0; actions = map action_of p.1.items }

abbrev pub event_in : String Global × Vec (String Global) Global → book.Event
event_in p = event_of (string_bytes p.0) p.1.items

-- ---- look-ups

-- what a look-up finds by a name
abbrev pub found : {V : Type 0} → List (String Global × V) → Name → Option V
found es x = lookup (λ y. bytes_eq x (string_bytes y)) es

-- the same in the book, as it is seen there
abbrev pub seen : {V Y : Type 0} → (V → Y) → Y → List (String Global × V) → Name → Y
seen f none [] x = none
seen f none (e ∷ es) x = cond (bytes_eq (string_bytes e.0) x) (f e.1) (seen f none es x)

some_step : {V Y : Type 0} (f : V → Y) (v here : V) (b : Bool) (o : Option V) (more : Y)
    → Some v ≡ cond b (Some here) o → (Some v ≡ o → f v ≡ more) → f v ≡ cond b (f here) more
some_step f v here true o more h k = let q : v ≡ here = cc in ap f q
some_step f v here false o more h k = k h

pub some_seen : {V Y : Type 0} (f : V → Y) (none : Y) (es : List (String Global × V)) (x : Name) (v : V)
    → Some v ≡ found es x → f v ≡ seen f none es x
some_seen f none [] x v h = absurd cc
some_seen f none (e ∷ es) x v h =
    let more = seen f none es x in
    some_step f v e.1 (bytes_eq x (string_bytes e.0)) (found es x) more h (some_seen f none es x v)
    ∙ ap (λ b. cond b (f e.1) more) (eq_turned x (string_bytes e.0))

none_step : {V Y : Type 0} (f : V → Y) (here : V) (none : Y) (b : Bool) (o : Option V) (more : Y)
    → None ≡ cond b (Some here) o → (None ≡ o → none ≡ more) → none ≡ cond b (f here) more
none_step f here none true o more h k = absurd cc
none_step f here none false o more h k = k h

pub none_seen : {V Y : Type 0} (f : V → Y) (none : Y) (es : List (String Global × V)) (x : Name) → None ≡ found es x → none ≡ seen f none es x
none_seen f none [] x h = refl
none_seen f none (e ∷ es) x h =
    let more = seen f none es x in
    none_step f e.1 none (bytes_eq x (string_bytes e.0)) (found es x) more h (none_seen f none es x)
    ∙ ap (λ b. cond b (f e.1) more) (eq_turned x (string_bytes e.0))

-- ---- what events are WITH

abbrev pub names_in : Vec (String Global) Global → List Name
names_in v = map string_bytes v.items

pub carried_seen : (es : List (String Global × Vec (String Global) Global)) (x : Name) → seen names_in [] es x ≡ carried (map event_in es) x
carried_seen [] x = refl
carried_seen (e ∷ es) x = ap (cond (bytes_eq (string_bytes e.0) x) (names_in e.1)) (carried_seen es x)

-- ---- the actions of states

abbrev pub actions_in : Vec Action Global → List book.Action
actions_in v = map action_of v.items

pub actions_seen : (es : List (String Global × Vec Action Global)) (x : Name) → seen actions_in [] es x ≡ actions_of (map state_of es) x
actions_seen [] x = refl
actions_seen (e ∷ es) x = ap (cond (bytes_eq (string_bytes e.0) x) (actions_in e.1)) (actions_seen es x)

-- ---- names of values

pub length_numbered : (f : ℕ → Name) (n : ℕ) (types : List ElemType) → length (numbered f n types) ≡ length types
length_numbered f n [] = refl
length_numbered f n (type ∷ types) = let k = length_numbered f (n + 1) types in omega (arith, k)

pub with_one : (k : ℕ) (f : ℕ → Name) (types : List ElemType) (x : Name) → k ≡ length types → 1 + k ≡ length (x ∷ numbered f 1 types)
with_one k f types x h = let n = length_numbered f 1 types in omega (arith, h, n)
