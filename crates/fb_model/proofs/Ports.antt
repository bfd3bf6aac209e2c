-- The variables of services: their names differ.
use Rattle.std.proofs.Common.{◌≡◌, ℕ, ◌+◌, ◌-◌, ◌*◌, ◌/◌, ◌%◌, ◌<◌, sym, ap, refl, Bool, true, false, List, [], ◌∷◌, ◌++◌, None, Some, ◌∙◌, nat_lt, arith}
use Rattle.std.specs.Prelude.{if◌then◌else◌}
use Rattle.std.specs.List.{AllByRecursion}
use Rattle.std.specs.Str.{bytes_eq}
use Rattle.fb_words.specs.declared.elem_type.ElemType.{ElemType}
use Rattle.fb_model.specs.Names.{Name}
use Rattle.fb_model.specs.System.{Variable, Service, Input, Output, Publish, Subscribe, Delay, Cycle, Restart}
use Rattle.fb_model.specs.Services.{qi, qo, digits, received, sent, ports, service_outputs}
use Rattle.fb_model.specs.NetworkTyping.{variable_named}
use Rattle.fb_model.specs.Wires.{Serviced}
use Rattle.fb_model.specs.Store.{variable_names}
use Rattle.fb_model.specs.Ranges.{variables}
use Rattle.fb_model.proofs.Lists.{same_name}
use Rattle.fb_model.proofs.Placed.{Apart, apart_sym, name_same}

-- ---- variables whose names differ

passed : (v : Variable) (vs ws : List Variable) → AllByRecursion (λ n. bytes_eq v.name n ≡ false) (variable_names ws) → AllByRecursion (λ (w : Variable). variable_named vs w.name ≡ Some w) ws → AllByRecursion (λ (w : Variable). variable_named (v ∷ vs) w.name ≡ Some w) ws
passed v vs [] a h = tt
passed v vs (w ∷ ws) a h = (ap (λ b. if b then Some v else variable_named vs w.name) (apart_sym v.name w.name a.0) ∙ h.0, passed v vs ws a.1 h.1)

-- each is the first one of its name
pub first_each : (vs : List Variable) → Apart (variable_names vs) → AllByRecursion (λ (v : Variable). variable_named vs v.name ≡ Some v) vs
first_each [] a = tt
first_each (v ∷ vs) a = (ap (λ b. if b then Some v else variable_named vs v.name) (name_same v.name), passed v vs vs a.0 (first_each vs a.1))

-- ---- numbered names differ

number_in : List ℕ → ℕ
number_in [] = 0
number_in (a ∷ []) = a - 48
number_in (a ∷ b ∷ rest) = (a - 48) * 10 + (b - 48)

back : (n : ℕ) → number_in (digits n) ≡ n
unfolding number_in
back n = by (nat_lt n 10) where
  by : (b : Bool) → number_in (if b then (48 + n) ∷ [] else (48 + n / 10) ∷ (48 + n % 10) ∷ []) ≡ n
  by true = omega arith
  by false = omega arith

digits_differ : (m n : ℕ) → m < n → bytes_eq (digits m) (digits n) ≡ false
digits_differ m n h = by (bytes_eq (digits m) (digits n)) refl where
  by : (b : Bool) → bytes_eq (digits m) (digits n) ≡ b → b ≡ false
  by true e = let s : m ≡ n = sym (back m) ∙ (ap number_in (same_name (digits m) (digits n) e) ∙ back n) in absurd (omega (arith, h, s))
  by false e = refl

-- each number has a name of its own
abbrev Differ : (ℕ → Name) → Type 0
Differ f = (m n : ℕ) → m < n → bytes_eq (f m) (f n) ≡ false

received_differ : Differ received
received_differ m n h = digits_differ m n h

sent_differ : Differ sent
sent_differ m n h = digits_differ m n h

-- a name differs from those of ports, and from those behind them
abbrev pub NoneIs : Name → List Variable → Type 0
NoneIs x vs = AllByRecursion (λ m. bytes_eq x m ≡ false) (variable_names vs)

none_of : (f : ℕ → Name) (x : Name) (ys : List Variable) → ((n : ℕ) → bytes_eq x (f n) ≡ false) → NoneIs x ys → (n : ℕ) (types : List ElemType) → NoneIs x (ports f n types ++ ys)
none_of f x ys d h n [] = h
none_of f x ys d h n (type ∷ types) = (d n, none_of f x ys d h (n + 1) types)

later : (f : ℕ → Name) → Differ f → (ys : List Variable) → ((m : ℕ) → NoneIs (f m) ys) → (m n : ℕ) (types : List ElemType) → m < n → NoneIs (f m) (ports f n types ++ ys)
later f d ys h m n [] l = h m
later f d ys h m n (type ∷ types) l = (d m n l, later f d ys h m (n + 1) types (omega (arith, l)))

ports_apart : (f : ℕ → Name) → Differ f → (ys : List Variable) → Apart (variable_names ys) → ((m : ℕ) → NoneIs (f m) ys) → (n : ℕ) (types : List ElemType) → Apart (variable_names (ports f n types ++ ys))
ports_apart f d ys a h n [] = a
ports_apart f d ys a h n (type ∷ types) = (later f d ys h n (n + 1) types (omega arith), ports_apart f d ys a h (n + 1) types)

passed_by : (f : ℕ → Name) (x : Name) (ys : List Variable) → ((n : ℕ) → bytes_eq x (f n) ≡ false) → (n : ℕ) (types : List ElemType) → variable_named (ports f n types ++ ys) x ≡ variable_named ys x
passed_by f x ys d n [] = refl
passed_by f x ys d n (type ∷ types) = ap (λ b. if b then Some (record { name = f n; type = type; length = None; start = None }) else variable_named (ports f (n + 1) types ++ ys) x) (d n) ∙ passed_by f x ys d (n + 1) types

-- ---- services

pub service_apart : (s : Service) → Apart (variable_names (variables (Serviced s)))
service_apart (Input number types) = ports_apart received received_differ [] tt (λ m. tt) 1 types
service_apart (Output number types) = ports_apart sent sent_differ [] tt (λ m. tt) 1 types
service_apart (Publish channel types) =
    let last : List Variable = service_outputs (Publish channel types) in
    (none_of sent qi last (λ n. refl) (refl, tt) 1 types, ports_apart sent sent_differ last (tt, tt) (λ m. (refl, tt)) 1 types)
service_apart (Subscribe channel types) =
    ((refl, none_of received qi [] (λ n. refl) tt 1 types), (none_of received qo [] (λ n. refl) tt 1 types, ports_apart received received_differ [] tt (λ m. tt) 1 types))
service_apart Delay = (tt, tt)
service_apart Cycle = (tt, tt)
service_apart Restart = tt
