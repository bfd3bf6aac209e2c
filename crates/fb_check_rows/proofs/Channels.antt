-- The channels that tables name are those that the system's leaves name.
use Rattle.std.specs.Map.{lookup}
use Rattle.std.proofs.Common.{◌≡◌, ℕ, zero, suc, ◌+◌, ◌==◌, Bool, true, false, cond, is_some, slice_get, slice_index_or, length, ◌<◌, arith, ◌||◌, List, [], ◌∷◌, ◌++◌, map, Option, Some, None, refl, sym, ap, subst, ◌∙◌, Result, Ok, Err, OnOk, MatchResult}
use Rattle.std.specs.List.{list_any, flat_map, AllByRecursion}
use Rattle.std.proofs.lemmas.List.Folds.{list_any-append}
use Rattle.std.proofs.lemmas.Bool.{eqb-true}
use Rattle.fb_model.specs.System as book
use Rattle.fb_model.specs.Names.{Path}
use Rattle.fb_model.specs.Wires as wires
use Rattle.fb_model.specs.Wires.{leaves_from, leaves, resource_leaves}
use Rattle.fb_model.specs.Certificates as cert
use Rattle.fb_model.specs.Certificates.{channel_in, channels_of, with_number, with_repeats, all_leaves}
use Rattle.fb_model.proofs.Networks.{among_with, number_same, number_turned}
use Rattle.fb_flat.specs.declared.flat.Leaf.{Leaf}
use Rattle.fb_flat.specs.declared.flat.FlatResource.{FlatResource}
use Rattle.fb_flat.specs.declared.flat.FlatDevice.{FlatDevice}
use Rattle.fb_flat.specs.Leaves.{kind_of}
use Rattle.fb_flat.specs.Tables.{AreLeaves, AreResources, AreDevices}
use Rattle.fb_cert.specs.Views.{Rows, has_number, channel_rows}
use Rattle.fb_faults.specs.declared.row.RowFault.{RowFault}
use Rattle.fb_faults.specs.declared.row.RowFault.TheVariants.{OutOfMemory, Unknown, Missing, UnknownChannel, MissingChannel}
use Rattle.fb_check_rows.specs.Channels.{is_one, at_most_one, leaf_channels, resource_channels, device_channels, channels_named, HasChannel, IsNamed, MissesChannel, KnowsNot, channels_due, HaveSameChannels, IsOtherChannel}

-- ---- what is among the channels of leaves

-- the channel of each leaf that has one
abbrev named : List wires.Leaf → List ℕ
named all = flat_map (λ (leaf : wires.Leaf). at_most_one (channel_in leaf.kind)) all

named_append : (xs ys : List wires.Leaf) → named (xs ++ ys) ≡ named xs ++ named ys
named_append [] ys = refl
named_append (x ∷ xs) ys = by (channel_in x.kind) (named_append xs ys) where
  by : (o : Option ℕ) → named (xs ++ ys) ≡ named xs ++ named ys → at_most_one o ++ named (xs ++ ys) ≡ (at_most_one o ++ named xs) ++ named ys
  by None h = h
  by (Some c) h = ap (λ ns. c ∷ ns) h

-- each once and upwards, or as they come: the same are among them
same_named : (c : ℕ) (all : List wires.Leaf) → is_one c (named all) ≡ is_one c (channels_of all)
same_named c [] = refl
same_named c (leaf ∷ rest) = by (channel_in leaf.kind) (same_named c rest) where
  by : (o : Option ℕ) → is_one c (named rest) ≡ is_one c (channels_of rest) → is_one c (at_most_one o ++ named rest) ≡ is_one c (elim o [ None ↦ channels_of rest | Some n ↦ with_number n (channels_of rest) ])
  by None h = h
  by (Some n) h = ap (λ b. (c == n) || b) h ∙ sym (among_with c n (channels_of rest))

-- ---- tables

leaves_named : (ls : List Leaf) (all : List wires.Leaf) → AreLeaves ls all → flat_map leaf_channels ls ≡ named all
leaves_named [] [] a = refl
leaves_named [] (leaf ∷ all) a = absurd a
leaves_named (l ∷ ls) [] a = absurd a
leaves_named (l ∷ ls) (leaf ∷ all) a = ap (λ k. at_most_one (channel_in k) ++ flat_map leaf_channels ls) a.0.kind ∙ ap (λ ns. at_most_one (channel_in leaf.kind) ++ ns) (leaves_named ls all a.1)

resources_named : (n : ℕ) (path : Path) (fs : List FlatResource) (rs : List book.Resource) → AreResources n path fs rs → flat_map resource_channels fs ≡ named (leaves_from n path rs)
resources_named n path [] [] a = refl
resources_named n path [] (r ∷ rs) a = absurd a
resources_named n path (f ∷ fs) [] a = absurd a
resources_named n path (f ∷ fs) (r ∷ rs) a =
    ap (λ ns. ns ++ flat_map resource_channels fs) (leaves_named f.leaves.items (resource_leaves n path r) a.0.leaves)
    ∙ ap (λ ns. named (resource_leaves n path r) ++ ns) (resources_named (n + 1) path fs rs a.1)
    ∙ sym (named_append (resource_leaves n path r) (leaves_from (n + 1) path rs))

devices_named : (fs : List FlatDevice) (ds : List book.Device) → AreDevices fs ds → channels_named fs ≡ named (all_leaves ds)
devices_named [] [] a = refl
devices_named [] (d ∷ ds) a = absurd a
devices_named (f ∷ fs) [] a = absurd a
devices_named (f ∷ fs) (d ∷ ds) a =
    ap (λ ns. ns ++ channels_named fs) (resources_named 0 (d.name ∷ []) f.resources.items d.resources a.0.resources)
    ∙ ap (λ ns. named (leaves d) ++ ns) (devices_named fs ds a.1)
    ∙ sym (named_append (leaves d) (all_leaves ds))

-- the channels of which rows must be there, in the tables and in the system
pub due_same : (repeats : Option ℕ) (c : ℕ) (fs : List FlatDevice) (ds : List book.Device) → AreDevices fs ds → is_one c (channels_due repeats fs) ≡ is_one c (with_repeats repeats (channels_of (all_leaves ds)))
due_same None c fs ds a = refl
due_same (Some r) c fs ds a = ap (is_one c) (devices_named fs ds a) ∙ same_named c (all_leaves ds)

pub rows_same : (c : ℕ) (rows : List (ℕ × ℕ)) → is_one c (cert.channel_rows (channel_rows rows)) ≡ has_number c rows
rows_same c [] = refl
rows_same c (r ∷ rs) = ap (λ b. (c == r.0) || b) (rows_same c rs)

-- ---- from the two tests to one

both : (a b : Bool) → (a ≡ true → b ≡ true) → (b ≡ true → a ≡ true) → a ≡ b
both true true f g = refl
both true false f g = sym (f refl)
both false true f g = g refl
both false false f g = refl

each_has : (rows : Rows) (c : ℕ) (ns : List ℕ) → AllByRecursion (HasChannel rows) ns → is_one c ns ≡ true → has_number c rows.channels ≡ true
each_has rows c [] h e = absurd cc
each_has rows c (n ∷ ns) h e = by (c == n) refl e (each_has rows c ns h.1) where
  by : (b : Bool) → (c == n) ≡ b → (b || is_one c ns) ≡ true → (is_one c ns ≡ true → has_number c rows.channels ≡ true) → has_number c rows.channels ≡ true
  by true t e k = subst (λ j. has_number j rows.channels ≡ true) (sym (eqb-true c n t)) h.0
  by false t e k = k e

each_named : (ns : List ℕ) (c : ℕ) (rows : List (ℕ × ℕ)) → AllByRecursion (IsNamed ns) rows → has_number c rows ≡ true → is_one c ns ≡ true
each_named ns c [] h e = absurd cc
each_named ns c (r ∷ rs) h e = by (c == r.0) refl e (each_named ns c rs h.1) where
  by : (b : Bool) → (c == r.0) ≡ b → (b || has_number c rs) ≡ true → (has_number c rs ≡ true → is_one c ns ≡ true) → is_one c ns ≡ true
  by true t e k = subst (λ j. is_one j ns ≡ true) (sym (eqb-true c r.0 t)) h.0
  by false t e k = k e

-- each channel has a row, and each row is of a channel
pub both_ways : (fs : List FlatDevice) (rows : Rows) (ns : List ℕ) → ns ≡ channels_due rows.repeats fs → AllByRecursion (HasChannel rows) ns → AllByRecursion (IsNamed ns) rows.channels → HaveSameChannels fs rows
both_ways fs rows ns e h k c = both (has_number c rows.channels) (is_one c ns) (each_named ns c rows.channels k) (each_has rows c ns h) ∙ ap (is_one c) e

-- ---- one row after another

-- a channel has a row just where one is found
pub has_found : (c : ℕ) (rows : List (ℕ × ℕ)) → is_some (lookup (λ k. c == k) rows) ≡ has_number c rows
has_found c [] = refl
has_found c (r ∷ rs) = by (c == r.0) (has_found c rs) where
  by : (b : Bool) → is_some (lookup (λ k. c == k) rs) ≡ has_number c rs → is_some (cond b (Some r.1) (lookup (λ k. c == k) rs)) ≡ (b || has_number c rs)
  by true h = refl
  by false h = h

pub turned_one : (c : ℕ) (ns : List ℕ) → list_any (λ n. n == c) ns ≡ is_one c ns
turned_one c [] = refl
turned_one c (n ∷ ns) = ap (λ b. b || list_any (λ m. m == c) ns) (number_turned n c) ∙ ap (λ b. (c == n) || b) (turned_one c ns)

or_true : (b : Bool) → (b || true) ≡ true
or_true true = refl
or_true false = refl

pub slice_at : (ns : List ℕ) (i : ℕ) → i < length ns → slice_get ns i ≡ Some (slice_index_or ns i 0)
slice_at [] i l = absurd (omega (arith, l))
slice_at (n ∷ ns) zero l = refl
slice_at (n ∷ ns) (suc i) l = slice_at ns i (omega (arith, l))

-- what stands at an index is among them
one_at : (ns : List ℕ) (i c : ℕ) → slice_get ns i ≡ Some c → is_one c ns ≡ true
one_at [] i c h = absurd cc
one_at (n ∷ ns) zero c h = let e : n ≡ c = cc in ap (λ k. (c == k) || is_one c ns) e ∙ ap (λ b. b || is_one c ns) (number_same c)
one_at (n ∷ ns) (suc i) c h = ap (λ b. (c == n) || b) (one_at ns i c h) ∙ or_true (c == n)

pub number_at : (ns : List ℕ) (i : ℕ) → i < length ns → is_one (slice_index_or ns i 0) ns ≡ true
number_at ns i l = one_at ns i (slice_index_or ns i 0) (slice_at ns i l)

pub row_at : (rows : List (ℕ × ℕ)) (i : ℕ) (r : ℕ × ℕ) → slice_get rows i ≡ Some r → has_number r.0 rows ≡ true
row_at [] i r h = absurd cc
row_at (s ∷ rows) zero r h = let e : s ≡ r = cc in ap (λ z. (r.0 == z.0) || has_number r.0 rows) e ∙ ap (λ b. b || has_number r.0 rows) (number_same r.0)
row_at (s ∷ rows) (suc i) r h = ap (λ b. (r.0 == s.0) || b) (row_at rows i r h) ∙ or_true (r.0 == s.0)

-- ---- refusals

pub missing_is : (fs : List FlatDevice) (rows : Rows) (ns : List ℕ) (f : RowFault) → ns ≡ channels_due rows.repeats fs → MissesChannel ns rows f → IsOtherChannel fs rows f
missing_is fs rows ns OutOfMemory e h = tt
missing_is fs rows ns (Unknown path) e h = h
missing_is fs rows ns (Missing path) e h = h
missing_is fs rows ns (UnknownChannel c) e h = absurd h
missing_is fs rows ns (MissingChannel c) e h = (h.0, ap (is_one c) (sym e) ∙ h.1)

pub unknown_is : (fs : List FlatDevice) (rows : Rows) (ns : List ℕ) (f : RowFault) → ns ≡ channels_due rows.repeats fs → KnowsNot ns rows f → IsOtherChannel fs rows f
unknown_is fs rows ns OutOfMemory e h = tt
unknown_is fs rows ns (Unknown path) e h = h
unknown_is fs rows ns (Missing path) e h = h
unknown_is fs rows ns (UnknownChannel c) e h = (h.0, ap (is_one c) (sym e) ∙ h.1)
unknown_is fs rows ns (MissingChannel c) e h = absurd h

-- what holds where it is accepted
pub where_accepted : {E Q : Type 0} (P : Type 0) (R : E → Type 0) → (P → Q) → (r : Result (Unit {0}) E) → MatchResult r (λ u. P) R → OnOk r Q
where_accepted P R g (Ok x) h = g h
where_accepted P R g (Err e) h = tt
