-- Tables of certificates by their paths.
use Rattle.std.proofs.Common.{◌≡◌, ℕ, ◌+◌, Bool, true, false, ◌||◌, ◌++◌, cond, List, [], ◌∷◌, drop, subst, map, Option, None, Some, is_some, refl, sym, ap, ◌∙◌, string_bytes}
use Rattle.std.specs.List.{list_any}
use Rattle.std.specs.Str.{bytes_eq}
use Rattle.std.specs.declared.string.String.{String}
use Rattle.std.specs.declared.alloc.Global.{Global}
use Rattle.fb_model.specs.Names.{Name, is_in}
use Rattle.fb_model.specs.Certificates.{names, event_names, is_boolean}
use Rattle.std.specs.declared.vec.Vec.{Vec}
use Rattle.fb_types_blocks.specs.declared.typed.Action.{Action}
use Rattle.fb_types_blocks.specs.declared.typed.Variable.{Variable}
use Rattle.fb_types_blocks.specs.Views.{action_of, event_of, declared_of}
use Rattle.fb_model.specs.System as book
use Rattle.fb_model.specs.Services.{service_events, service_event_inputs, arrivals}
use Rattle.fb_model.specs.BlockTyping.{variable_of}
use Rattle.fb_types_blocks.proofs.Lists.{any_map}
use Rattle.std.specs.Option.{option_map}
use Rattle.fb_ranges_intervals.specs.declared.interval.Interval.{Interval}
use Rattle.fb_ranges_intervals.specs.Views.{span_of}
use Rattle.fb_cert.specs.Views.{Table, first_at, Rows}
use Rattle.fb_check_rows.specs.declared.kind.PathRows.{PathRows}
use Rattle.fb_check_rows.specs.declared.kind.PathRows.TheVariants.{Charges, Weights, Ranges, Depths, Fars, FarStates}
use Rattle.fb_flat.specs.declared.flat.FlatDevice.{FlatDevice}
use Rattle.fb_check_rows.specs.Members.{gathered, with_name}
use Rattle.fb_check_rows.specs.Texts.{paths, texts_in, ranged_names, HasSameRows, HaveSameRows, HaveSameOwn, HaveSameFar}
use Rattle.fb_flat.specs.Sites.{dotted}

-- a table has a path just where it has a first row of it
pub has_first : {V : Type 0} (path : Name) (rows : Table V) → is_some (first_at path rows) ≡ is_in path (paths rows)
has_first path [] = refl
has_first path (r ∷ rows) = by (bytes_eq path r.0) r.1 (first_at path rows) (is_in path (paths rows)) (has_first path rows) where
  by : {V : Type 0} (t : Bool) (v : V) (o : Option V) (u : Bool) → is_some o ≡ u → is_some (cond t (Some v) o) ≡ (t || u)
  by true v o u h = refl
  by false v o u h = h

-- an interval is there just where its span is
pub some_spanned : (o : Option Interval) → is_some o ≡ is_some (option_map span_of o)
some_spanned None = refl
some_spanned (Some i) = refl

-- whether a set of texts has a name
pub known : (x : Name) (keys : List (String Global)) (t : Bool) → t ≡ list_any (λ k. bytes_eq x (string_bytes k)) keys → is_in x (map string_bytes keys) ≡ t
known x keys t h = any_map (bytes_eq x) string_bytes keys ∙ sym h

pub state_names_are : (xs : List (String Global × Vec Action Global)) → names (map (λ p. record { name = string_bytes p.0; actions = map action_of p.1.items }) xs) ≡ map (λ p. string_bytes p.0) xs
state_names_are [] = refl
state_names_are (x ∷ xs) = ap (λ ns. string_bytes x.0 ∷ ns) (state_names_are xs)

pub event_names_are : (xs : List (String Global × Vec (String Global) Global)) → event_names (map (λ p. event_of (string_bytes p.0) p.1.items) xs) ≡ map (λ p. string_bytes p.0) xs
event_names_are [] = refl
event_names_are (x ∷ xs) = ap (λ ns. string_bytes x.0 ∷ ns) (event_names_are xs)

-- variables by their entries
abbrev pub listed : List (String Global × Variable) → List book.Variable
listed es = map variable_of (map (λ p. declared_of (string_bytes p.0) p.1) es)

-- a service's events are its event inputs, and then its arrival
pub events_are : (s : book.Service) → service_events s ≡ service_event_inputs s ++ arrivals s
events_are (book.Input number types) = refl
events_are (book.Output number types) = refl
events_are (book.Publish channel types) = refl
events_are (book.Subscribe channel types) = refl
events_are book.Delay = refl
events_are book.Cycle = refl
events_are book.Restart = refl

-- ---- the rows of tables and of a certificate

same_kind : (devices : List FlatDevice) (rows : Rows) → HaveSameOwn devices rows → HaveSameFar devices rows → (kind : PathRows) → HasSameRows devices rows kind
same_kind devices rows o f Charges = o.charges
same_kind devices rows o f Weights = o.weights
same_kind devices rows o f Ranges = o.ranges
same_kind devices rows o f Depths = o.depths
same_kind devices rows o f Fars = f.fars
same_kind devices rows o f FarStates = f.far_states

-- the same rows of each kind
pub are_same : (devices : List FlatDevice) (rows : Rows) → HaveSameOwn devices rows → HaveSameFar devices rows → HaveSameRows devices rows
are_same devices rows o f = record { paths = same_kind devices rows o f; channels = f.channels }

-- ---- variables, one after another

-- a variable that is not BOOL has a row
pub ranged_on : (p : Name) (xs : List (String Global × Variable)) (k : ℕ) (x : String Global × Variable) (old new goal : List Name) → drop k xs ≡ x ∷ drop (k + 1) xs → is_boolean x.1.of_type ≡ false → new ≡ with_name old (dotted p (string_bytes x.0))
    → gathered old (texts_in p (ranged_names (listed (drop k xs)))) ≡ goal → gathered new (texts_in p (ranged_names (listed (drop (k + 1) xs)))) ≡ goal
ranged_on p xs k x old new goal e b h so =
    ap (λ ns. gathered ns (texts_in p (ranged_names (listed (drop (k + 1) xs))))) h
    ∙ subst (λ t. gathered old (texts_in p (cond t (ranged_names (listed (drop (k + 1) xs))) (string_bytes x.0 ∷ ranged_names (listed (drop (k + 1) xs))))) ≡ goal) b
    (subst (λ ys. gathered old (texts_in p (ranged_names (listed ys))) ≡ goal) e so)

-- one that is BOOL has none
pub ranged_over : (p : Name) (xs : List (String Global × Variable)) (k : ℕ) (x : String Global × Variable) (old goal : List Name) → drop k xs ≡ x ∷ drop (k + 1) xs → is_boolean x.1.of_type ≡ true
    → gathered old (texts_in p (ranged_names (listed (drop k xs)))) ≡ goal → gathered old (texts_in p (ranged_names (listed (drop (k + 1) xs)))) ≡ goal
ranged_over p xs k x old goal e b so =
    subst (λ t. gathered old (texts_in p (cond t (ranged_names (listed (drop (k + 1) xs))) (string_bytes x.0 ∷ ranged_names (listed (drop (k + 1) xs))))) ≡ goal) b
    (subst (λ ys. gathered old (texts_in p (ranged_names (listed ys))) ≡ goal) e so)
