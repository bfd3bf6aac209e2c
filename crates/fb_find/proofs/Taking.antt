-- Ranges by tables, leaf by leaf; those that are taken from other rows.
use Rattle.std.proofs.Common.{◌≡◌, ℕ, Bool, true, false, Option, inl, inr, List, [], ◌∷◌, ◌++◌, length, refl, sym, ap, ap₂, ◌∙◌, arith, append_assoc, string_bytes, if◌then◌else◌}
use Rattle.std.specs.List.{AllZip}
use Rattle.fb_model.specs.Names.{Name, Path, Place, at_place}
use Rattle.fb_model.specs.System.{System, Variable}
use Rattle.fb_model.specs.Wires.{Kind, Charted, Serviced, Leaf}
use Rattle.fb_model.specs.Spans.{Span}
use Rattle.fb_model.specs.Clear.{Spans}
use Rattle.fb_model.specs.Ranges.{Range, rows, variables}
use Rattle.fb_model.specs.Certificates.{Certificate, is_boolean, of_kind, range_places, ranged, ranged_variables}
use Rattle.fb_model.specs.FinderRanges.{IsTable, kind_rows, leaf_rows, range_row, rows_by}
use Rattle.fb_model_laws.proofs.Places.{variables_join}
use Rattle.fb_cert.specs.Views.{book_of, range_rows, Rows}
use Rattle.fb_model.specs.Finding.{AreTaken, IsFoundWith, IsFoundWithin}
use Rattle.fb_faults.specs.declared.no_bound.NoBound.{NoBound}
use Rattle.fb_faults.specs.declared.no_bound.NoBound.TheVariants.{OutOfMemory, Cycle, NoRange, Limit}
use Rattle.fb_find_ranges.specs.Found.{spelled}
use Rattle.fb_find.specs.Bounds.{IsNoBoundWithin, IsStrayFault}
use Rattle.fb_model.specs.Finding.{IsAboveWith, follows_many, needs_depth, needs_far, needs_places, needs_steps, IsNeverBound, IsNoBound, IsNoBoundAt}

-- ---- places of rows

places_join : (xs ys : List Range) → range_places (xs ++ ys) ≡ range_places xs ++ range_places ys
places_join [] ys = refl
places_join (x ∷ xs) ys = ap (λ ps. at_place x.path x.variable ∷ ps) (places_join xs ys)

rows_places : (f : Variable → Span) (path : Path) (vs : List Variable) → range_places (rows_by f path vs) ≡ ranged_variables path vs
rows_places f path [] = refl
rows_places f path (v ∷ vs) = by (is_boolean v.type) (rows_places f path vs) where
  by : (b : Bool) → range_places (rows_by f path vs) ≡ ranged_variables path vs
      → range_places (if b then rows_by f path vs else range_row path v.name (f v) ∷ rows_by f path vs) ≡ (if b then ranged_variables path vs else at_place path v.name ∷ ranged_variables path vs)
  by true e = e
  by false e = ap (λ ps. at_place path v.name ∷ ps) e

kind_places : (f : Variable → Span) (path : Path) (kind : Kind) → range_places (kind_rows f path kind) ≡ of_kind path kind
kind_places f path (Charted block) =
    let ins = ranged_variables path block.inputs in
    rows_places f path (variables (Charted block))
    ∙ (variables_join path block.inputs (block.outputs ++ block.internals)
    ∙ (ap (λ (ps : List Place). ins ++ ps) (variables_join path block.outputs block.internals) ∙ sym (append_assoc ins (ranged_variables path block.outputs) (ranged_variables path block.internals))))
kind_places f path (Serviced service) = refl

-- the rows that tables spell are those of all variables, in their order
pub spelled_places : (tables : List Spans) (all : List Leaf) → length tables ≡ length all → range_places (spelled tables all) ≡ ranged all
spelled_places [] [] e = refl
spelled_places [] (leaf ∷ all) e = absurd (omega (arith, e))
spelled_places (t ∷ tables) [] e = absurd (omega (arith, e))
spelled_places (t ∷ tables) (leaf ∷ all) e =
    places_join (kind_rows (λ v. t v.name) leaf.path leaf.kind) (spelled tables all) ∙ ap₂ (λ (ps : List Place) (qs : List Place). ps ++ qs) (kind_places (λ v. t v.name) leaf.path leaf.kind) (spelled_places tables all (omega (arith, e)))

-- ---- rows of tables that have the ranges of others

taken_kind : (others : List Range) (t : Spans) (leaf : Leaf) (kind : Kind) → IsTable others t leaf kind → kind_rows (λ v. t v.name) leaf.path kind ≡ kind_rows (λ v. rows others leaf.path leaf.kind v.name) leaf.path kind
taken_kind others t leaf (Charted block) h = ap (λ (s : Spans). kind_rows (λ v. s v.name) leaf.path (Charted block)) h
taken_kind others t leaf (Serviced service) h = refl

pub taken_rows : (others : List Range) (tables : List Spans) (all : List Leaf) → AllZip (λ spans (leaf : Leaf). IsTable others spans leaf leaf.kind) tables all → spelled tables all ≡ leaf_rows (λ leaf v. rows others leaf.path leaf.kind v.name) all
taken_rows others [] [] h = refl
taken_rows others [] (leaf ∷ all) h = absurd h
taken_rows others (t ∷ tables) [] h = absurd h
taken_rows others (t ∷ tables) (leaf ∷ all) h = ap₂ (λ (xs ys : List Range). xs ++ ys) (taken_kind others t leaf leaf.kind h.0) (taken_rows others tables all h.1)

-- ---- refusals with fewer ranges, and with more

pub above_weaker : (Are More : List Range → Type 0) (repeats : Option ℕ) (s : System) (resource : Name) → ((ranges : List Range) → Are ranges → More ranges) → IsAboveWith Are repeats s resource → IsAboveWith More repeats s resource
above_weaker Are More repeats s resource f (follows_many d r c e n l) = follows_many d r c e n l
above_weaker Are More repeats s resource f (needs_steps ranges a g) = needs_steps ranges (f ranges a) g
above_weaker Are More repeats s resource f (needs_places ranges a g) = needs_places ranges (f ranges a) g
above_weaker Are More repeats s resource f (needs_far r ranges e a g) = needs_far r ranges e (f ranges a) g
above_weaker Are More repeats s resource f (needs_depth ranges a g) = needs_depth ranges (f ranges a) g

pub never_found : (repeats : Option ℕ) (s : System) (fault : NoBound) → IsNeverBound repeats s fault → IsNoBound repeats s fault
never_found repeats s OutOfMemory h = tt
never_found repeats s (Cycle places) h = h
never_found repeats s (NoRange path) h = absurd h
never_found repeats s (Limit resource) h = above_weaker (λ rs. ⊥) _ repeats s (string_bytes resource) (λ rs a. absurd a) h

pub never_within : (given : Rows) (repeats : Option ℕ) (s : System) (fault : NoBound) → IsNeverBound repeats s fault → IsNoBoundWithin given repeats s fault
never_within given repeats s OutOfMemory h = tt
never_within given repeats s (Cycle places) h = h
never_within given repeats s (NoRange path) h = absurd h
never_within given repeats s (Limit resource) h = above_weaker (λ rs. ⊥) (AreTaken (range_rows given.ranges) s.devices) repeats s (string_bytes resource) (λ rs a. absurd a) h

pub taken_told : (given : Rows) (ranges : List Range) (repeats : Option ℕ) (s : System) (fault : NoBound) → AreTaken (range_rows given.ranges) s.devices ranges → IsNoBoundAt ranges repeats s fault → IsNoBoundWithin given repeats s fault
taken_told given ranges repeats s OutOfMemory are h = tt
taken_told given ranges repeats s (Cycle places) are h = h
taken_told given ranges repeats s (NoRange path) are h = inr (ranges, are, h)
taken_told given ranges repeats s (Limit resource) are h = above_weaker (λ rs. rs ≡ ranges) (AreTaken (range_rows given.ranges) s.devices) repeats s (string_bytes resource) (λ rs e. e ∙ are) h

-- a row that is of no variable
pub stray_told : (given rows : Rows) (repeats : Option ℕ) (s : System) (fault : NoBound) → IsFoundWithin (range_rows given.ranges) repeats s (book_of rows) → IsStrayFault given rows fault → IsNoBoundWithin given repeats s fault
stray_told given rows repeats s OutOfMemory found h = tt
stray_told given rows repeats s (Cycle places) found h = absurd h
stray_told given rows repeats s (NoRange path) found h = inl (rows, found, h)
stray_told given rows repeats s (Limit resource) found h = absurd h

-- ---- certificates

pub found_with : (Are More : List Range → Type 0) (repeats : Option ℕ) (s : System) (cert : Certificate) → ((ranges : List Range) → Are ranges → More ranges) → IsFoundWith Are repeats s cert → IsFoundWith More repeats s cert
found_with Are More repeats s cert f found = record { repeats_are = found.repeats_are; ordered = found.ordered; ranges = f cert.ranges found.ranges; fits = found.fits; least = found.least; least_far = found.least_far }
