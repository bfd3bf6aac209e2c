-- What the rows of a typed system take at least, by the length of the path that is before them.
-- This project's profile.
use Rattle.std.specs.Prelude.{ℕ, suc, ◌+◌, ◌≡◌, ◌<◌, ◌⊎◌, List, [], ◌∷◌, length, Option, None, Some, if◌then◌else◌}
use Rattle.fb_words.specs.declared.elem_type.ElemType.{ElemType}
use Rattle.fb_model.specs.Names.{Name}
use Rattle.fb_model.specs.System.{Variable, Body, Basic, Served, Composite, Instances, nothing, instance, Resource, Device}
use Rattle.fb_model.specs.Wires.{Kind, Charted, Serviced}
use Rattle.fb_model.specs.Certificates.{is_boolean, state_names, events_of}
use Rattle.fb_model.specs.CertificateText.{most_characters}
use Rattle.fb_model.specs.NetworkFaults.{Placed}

-- rows of these names, each with so much beside its name
abbrev pub names_length : ℕ → List Name → ℕ
names_length one [] = 0
names_length one (n ∷ ns) = (one + length n) + names_length one ns

-- the row RANGE of a variable of a type; BOOL has none
abbrev pub range_length : ℕ → Name → ElemType → ℕ
range_length one name type = if is_boolean type then 0 else one + length name

-- those of variables
abbrev pub ranges_length : ℕ → List Variable → ℕ
ranges_length one [] = 0
ranges_length one (v ∷ vs) = range_length one v.name v.type + ranges_length one vs

-- those of a leaf
abbrev pub kind_ranges : ℕ → Kind → ℕ
kind_ranges one (Charted block) = ranges_length one block.inputs + (ranges_length one block.outputs + ranges_length one block.internals)
kind_ranges one (Serviced service) = 0

-- its rows RANGE, CHARGE and WEIGHT, behind a path of this length
abbrev pub own_length : ℕ → Kind → ℕ
own_length n kind = kind_ranges (n + 11) kind + (names_length (n + 12) (state_names kind) + names_length (n + 12) (events_of kind))

-- its rows FAR and FARSTATE, where there are such
abbrev pub far_length : Option ℕ → ℕ → Kind → ℕ
far_length None n kind = 0
far_length (Some r) n kind = names_length (n + 7) (events_of kind) + names_length (n + 12) (state_names kind)

abbrev pub kind_length : Option ℕ → ℕ → Kind → ℕ
kind_length repeats n kind = own_length n kind + far_length repeats n kind

-- all rows of a body whose path has this length, and of instances behind such a path
abbrev mutual
  pub body_length : Option ℕ → ℕ → Body → ℕ
  body_length repeats n (Basic block) = kind_length repeats n (Charted block)
  body_length repeats n (Served service) = kind_length repeats n (Serviced service)
  body_length repeats n (Composite face inner events values) = inner_length repeats n inner

  pub inner_length : Option ℕ → ℕ → Instances → ℕ
  inner_length repeats n nothing = 0
  inner_length repeats n (instance name parameters body rest) = body_length repeats (n + suc (length name)) body + inner_length repeats n rest

-- an instance behind such a path
abbrev pub placed_length : Option ℕ → ℕ → Placed → ℕ
placed_length repeats n i = body_length repeats (n + suc (length (i.0))) (i.2)

-- a resource behind its device's name
abbrev pub resource_length : Option ℕ → ℕ → Resource → ℕ
resource_length repeats n r = inner_length repeats (n + suc (length r.name)) r.inner

abbrev pub resources_length : Option ℕ → ℕ → List Resource → ℕ
resources_length repeats n [] = 0
resources_length repeats n (r ∷ rs) = resource_length repeats n r + resources_length repeats n rs

abbrev pub device_length : Option ℕ → Device → ℕ
device_length repeats d = resources_length repeats (suc (length d.name)) d.resources

abbrev pub devices_length : Option ℕ → List Device → ℕ
devices_length repeats [] = 0
devices_length repeats (d ∷ ds) = device_length repeats d + devices_length repeats ds

-- ---- lengths that are not told apart above the limit

abbrev pub AreAlike : ℕ → ℕ → Type 0
AreAlike n m = (n ≡ m) ⊎ ((most_characters < n) × (most_characters < m))
