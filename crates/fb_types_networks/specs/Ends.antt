-- What the ends of connections name.
use Rattle.std.specs.Prelude.{◌≡◌, Bool, true, List, map}
use Rattle.fb_model.specs.Names.{Name}
use Rattle.fb_model.specs.System.{Instances, End}
use Rattle.fb_words.specs.declared.end.Carried.{Carried}
use Rattle.fb_words.specs.declared.end.Carried.TheVariants.{Events, Values}
use Rattle.fb_types_networks.specs.declared.typed.Instance.{Instance}
use Rattle.indexmap.specs.IndexSet.{IndexSet}
use Rattle.fb_model.specs.TextTyping.{widens}
use Rattle.fb_types_networks.specs.declared.typed.End.{End as Made}
use Rattle.fb_types_networks.specs.Views.{placed_of, end_of}
use Rattle.fb_model.specs.NetworkFaults.{placed_in}

abbrev pub inner_of : List Instance → Instances
inner_of is = placed_in (map placed_of is)

-- a table has the names of these instances, in order
pub record IsTabled (names : List Name) (instances : List Instance) : Type 0 where
  pub names_are : names ≡ map (λ k. k.0) (map placed_of instances)

-- the ends of a set, in order
abbrev pub ends_of : {S : Type 0} → IndexSet Made S → List End
ends_of s = map end_of s.keys

-- whether what a source carries may go to a target
abbrev pub carries_to : Carried → Carried → Bool
carries_to (Values a) (Values b) = widens a b
carries_to (Values a) Events = true
carries_to Events c = true
