-- Places, as they are printed: this project's profile.
use Rattle.std.specs.Prelude.{ℕ, List, string_bytes}
use Rattle.std.specs.Fmt.{decimal}
use Rattle.fb_faults.specs.declared.place.Place.{Place}
use Rattle.fb_faults.specs.declared.place.Place.TheVariants.{State, Event, Channel}

abbrev pub path_in : Place → List ℕ
path_in (State path) = string_bytes path
path_in (Event path) = string_bytes path
path_in (Channel number) = decimal number
