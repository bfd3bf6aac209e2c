-- Which rows may be added: this project's profile.
use Rattle.std.specs.Prelude.{ℕ, Bool, List, ◌&&◌, nat_le}
use Rattle.std.specs.Str.{bytes_eq}
use Rattle.fb_model.specs.Spelling.{upper}
use Rattle.fb_model.specs.CertificateText.{TextRow, repeats, range, charge, weight, depth, far, far_state, channel, most_steps, most_places, most_repeats, most_channel}
use Rattle.fb_cert.specs.Reading.{is_path}

-- the text is in upper case
abbrev pub is_upper : List ℕ → Bool
is_upper cs = bytes_eq (upper cs) cs

-- names in upper case, joined by dots
abbrev pub is_upper_path : List ℕ → Bool
is_upper_path path = is_path path && is_upper path

-- steps and places within their bounds
abbrev pub is_amount : ℕ → ℕ → Bool
is_amount steps places = nat_le steps most_steps && nat_le places most_places

-- a number within its bounds
abbrev pub is_within : ℕ → ℕ → ℕ → Bool
is_within low high n = nat_le low n && nat_le n high

-- a text can say the row; the bounds of a range are two numbers of LINT in order by their type
abbrev pub is_sayable : TextRow → Bool
is_sayable (repeats n) = is_within 1 most_repeats n
is_sayable (range path low high) = is_upper_path path
is_sayable (charge path steps places) = is_upper_path path && is_amount steps places
is_sayable (weight path steps places) = is_upper_path path && is_amount steps places
is_sayable (depth path n) = is_upper_path path && is_within 1 most_places n
is_sayable (far path n) = is_upper_path path && is_within 0 most_steps n
is_sayable (far_state path n) = is_upper_path path && is_within 0 most_steps n
is_sayable (channel number n) = is_within 0 most_channel number && is_within 0 most_steps n
