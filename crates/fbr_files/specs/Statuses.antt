-- The statuses of refusals: this project's profile.
use Rattle.std.specs.Prelude.{ℕ, ◌==◌, nat_le, ◌&&◌, if◌then◌else◌}

-- a certificate that does not fit is 1, want of memory is 4, and a text that is at fault is 2
abbrev pub status_of_code : ℕ → ℕ
status_of_code code = if nat_le 32 code && nat_le code 44 then 1 else (if code == 9 then 4 else 2)

-- want of memory is 4, and a system without a certificate is 1
abbrev pub status_of_no_bound : ℕ → ℕ
status_of_no_bound code = if code == 9 then 4 else 1
