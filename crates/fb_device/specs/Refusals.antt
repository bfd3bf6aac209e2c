-- The numbers of refusals, and how they are printed: this project's profile.
use Rattle.std.specs.Prelude.{ℕ, List, ◌++◌, codes, string_bytes}
use Rattle.fb_faults.specs.Refusals as check
use Rattle.fb_faults.specs.declared.refusal.Refusal.TheVariants as checks
use Rattle.fb_device.specs.declared.refusal.Refusal.{Refusal}
use Rattle.fb_device.specs.declared.refusal.Refusal.TheVariants.{Checked, NoDevice, Limit}

abbrev pub no_memory : Refusal
no_memory = Checked checks.OutOfMemory

abbrev pub code_of : Refusal → ℕ
code_of (Checked refusal) = check.code_of refusal
code_of (NoDevice name) = 21
code_of Limit = 19

-- the code and the place, where there is one
abbrev pub line_of : Refusal → List ℕ
line_of (Checked refusal) = check.line_of refusal
line_of (NoDevice name) = codes "21 " ++ string_bytes name
line_of Limit = codes "19"
