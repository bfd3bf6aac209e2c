-- The numbers of refusals: this project's profile.
use Rattle.std.specs.Prelude.{ℕ}
use Rattle.fb_script.specs.declared.line.LineFault.{LineFault}
use Rattle.fb_script.specs.declared.line.LineFault.TheVariants.{OutOfMemory, Form}

abbrev pub code_of : LineFault → ℕ
code_of OutOfMemory = 9
code_of (Form misread) = 60
