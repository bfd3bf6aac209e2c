-- What was checked holds of a device whose values have the same forms.
use Rattle.std.proofs.Common.{◌≡◌, List, map, sym, subst}
use Rattle.st_exec.specs.Cells.{Form, forms_of}
use Rattle.fb_device_tables.specs.Tables.{AreTables}
use Rattle.fb_device_state.specs.declared.program.Program.{Program}
use Rattle.fb_device_state.specs.declared.program.Running.{Running}
use Rattle.fb_device_state.specs.Sessions.{session_of}
use Rattle.fb_device_state.specs.Machines.{device_in, cert_in}
use Rattle.fb_device_state.specs.Keeping.{IsProgram}

pub program_moved : (p : Program) (r new : Running) → map forms_of new.memory.own.items ≡ map forms_of r.memory.own.items → map forms_of new.memory.issued.items ≡ map forms_of r.memory.issued.items → IsProgram p r → IsProgram p new
program_moved p r new own issued g = record {
  checked = g.checked;
  holds = g.holds;
  tables = subst (λ (fs : List (List Form)). AreTables (cert_in (session_of p r)) (device_in (session_of p r)) fs (map forms_of new.memory.issued.items) p.tables) (sym own)
      (subst (λ (fs : List (List Form)). AreTables (cert_in (session_of p r)) (device_in (session_of p r)) (map forms_of r.memory.own.items) fs p.tables) (sym issued) g.tables);
  device = g.device;
  few = g.few;
}
