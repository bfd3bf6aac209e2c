use Rattle.std.proofs.Common.{List, map, sym, ap, subst}
use Rattle.st_exec.specs.Cells.{Form, forms_of}
use Rattle.fb_verified.specs.Checked.{certificate_in}
use Rattle.fb_device_tables.specs.Tables.{AreTables}
use Rattle.fb_device.proofs.loading.made.Goals as goal

pub returns-in-Ok-clause-tables : goal.returns-in-Ok-clause-tables
returns-in-Ok-clause-tables c = λ d e.
    let rows = certificate_in c.args.verified.now in
    let tables = c.in_ok-tables.tables in
    let own = ap (λ v. map forms_of v.items) c.in-Ok.ensures.own in
    let issued = ap (λ v. map forms_of v.items) c.in-Ok.ensures.issued in
    subst (λ (fs : List (List Form)). AreTables rows d fs (map forms_of c.in-Ok.running.memory.issued.items) tables) (sym own)
    (subst (λ (fs : List (List Form)). AreTables rows d (map forms_of c.in_ok-values.values.own.items) fs tables) (sym issued) (c.in_ok-tables.ensures d e))

pub returns-in-Ok-clause-first : goal.returns-in-Ok-clause-first
returns-in-Ok-clause-first c = (c.in_ok-values.values, record { lies = c.in_ok-values.ensures; rest = c.in-Ok.ensures })
