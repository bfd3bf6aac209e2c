-- What was verified can be counted.
use Rattle.std.proofs.Common.{◌≡◌, map, None, sym, subst}
use Rattle.fb_model.specs.System.{System}
use Rattle.fb_model.specs.Certificates.{Fits}
use Rattle.fb_cert.specs.Rows.{Rows}
use Rattle.fb_cert.specs.Views.{certificate_of}
use Rattle.fb_flat.specs.declared.flat.Flat.{Flat}
use Rattle.fb_flat.specs.Leaves.{flat_device, written_device}
use Rattle.fb_verified.specs.Checked.{Checked, IsChecked, system_in}
use Rattle.fb_find_demands.specs.declared.numbered.Numbering.{Numbering}
use Rattle.fb_find.specs.Given.{IsGiven}
use Rattle.fb_find.specs.Parts.{HasNumbering}
use Rattle.fb_find.proofs.Given.{given}
use Rattle.fb_work.specs.Counting.{IsCountable}

-- what is given of its tables, and what is counted with them, where nodes have numbers by the texts of their rows
pub countable : (v : Checked) (flat : Flat) (cert : Rows) (n : Numbering) → IsChecked v → flat ≡ v.flat → cert ≡ v.certificate
    → (IsGiven flat.devices.items (system_in v) → HasNumbering None flat.devices.items n (system_in v))
    → IsCountable flat.devices.items n (system_in v) (certificate_of cert)
countable v flat cert n is same rows_same by =
    let s : System = system_in v in
    let tables : map flat_device flat.devices.items ≡ map written_device s.devices = subst (λ (f : Flat). map flat_device f.devices.items ≡ map written_device s.devices) (sym same) is.tables in
    record { numbered = (by (given s flat.devices.items is.written tables is.fits.followed)).numbered; fits = subst (λ r. Fits s (certificate_of r)) (sym rows_same) is.fits }
