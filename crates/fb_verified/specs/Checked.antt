-- What was checked, without where it lies in memory, and what holds of it.
use Rattle.std.specs.Prelude.{◌≡◌, map}
use Rattle.fb_model.specs.System.{System}
use Rattle.fb_model.specs.Certificates as book
use Rattle.fb_model.specs.Certificates.{Fits}
use Rattle.fb_model.specs.CertificateText.{IsTold}
use Rattle.fb_types.specs.declared.typed.Configuration.{Configuration}
use Rattle.fb_types.specs.Views.{system_of}
use Rattle.fb_model.specs.Written.{IsWritten}
use Rattle.fb_flat.specs.declared.flat.Flat.{Flat}
use Rattle.fb_flat.specs.Leaves.{flat_device, written_device}
use Rattle.fb_cert.specs.Rows.{Rows}
use Rattle.fb_cert.specs.Views.{certificate_of}

-- a system, its leaves with their wires, and the rows of a certificate
pub record Checked : Type 0 where
  pub typed : Configuration
  pub flat : Flat
  pub certificate : Rows

-- the system and the certificate that were verified
abbrev pub system_in : Checked → System
system_in v = system_of v.typed

abbrev pub certificate_in : Checked → book.Certificate
certificate_in v = certificate_of v.certificate

-- the tables of a system are its leaves
abbrev pub AreTables : Checked → Type 0
AreTables v = map flat_device v.flat.devices.items ≡ map written_device (system_in v).devices

-- what holds of all that was checked: the system stands in a text and the certificate in another, this fits, and the tables are the system's own
pub record IsChecked (v : Checked) : Type 0 where
  pub written : IsWritten (system_in v)
  pub told : IsTold (certificate_in v)
  pub fits : Fits (system_in v) (certificate_in v)
  pub tables : AreTables v
