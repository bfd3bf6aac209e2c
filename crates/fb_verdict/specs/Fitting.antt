-- The parts of what makes a certificate fit.
use Rattle.std.specs.List.{AllByRecursion}
use Rattle.fb_model.specs.System.{System}
use Rattle.fb_model.specs.Certificates.{Certificate, FollowsFew, AllRows, DeviceFits}
use Rattle.fb_model.specs.Misfits.{AllClear}

-- all but the network
pub record FitsAlone (system : System) (cert : Certificate) : Type 0 where
  pub followed : AllByRecursion FollowsFew system.devices
  pub rows : AllRows system cert
  pub clear : AllClear cert.ranges system
  pub devices : AllByRecursion (DeviceFits cert) system.devices
