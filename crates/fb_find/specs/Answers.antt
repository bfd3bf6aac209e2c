-- What the finder answers, without where it lies in memory.
use Rattle.std.specs.Prelude.{Result, Ok, Err}
use Rattle.fb_faults.specs.declared.no_bound.NoBound.{NoBound}
use Rattle.fb_cert.specs.declared.certificate.Certificate.{Certificate}
use Rattle.fb_cert.specs.Views.{certificate_of}
use Rattle.fb_model.specs.Promises.{Found, found, not_found}

abbrev pub found_of : Result Certificate NoBound → Found
found_of (Ok c) = found (certificate_of c)
found_of (Err f) = not_found f
