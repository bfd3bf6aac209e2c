use Rattle.fb_cert.specs.Views.{certificate_of}
use Rattle.fb_check_ranges.proofs.Composed.{passed, unclear}
use Rattle.fb_check_ranges.proofs.clear.rows_clear.Goals as goal

pub returns-clause-clears : goal.returns-clause-clears
returns-clause-clears c = λ s a k. passed (certificate_of c.args.certificate.now).ranges c.args.flat.now.devices.items s c.devices_clear.result (rw c.as_slice.ensures.value at c.devices_clear.ensures.clears) a k

pub returns-clause-refused : goal.returns-clause-refused
returns-clause-refused c = λ s a k. unclear (certificate_of c.args.certificate.now).ranges c.args.flat.now.devices.items s c.devices_clear.result (rw c.as_slice.ensures.value at c.devices_clear.ensures.refused) a k
