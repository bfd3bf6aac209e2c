use Rattle.fb_find_room.proofs.Roomy.{book_same}
use Rattle.fb_find_room.proofs.Fitting.{fits}
use Rattle.fb_find_room.proofs.laws.roomy_certificates_fit.Goals as goal

pub returns-clause-fits : goal.returns-clause-fits
returns-clause-fits c = λ times system cert h. fits times system.devices cert system h

pub returns-clause-rows : goal.returns-clause-rows
returns-clause-rows c = λ times system rows. book_same times system.devices rows
