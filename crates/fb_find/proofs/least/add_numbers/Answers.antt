use Rattle.fb_cert.specs.Views.{rows_of}
use Rattle.fb_find.proofs.Adding.{both_added}
use Rattle.fb_find.proofs.least.add_numbers.Goals as goal

pub returns : goal.returns
returns c = λ can.
    both_added c.args.numbering.now c.args.steps.now c.args.places.now c.len-count.result c.behind.result.now c.behind-2.result.now (rows_of c.args.certificate.now) (rows_of c.add_charges.new.certificate) c.add_weights.result (rows_of c.add_weights.new.certificate)
    can c.len-count.ensures.len c.behind.ensures c.behind-2.ensures c.in_ok-add_charges.ensures c.add_weights.ensures
