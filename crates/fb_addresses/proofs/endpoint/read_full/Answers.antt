use Rattle.fb_addresses.proofs.Reading.{parsed, unparsed}
use Rattle.fb_addresses.proofs.endpoint.read_full.Goals as goal

pub returns-in-Ok : goal.returns-in-Ok
returns-in-Ok c = parsed c.args.word.now c.in-Ok.address c.in-Ok.ensures

pub returns-in-Err : goal.returns-in-Err
returns-in-Err c = unparsed c.args.word.now c.in-Err.ensures
