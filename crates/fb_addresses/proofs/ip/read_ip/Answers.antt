use Rattle.fb_addresses.proofs.Reading.{ip_parsed, ip_unparsed}
use Rattle.fb_addresses.proofs.ip.read_ip.Goals as goal

pub returns-in-Ok : goal.returns-in-Ok
returns-in-Ok c = ip_parsed c.args.word.now c.in-Ok.address c.in-Ok.ensures

pub returns-in-Err : goal.returns-in-Err
returns-in-Err c = ip_unparsed c.args.word.now c.in-Err.ensures
