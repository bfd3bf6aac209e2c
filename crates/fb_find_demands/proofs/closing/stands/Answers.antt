use Rattle.fb_find_demands.proofs.Written.{tables_are, words}
use Rattle.fb_find_demands.proofs.closing.stands.Goals as goal

pub walks-requires : goal.walks-requires
walks-requires c =
    let fs = c.args.flat.now.devices.items in
    let s = c.requires.0 in
    let a = c.requires.1 in
    (s, record { given = a; rows = c.in-Ok.ensures.rows s (tables_are fs s a) (words s a.written) })

pub returns-in-Ok-clause-walk : goal.returns-in-Ok-clause-walk
returns-in-Ok-clause-walk c = λ s a.
    let fs = c.args.flat.now.devices.items in
    c.in_ok-walks-in-Ok.ensures s (record { given = a; rows = c.in-Ok.ensures.rows s (tables_are fs s a) (words s a.written) })
