use Rattle.fb_types.specs.Views.{system_of}
use Rattle.fb_find_demands.proofs.Handed.{denied, denied_repeats}
use Rattle.fb_find_demands.proofs.closing.check_walk.Goals as goal

pub returns-clause-walk : goal.returns-clause-walk
returns-clause-walk c = c.stands-answer.ensures.walk (system_of c.args.typed.now) (record { written = c.stands_in_text.ensures; tables = c.in_ok-flat.ensures.leaves })

pub returns-clause-denies : goal.returns-clause-denies
returns-clause-denies c =
    denied c.args.repeats (system_of c.args.typed.now) c.args.places.now c.stands-answer.result
    (c.stands-answer.ensures.walk (system_of c.args.typed.now) (record { written = c.stands_in_text.ensures; tables = c.in_ok-flat.ensures.leaves }))

pub returns-clause-denies_repeats : goal.returns-clause-denies_repeats
returns-clause-denies_repeats c =
    denied_repeats c.args.repeats (system_of c.args.typed.now) c.args.places.now c.stands-answer.result
    (c.stands-answer.ensures.walk (system_of c.args.typed.now) (record { written = c.stands_in_text.ensures; tables = c.in_ok-flat.ensures.leaves }))
