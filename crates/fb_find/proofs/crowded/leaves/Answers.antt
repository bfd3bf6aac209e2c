use Rattle.std.proofs.Common.{subst, string_bytes}
use Rattle.std.specs.List.{Any}
use Rattle.fb_types.specs.declared.typed.Configuration.{Configuration}
use Rattle.fb_types.specs.declared.typed.Device.{Device}
use Rattle.fb_find_rows.specs.Needs.{IsPastFault}
use Rattle.fb_find.specs.Crowds.{IsCrowded}
use Rattle.fb_find.proofs.Crowding.{above}
use Rattle.fb_find.proofs.crowded.leaves.Goals as goal

pub returns-in-Err-clause-refused : goal.returns-in-Err-clause-refused
returns-in-Err-clause-refused c = λ repeats.
    above repeats c.args.typed.now c.crowded.result c.stands_in_text.ensures
    (subst (λ (t : Configuration). IsPastFault (λ text. Any (λ (d : Device). Any (IsCrowded (string_bytes d.name) text) d.resources.items) t.devices.items) c.crowded.result) c.configuration.ensures c.crowded.ensures)
