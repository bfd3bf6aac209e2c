use Rattle.std.proofs.Common.{sym, ◌∙◌}
use Rattle.fb_wire.proofs.Coming.{spells_rightly}
use Rattle.fb_wire.proofs.law.faulty_bytes_spell_nothing.Goals as goal

pub returns : goal.returns
returns c = λ bytes fault m h s. (let e = sym (spells_rightly m bytes s) ∙ h in absurd cc)
