use Rattle.std.proofs.Common.{sym, ◌∙◌}
use Rattle.st_exec.proofs.Keeping.{forms_are}
use Rattle.st_exec.proofs.store.Store.layout.Goals as goal

pub returns : goal.returns
returns c = c.deref.ensures ∙ sym (forms_are c.args.self.now c.self.inside.layout.value c.self.inside.numbers.items c.self.view_is c.self.invariant)
