use Rattle.st_exec.proofs.Keeping.{has_forms}
use Rattle.st_exec.proofs.store.Store.keeps_forms.Goals as goal

pub returns : goal.returns
returns c = has_forms c.args.self.now c.self.inside.layout.value c.self.inside.numbers.items c.self.view_is c.self.invariant
