use Rattle.std.proofs.Common.{◌≡◌, ap, ◌∙◌, arith}
use Rattle.st_exec.specs.Forms.{size_of}
use Rattle.st_exec.proofs.Keeping.{zeros_resized}
use Rattle.st_exec.proofs.store.Store.zeros.Goals as goal

pub returns : goal.returns
returns c =
    let n : c.new-numbers.result.len ≡ 0 = omega (arith, c.new-numbers.ensures.len) in
    zeros_resized c.args.layout.value c.new-numbers.result.items c.resize.new.self.items c.size.result c.new-numbers.result.len c.new-numbers.ensures.items n (c.size.ensures ∙ ap size_of c.deref.ensures) c.in_ok-resize.ensures.items
