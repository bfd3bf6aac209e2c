use Rattle.std.proofs.Common.{take, drop, subst, arith}
use Rattle.std.proofs.lemmas.List.{take-append-drop, length-take-le}
use Rattle.fb_model.specs.Fields.{fault_in}
use Rattle.fb_device.proofs.Long.{Same, long_at_fault}
use Rattle.fb_device.proofs.law.long_datagrams_are_denied.Goals as goal

pub returns : goal.returns
returns c = λ bytes l.
    subst (λ whole. Same (fault_in whole) (fault_in (take 160 bytes))) (take-append-drop 160 bytes) (long_at_fault (take 160 bytes) (drop 160 bytes) (omega (arith, length-take-le 160 bytes l)))
