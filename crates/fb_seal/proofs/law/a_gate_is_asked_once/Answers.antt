use Rattle.fb_seal.proofs.Asking.{asks_of_each}
use Rattle.fb_seal.proofs.law.a_gate_is_asked_once.Goals as goal

pub returns : goal.returns
returns x c = λ before after k m g h dropped sum s t calls few was.
    asks_of_each x.L.Link.steps x.K.Ledger.writes x.G.Gate.lets calls before k g dropped s after m h sum t few was
