use Rattle.fbr_serve.proofs.Alike.{same_turns}
use Rattle.fbr_serve.proofs.law.replays_are_alike.Goals as goal

pub returns : goal.returns
returns g c = λ cert device xs ys s t u l m k n hx hy ex ey e. same_turns cert device g.L.Link.steps g.L.Link.count g.K.Link.steps g.K.Link.count xs ys s l m k n t u hx hy ex ey e
