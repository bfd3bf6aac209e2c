use Rattle.std.proofs.Common.{◌↔◌, IsTrue, ap, subst}
use Rattle.fb_model.specs.Services.{arrivals}
use Rattle.fb_model.specs.Wires as wires
use Rattle.fb_cert.specs.Views.{certificate_of}
use Rattle.fb_types_services.specs.Views.{service_of}
use Rattle.fb_flat.specs.Leaves.{kind_of}
use Rattle.fb_flat.specs.Tables.{IsLeaf}
use Rattle.fb_turns.specs.Room.{ArePast, IsPast}
use Rattle.fb_check_rows.proofs.Loops.{ok_weaker}
use Rattle.fb_turns.proofs.Resources.{served}
use Rattle.fb_turns.proofs.alone.leaf_is_past.Goals as goal

pub returns-in-Served : goal.returns-in-Served
returns-in-Served c =
    let cert = certificate_of c.args.certificate.now in
    let service = service_of c.in-Served.service in
    ok_weaker _ (λ b. (l : wires.Leaf) → IsLeaf c.args.leaf.now l → IsTrue b ↔ IsPast c.args.depth c.args.own cert l)
    (λ b h. served c.args.depth c.args.own cert c.args.leaf.now service b (ap kind_of c.in-Served.is) (subst (λ p. IsTrue b ↔ ArePast c.args.depth c.args.own cert p (arrivals service)) c.as_str.ensures.value h))
    c.service_is_past.result c.service_is_past.ensures
