use Rattle.std.proofs.Common.{◌≡◌, ◌++◌, drop}
use Rattle.std.specs.List.{AllByRecursion}
use Rattle.fb_model.specs.System.{Device}
use Rattle.fb_model.specs.Wires as wires
use Rattle.fb_model.specs.Wires.{leaves}
use Rattle.fb_model_laws.specs.Leaves.{IsClosed}
use Rattle.fb_model_laws.specs.Words.{IsWordyDevice}
use Rattle.fb_cert.specs.Views.{certificate_of}
use Rattle.fb_flat.specs.Tables.{IsDevice}
use Rattle.fb_prices.specs.Words.{prices_of}
use Rattle.fb_work.proofs.Systems.{leaf_list}
use Rattle.fb_work.proofs.system.add_device.Given as goal

-- what is there, and the work of the leaves that are left, is the whole
abbrev pub invariant-loop-leaf : goal.invariant-loop-leaf
invariant-loop-leaf l =
    (d : Device) → IsDevice l.device d → IsWordyDevice d → AllByRecursion (λ (leaf : wires.Leaf). IsClosed leaf.kind) (leaves d)
    → l.works.items ++ leaf_list (prices_of l.prices) (certificate_of l.certificate).ranges (drop l.leaf-index (leaves d))
    ≡ l.fn.works.items ++ leaf_list (prices_of l.prices) (certificate_of l.certificate).ranges (leaves d)
