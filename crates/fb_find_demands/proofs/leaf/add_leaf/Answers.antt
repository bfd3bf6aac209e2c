use Rattle.std.proofs.Common.{◌≡◌, ℕ, Bool, List, ◌++◌, Result, OnOk, sym, ap, ◌∙◌, string_bytes}
use Rattle.fb_model.specs.Names.{Name}
use Rattle.fb_model.specs.Wires.{Kind, Charted, Serviced}
use Rattle.fb_model.specs.Demands.{of_kind}
use Rattle.fb_types_blocks.specs.declared.typed.Block.{Block}
use Rattle.fb_types_blocks.specs.Views.{block_of}
use Rattle.fb_types_services.specs.Views.{service_of}
use Rattle.fb_flat.specs.declared.flat.Body.{Body}
use Rattle.fb_flat.specs.declared.flat.Leaf.{Leaf}
use Rattle.fb_flat.specs.declared.flat.Output.{Output}
use Rattle.fb_flat.specs.Leaves.{kind_of}
use Rattle.fb_find_laws.specs.Nodes.{Numbered}
use Rattle.fb_find_demands.specs.declared.numbered.Numbering.{Numbering}
use Rattle.fb_find_demands.specs.Grounds.{ground, algorithms_of, leaf_ground, names_among}
use Rattle.fb_find_demands.specs.Leaves.{leaf_rights}
use Rattle.fb_find_demands.specs.Rights.{numbered, rights_of}
use Rattle.fb_find_demands.proofs.Answering.{on_ok_is}
use Rattle.fb_find_demands.proofs.leaf.add_leaf.Goals as goal

-- with the algorithms, the path and the outputs of a leaf its kind asks what the leaf asks
asks : {X E : Type 0} (n : Numbering) (unit : ℕ) (follows : Bool) (prices : List ℕ) (l : Leaf) (names : List Name) (path : Name) (outputs : List Output) (kind : Kind) (old new : List Numbered) → names ≡ algorithms_of l.body → path ≡ string_bytes l.path → outputs ≡ l.outputs.items
    → kind ≡ kind_of l.body → (r : Result X E) → OnOk r (new ≡ old ++ numbered n (of_kind (ground unit follows names prices path outputs) kind)) → OnOk r (new ≡ old ++ leaf_rights n unit follows prices l)
asks n unit follows prices l names path outputs kind old new a p o k =
    on_ok_is new (old ++ numbered n (of_kind (ground unit follows names prices path outputs) kind)) (old ++ leaf_rights n unit follows prices l)
    (ap (λ ns. old ++ numbered n (of_kind (ground unit follows ns prices path outputs) kind)) a
    ∙ ap (λ x. old ++ numbered n (of_kind (ground unit follows (algorithms_of l.body) prices x outputs) kind)) p
    ∙ ap (λ os. old ++ numbered n (of_kind (ground unit follows (algorithms_of l.body) prices (string_bytes l.path) os) kind)) o
    ∙ ap (λ k. old ++ numbered n (of_kind (leaf_ground unit follows prices l) k)) k)

pub returns-in-Basic : goal.returns-in-Basic
returns-in-Basic c =
    asks c.args.numbering.now c.args.tariff.now.unit c.args.tariff.now.follows c.args.tariff.now.prices.now c.args.leaf.now (names_among c.procedures.result) c.as_str.result.now c.as_slice.result.now (Charted (block_of c.deref.result.now)) (rights_of c.args.rights.now.items) (rights_of c.add_chart.new.rights.items)
    c.procedures.ensures c.as_str.ensures.value c.as_slice.ensures.value (ap (λ (b : Block). Charted (block_of b)) c.deref.ensures ∙ sym (ap {A = Body} kind_of c.in-Basic.is)) c.add_chart.result c.add_chart.ensures

pub returns-in-Served : goal.returns-in-Served
returns-in-Served c =
    asks c.args.numbering.now c.args.tariff.now.unit c.args.tariff.now.follows c.args.tariff.now.prices.now c.args.leaf.now (names_among c.procedures.result) c.as_str.result.now c.as_slice.result.now (Serviced (service_of c.in-Served.service)) (rights_of c.args.rights.now.items) (rights_of c.add_service.new.rights.items)
    c.procedures.ensures c.as_str.ensures.value c.as_slice.ensures.value (sym (ap {A = Body} kind_of c.in-Served.is)) c.add_service.result c.add_service.ensures
