use Rattle.std.proofs.Common.{List, sym, subst}
use Rattle.fb_model.specs.Names.{Name}
use Rattle.fb_model.specs.Certificates.{events_of}
use Rattle.fb_types_blocks.specs.declared.typed.Block.{Block}
use Rattle.fb_types_services.specs.Views.{service_of}
use Rattle.fb_flat.specs.declared.flat.Body.{Body}
use Rattle.fb_flat.specs.Leaves.{kind_of}
use Rattle.fb_device_tables.specs.Filling.{IsNumber}
use Rattle.fb_device_tables.proofs.Numbers.{service_number}
use Rattle.fb_device_tables.proofs.Charts.{inputs_in, inputs_are}
use Rattle.fb_device_tables.proofs.target.event.Goals as goal

pub returns-in-Basic : goal.returns-in-Basic
returns-in-Basic c =
    let x = c.args.name.now in
    let n = c.number_in.result in
    subst (λ (body : Body). IsNumber (events_of (kind_of body)) x n) (sym c.in-Basic.is)
    (subst (λ (names : List Name). IsNumber names x n) (sym (inputs_are c.in-Basic.block.value))
    (subst (λ (k : Block). IsNumber (inputs_in k) x n) c.deref.ensures c.number_in.ensures))

pub returns-in-Served : goal.returns-in-Served
returns-in-Served c =
    let x = c.args.name.now in
    let n = c.served.result in
    subst (λ (body : Body). IsNumber (events_of (kind_of body)) x n) (sym c.in-Served.is) (service_number (service_of c.in-Served.service) x n c.served.ensures)
