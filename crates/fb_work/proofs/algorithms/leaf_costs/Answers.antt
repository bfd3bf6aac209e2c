use Rattle.std.proofs.Common.{◌≡◌, ℕ, Vec, map, sym, ap, ◌∙◌}
use Rattle.std.specs.declared.alloc.Global.{Global}
use Rattle.fb_model.specs.System.{Procedure}
use Rattle.fb_model.specs.Wires.{Charted}
use Rattle.fb_model.specs.Ranges.{rows}
use Rattle.fb_model.specs.CertificateText.{names_in}
use Rattle.fb_types_blocks.specs.declared.typed.Block.{Block}
use Rattle.fb_types_blocks.specs.Views.{block_of, procedures_of}
use Rattle.fb_cert.specs.Views.{certificate_of}
use Rattle.fb_flat.specs.declared.flat.Body.{Body}
use Rattle.fb_flat.specs.Leaves.{kind_of}
use Rattle.fb_prices.specs.Words.{prices_of}
use Rattle.fb_work.specs.Algorithms.{called, costs_of}
use Rattle.fb_work.proofs.Told.{ok_is}
use Rattle.fb_work.proofs.algorithms.leaf_costs.Goals as goal

pub returns-in_ok-rows-in-Basic-clause-value : goal.returns-in_ok-rows-in-Basic-clause-value
returns-in_ok-rows-in-Basic-clause-value c = λ l is words.
    let prices = prices_of c.args.prices.now in
    let spans = rows (certificate_of c.args.certificate.now).ranges l.path l.kind in
    let block : Block = c.in-Basic.block.value in
    let kind : l.kind ≡ Charted (block_of block) = sym is.kind ∙ ap {A = Body} kind_of c.in-Basic.is in
    let here = c.in_ok-rows-in-Basic.ensures.rows l (ap names_in c.as_str.ensures.value ∙ is.path) (kind ∙ ap (λ (b : Block). Charted (block_of b)) (sym c.deref.ensures)) words in
    ok_is (λ (v : Vec ℕ Global). v.items) _ (costs_of prices spans l.kind)
    (ap (λ s. map (λ (q : Procedure). called prices s q.algorithm) (procedures_of c.deref-in-Basic.result.now.procedures)) here
    ∙ ap (λ (b : Block). map (λ (q : Procedure). called prices spans q.algorithm) (procedures_of b.procedures)) c.deref-in-Basic.ensures
    ∙ sym (ap (costs_of prices spans) kind)) c.block_costs.result c.block_costs.ensures.value
