use Rattle.std.proofs.Common.{◌≡◌, ◌≤◌, ℕ, Option, Some, sym, subst}
use Rattle.std.specs.Prelude.{IfSome}
use Rattle.fb_cert.specs.Views.{rows_of}
use Rattle.fb_find.specs.Parts.{IsReady}
use Rattle.fb_find.specs.Networks.{HasNetwork}
use Rattle.fb_find.proofs.Networking.{network_added}
use Rattle.fb_find.proofs.network.add_network.Goals as goal

pub returns-clause-added : goal.returns-clause-added
returns-clause-added c = λ s ranges ready t none.
    let fs = c.args.ordered.now.flat.now.devices.items in
    let n = c.args.ordered.now.numbering.now in
    let o = c.args.ordered.now.order.now in
    let r = c.in-Some.repeats in
    let is : c.args.repeats ≡ Some r = c.in-Some.is in
    let here : IsReady (Some r) fs n o s = subst (λ k. IsReady k fs n o s) is ready in
    let low : IfSome (Some r) (λ k. 1 ≤ k) = subst (λ k. IfSome k (λ m. 1 ≤ m)) is c.requires.some in
    subst (λ k. HasNetwork k n s ranges (rows_of c.args.certificate.now) (rows_of c.add_far.new.certificate)) (sym is)
    (network_added r fs n o s here ranges c.in_ok-numbers.numbers.items c.as_slice.result.now (rows_of c.args.certificate.now) (rows_of c.add_far.new.certificate) c.as_slice.ensures.value low (c.in_ok-numbers.ensures.least s ranges here t) none c.in_ok-add_far.ensures)
