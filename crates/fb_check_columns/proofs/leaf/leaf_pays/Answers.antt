use Rattle.std.proofs.Common.{sym, ap, ◌∙◌, string_bytes}
use Rattle.fb_model.specs.Names.{is_in}
use Rattle.fb_model.specs.CertificateText.{names_in}
use Rattle.fb_flat.specs.declared.flat.Body.{Body}
use Rattle.fb_flat.specs.Leaves.{kind_of, outputs_of}
use Rattle.fb_types_services.specs.Views.{service_of}
use Rattle.fb_cert.specs.Views.{certificate_of}
use Rattle.fb_check_columns.proofs.Leaves.{costs, accepted, refused, chart_fits, chart_fails, service_fits, service_fails}
use Rattle.fb_check_columns.proofs.leaf.leaf_pays.Goals as goal

pub returns-in_ok-loads-in-Basic-clause-pays : goal.returns-in_ok-loads-in-Basic-clause-pays
returns-in_ok-loads-in-Basic-clause-pays c =
    λ b small h known.
    let l = c.args.leaf.now in
    let k = c.in-Basic.block.value in
    let kind = ap kind_of (sym {A = Body} c.in-Basic.is) ∙ h.kind in
    let ns = costs c.args.column c.args.certificate.now small (certificate_of c.args.certificate.now).ranges (string_bytes l.path) l.outputs.items b k h.path kind (h.outputs ∙ ap outputs_of (sym kind)) (λ o e. h.targets o (ap (λ q. is_in o (outputs_of q)) (sym kind) ∙ e)) known in
    let outs = rw c.as_slice-outputs.ensures.value at c.in_ok-loads-in-Basic.ensures.values in
    let algs = c.in_ok-algorithm_costs-in-Basic.ensures.values b (ap names_in c.as_str-path.ensures.value ∙ h.path) kind known in
    let exact = rw (c.as_str-path.ensures.value, c.deref.ensures) at (c.chart_pays.ensures ns (algs, outs)) in
    accepted _ _ _ c.chart_pays.result exact
    (chart_fits c.args.column c.args.certificate.now small (certificate_of c.args.certificate.now).ranges (string_bytes l.path) l.outputs.items b k h.path kind (h.outputs ∙ ap outputs_of (sym kind)) (λ o e. h.targets o (ap (λ q. is_in o (outputs_of q)) (sym kind) ∙ e)) known)

pub returns-in_ok-loads-in-Basic-clause-refused : goal.returns-in_ok-loads-in-Basic-clause-refused
returns-in_ok-loads-in-Basic-clause-refused c =
    λ b small h known.
    let l = c.args.leaf.now in
    let k = c.in-Basic.block.value in
    let kind = ap kind_of (sym {A = Body} c.in-Basic.is) ∙ h.kind in
    let ns = costs c.args.column c.args.certificate.now small (certificate_of c.args.certificate.now).ranges (string_bytes l.path) l.outputs.items b k h.path kind (h.outputs ∙ ap outputs_of (sym kind)) (λ o e. h.targets o (ap (λ q. is_in o (outputs_of q)) (sym kind) ∙ e)) known in
    let outs = rw c.as_slice-outputs.ensures.value at c.in_ok-loads-in-Basic.ensures.values in
    let algs = c.in_ok-algorithm_costs-in-Basic.ensures.values b (ap names_in c.as_str-path.ensures.value ∙ h.path) kind known in
    let exact = rw (c.as_str-path.ensures.value, c.deref.ensures) at (c.chart_pays.ensures ns (algs, outs)) in
    refused _ _ _ c.chart_pays.result exact
    (chart_fails c.args.column c.args.certificate.now small (certificate_of c.args.certificate.now).ranges (string_bytes l.path) l.outputs.items b k h.path kind (h.outputs ∙ ap outputs_of (sym kind)) (λ o e. h.targets o (ap (λ q. is_in o (outputs_of q)) (sym kind) ∙ e)) known)

pub returns-in-Served-clause-pays : goal.returns-in-Served-clause-pays
returns-in-Served-clause-pays c =
    λ b small h known.
    let l = c.args.leaf.now in
    let kind = ap kind_of (sym {A = Body} c.in-Served.is) ∙ h.kind in
    let exact = rw (c.as_str-path.ensures.value, c.as_slice-outputs.ensures.value) at c.service_pays.ensures in
    accepted _ _ _ c.service_pays.result exact
    (service_fits c.args.column c.args.certificate.now small (certificate_of c.args.certificate.now).ranges (string_bytes l.path) l.outputs.items b (service_of c.in-Served.service) h.path kind (h.outputs ∙ ap outputs_of (sym kind)) (λ o e. h.targets o (ap (λ q. is_in o (outputs_of q)) (sym kind) ∙ e)) known)

pub returns-in-Served-clause-refused : goal.returns-in-Served-clause-refused
returns-in-Served-clause-refused c =
    λ b small h known.
    let l = c.args.leaf.now in
    let kind = ap kind_of (sym {A = Body} c.in-Served.is) ∙ h.kind in
    let exact = rw (c.as_str-path.ensures.value, c.as_slice-outputs.ensures.value) at c.service_pays.ensures in
    refused _ _ _ c.service_pays.result exact
    (service_fails c.args.column c.args.certificate.now small (certificate_of c.args.certificate.now).ranges (string_bytes l.path) l.outputs.items b (service_of c.in-Served.service) h.path kind (h.outputs ∙ ap outputs_of (sym kind)) (λ o e. h.targets o (ap (λ q. is_in o (outputs_of q)) (sym kind) ∙ e)) known)
