use Rattle.std.proofs.Common.{◌≡◌, Some, None, refl, sym, ap, ◌∙◌, subst, map, string_bytes, length, ◌<◌, arith}
use Rattle.std.proofs.lemmas.List.{length-map}
use Rattle.std.specs.Str.{bytes_eq}
use Rattle.fb_model.specs.Typing.{body_named}
use Rattle.fb_types_networks.specs.Views.{names_of, placed_of, body_of}
use Rattle.fb_types_networks.specs.Ends.{inner_of}
use Rattle.std.proofs.Math.ListN.{get_or-map}
use Rattle.fb_types_networks.proofs.Instances.{view_instance}
use Rattle.fb_types_networks.proofs.Places.{place, position_is, position_map, body_at, no_body, place_below}
use Rattle.fb_types_networks.proofs.end.Site.body.Goals as goal

pub returns-in-Some-get-clause-found : goal.returns-in-Some-get-clause-found
returns-in-Some-get-clause-found c =
    let x = c.as_str.result.now in
    let site = c.args.self.now in
    let names = names_of site.names.now in
    let h = c.in-Some-get.ensures.lookup in
    let k = sym (position_is (bytes_eq x) names) ∙ position_map (bytes_eq x) string_bytes site.names.now.keys ∙ sym c.in-Some.ensures.index in
    let b = c.in-Some-get.instance.now in
    λ t.
    let at = ap placed_of h.1 ∙ sym (get_or-map placed_of site.instances.now c.in-Some.index b) in
    let within = subst (λ n. c.in-Some.index < n) (sym (length-map site.instances.now placed_of)) h.3.0 in
    let found = body_at x names (map placed_of site.instances.now) c.in-Some.index (placed_of b) k t.names_are at within in
    subst (λ n. body_named (inner_of site.instances.now) n ≡ Some (body_of b.body)) c.as_str.ensures.value (found ∙ ap (λ p. Some p.2) (view_instance b))

pub returns-in-None-clause-refused : goal.returns-in-None-clause-refused
returns-in-None-clause-refused c =
    let x = c.as_str.result.now in
    let site = c.args.self.now in
    let names = names_of site.names.now in
    let k = sym (position_is (bytes_eq x) names) ∙ position_map (bytes_eq x) string_bytes site.names.now.keys ∙ sym c.in-None.ensures.index in
    λ t.
    let none = no_body x (map placed_of site.instances.now) (ap (place (bytes_eq x)) (sym t.names_are) ∙ k) in
    (subst (λ n. body_named (inner_of site.instances.now) n ≡ None) c.as_str.ensures.value none, refl)

pub returns-in-None-get-clause-refused : goal.returns-in-None-get-clause-refused
returns-in-None-get-clause-refused c =
    let x = c.as_str.result.now in
    let site = c.args.self.now in
    let names = names_of site.names.now in
    let h = c.in-None-get.ensures.lookup in
    let k = sym (position_is (bytes_eq x) names) ∙ position_map (bytes_eq x) string_bytes site.names.now.keys ∙ sym c.in-Some.ensures.index in
    let l = place_below (bytes_eq x) names c.in-Some.index k in
    λ t.
    let same : length names ≡ length site.instances.now = ap length t.names_are ∙ length-map (map placed_of site.instances.now) (λ k. k.0) ∙ length-map site.instances.now placed_of in
    absurd (omega (arith, h, l, same))
