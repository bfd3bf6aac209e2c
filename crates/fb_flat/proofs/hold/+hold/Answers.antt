use Rattle.std.proofs.Common.{◌≡◌, [], Some, map, ap, sym, subst, ◌∙◌, string_bytes}
use Rattle.fb_types_networks.specs.Views.{parameter_of, body_of}
use Rattle.fb_model.specs.System.{constant}
use Rattle.fb_model.specs.Wires.{Source, Constant, given_in, inputs_of}
use Rattle.fb_flat.specs.Sites.{path_of, inner_of}
use Rattle.fb_flat.specs.Sources.{written_source}
use Rattle.fb_flat.specs.Leaves.{values_in, held_by}
use Rattle.fb_flat.specs.Bundled.{seen, ending, target_of}
use Rattle.fb_flat.proofs.Following.{same_fed, found_in, when_some, when_none}
use Rattle.fb_flat.proofs.hold.+hold.Goals as goal

pub returns-in-None : goal.returns-in-None
returns-in-None t c =
    let n = c.in-Level.indexed.now in
    let port = c.args.port.now in
    let name = string_bytes c.in-Level.instance.now.name in
    let found = subst (λ m. ending target_of (Some m) port (map seen (found_in c.in_ok-arriving-in-Level.field-0)) ≡ ending target_of (Some m) port (values_in n)) c.as_str.ensures.value c.in_ok-arriving-in-Level.ensures in
    let other : Source = Constant (constant (map parameter_of c.in-Level.instance.now.parameters.items) (inputs_of (body_of c.in-Level.instance.now.body)) port) in
    let none = when_none target_of (Some name) port (values_in n) c.in_ok-arriving-in-Level.field-0 c.in-None.is found in
    c.given.ensures
    ∙ ap written_source (same_fed (Some name) port (given_in (inner_of n) (path_of c.in-Level.trail.now)) (held_by c.in-Level.outer.now) other [] (values_in n) none ∙ sym (ap (λ a. held_by a port) c.in-Level.is))

pub loop-connection-init : goal.loop-connection-init
loop-connection-init t c =
    let n = c.in-Level.indexed.now in
    let port = c.args.port.now in
    let name = string_bytes c.in-Level.instance.now.name in
    let found = subst (λ m. ending target_of (Some m) port (map seen (found_in c.in_ok-arriving-in-Level.field-0)) ≡ ending target_of (Some m) port (values_in n)) c.as_str.ensures.value c.in_ok-arriving-in-Level.ensures in
    let other : Source = Constant (constant (map parameter_of c.in-Level.instance.now.parameters.items) (inputs_of (body_of c.in-Level.instance.now.body)) port) in
    let items = c.deref-connection-items.result.now in
    let same =
    when_some target_of (Some name) port (values_in n) c.in_ok-arriving-in-Level.field-0 c.in-Some.connections items c.in-Some.is c.deref-connection-items.ensures.value found in
    same_fed (Some name) port (given_in (inner_of n) (path_of c.in-Level.trail.now)) (held_by c.in-Level.outer.now) other (map seen items) (values_in n) same
