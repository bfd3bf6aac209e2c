use Rattle.std.proofs.Common.{◌≡◌, ◌+◌, ◌++◌, [], Some, map, ap, sym, subst, ◌∙◌, string_bytes, arith}
use Rattle.std.proofs.lemmas.List.{append-nil}
use Rattle.fb_model.specs.Wires.{entered_in, enter_count_in}
use Rattle.fb_flat.specs.Sites.{path_of, inner_of, events_in, left_by, left_count}
use Rattle.fb_flat.specs.Walks.{reached, spots_of}
use Rattle.fb_flat.specs.Bundled.{seen, ending, source_of}
use Rattle.fb_flat.proofs.Following.{same_followed, same_count, found_in, when_some, when_none}
use Rattle.fb_flat.proofs.leave.+leave.Goals as goal

pub returns-in-None-clause-reached : goal.returns-in-None-clause-reached
returns-in-None-clause-reached t c =
    let n = c.in-Level.indexed.now in
    let port = c.args.port.now in
    let name = string_bytes c.in-Level.instance.now.name in
    let found = subst (λ m. ending source_of (Some m) port (map seen (found_in c.in_ok-leaving-in-Level.field-0)) ≡ ending source_of (Some m) port (events_in n)) c.as_str.ensures.value c.in_ok-leaving-in-Level.ensures in
    let w = reached c.args.walk.now in
    let none = when_none source_of (Some name) port (events_in n) c.in_ok-leaving-in-Level.field-0 c.in-None.is found in
    sym (append-nil w)
    ∙ ap (λ ps. w ++ spots_of ps) (same_followed (Some name) port (entered_in (inner_of n) (path_of c.in-Level.trail.now)) (left_by c.in-Level.outer.now) [] (events_in n) none ∙ sym (ap (λ a. left_by a port) c.in-Level.is))

pub returns-in-None-clause-counted : goal.returns-in-None-clause-counted
returns-in-None-clause-counted t c =
    let n = c.in-Level.indexed.now in
    let port = c.args.port.now in
    let name = string_bytes c.in-Level.instance.now.name in
    let found = subst (λ m. ending source_of (Some m) port (map seen (found_in c.in_ok-leaving-in-Level.field-0)) ≡ ending source_of (Some m) port (events_in n)) c.as_str.ensures.value c.in_ok-leaving-in-Level.ensures in
    let none = when_none source_of (Some name) port (events_in n) c.in_ok-leaving-in-Level.field-0 c.in-None.is found in
    let e : 0 ≡ left_count c.args.around.now port = same_count (Some name) port (enter_count_in (inner_of n)) (left_count c.in-Level.outer.now) [] (events_in n) none ∙ sym (ap (λ a. left_count a port) c.in-Level.is) in
    omega (arith, e)

pub loop-connection-init : goal.loop-connection-init
loop-connection-init t c =
    let n = c.in-Level.indexed.now in
    let port = c.args.port.now in
    let name = string_bytes c.in-Level.instance.now.name in
    let found = subst (λ m. ending source_of (Some m) port (map seen (found_in c.in_ok-leaving-in-Level.field-0)) ≡ ending source_of (Some m) port (events_in n)) c.as_str.ensures.value c.in_ok-leaving-in-Level.ensures in
    let items = c.deref-connection-items.result.now in
    let same =
    when_some source_of (Some name) port (events_in n) c.in_ok-leaving-in-Level.field-0 c.in-Some.connections items c.in-Some.is c.deref-connection-items.ensures.value found in
    record {
      reached = ap (λ ps. reached c.args.walk.now ++ spots_of ps) (same_followed (Some name) port (entered_in (inner_of n) (path_of c.in-Level.trail.now)) (left_by c.in-Level.outer.now) (map seen items) (events_in n) same);
      left = ap (λ m. c.args.walk.now.left + m) (sym (same_count (Some name) port (enter_count_in (inner_of n)) (left_count c.in-Level.outer.now) (map seen items) (events_in n) same));
    }
