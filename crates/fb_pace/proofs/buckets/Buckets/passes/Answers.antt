use Rattle.std.proofs.Common.{◌≡◌, ◌∙◌, Some, sym, ap}
use Rattle.std.specs.Prelude.{Option, slice_set}
use Rattle.std.specs.List.{position_from}
use Rattle.fb_pace.specs.declared.bucket.Bucket.{Bucket}
use Rattle.fb_pace.specs.declared.buckets.Paced.{Paced}
use Rattle.fb_pace.specs.Bucket.{after, passes}
use Rattle.fb_pace.specs.Buckets.{has_number, passes_by, with_bucket}
use Rattle.fb_pace.proofs.Found.{found_there, missing}
use Rattle.fb_pace.proofs.buckets.Buckets.passes.Goals as goal

pub returns-in-Some-clause-answer : goal.returns-in-Some-clause-answer
returns-in-Some-clause-answer c =
    let peers = c.args.self.now.peers.items in
    let peer = c.index.result.now in
    let found : position_from (has_number c.args.number) 0 peers ≡ Some c.in-Some.place =
    ap (position_from (has_number c.args.number) 0) (sym c.as_slice.ensures.value) ∙ sym c.in-Some.ensures.first in
    let at = found_there c.args.number c.args.now peers c.in-Some.place peer found in
    c.passes-passes.ensures.answer ∙ ap (λ (p : Paced). passes p.bucket c.args.now) c.index.ensures
    ∙ sym (ap (λ (o : Option Bucket). passes_by o c.args.now) at.bucket)

pub returns-in-Some-clause-after : goal.returns-in-Some-clause-after
returns-in-Some-clause-after c =
    let peers = c.args.self.now.peers.items in
    let peer = c.index.result.now in
    let found : position_from (has_number c.args.number) 0 peers ≡ Some c.in-Some.place =
    ap (position_from (has_number c.args.number) 0) (sym c.as_slice.ensures.value) ∙ sym c.in-Some.ensures.first in
    let at = found_there c.args.number c.args.now peers c.in-Some.place peer found in
    ap (λ (b : Bucket). slice_set peers c.in-Some.place (with_bucket peer b)) c.passes-passes.ensures.after
    ∙ ap (λ (p : Paced). slice_set peers c.in-Some.place (with_bucket p (after p.bucket c.args.now))) c.index.ensures ∙ at.changed

pub returns-in-None-clause-answer : goal.returns-in-None-clause-answer
returns-in-None-clause-answer c =
    let none = missing c.args.number c.args.now 0 c.args.self.now.peers.items (ap (position_from (has_number c.args.number) 0) (sym c.as_slice.ensures.value) ∙ sym c.in-None.ensures.first) in
    sym (ap (λ o. passes_by o c.args.now) none.0)

pub returns-in-None-clause-after : goal.returns-in-None-clause-after
returns-in-None-clause-after c =
    let none = missing c.args.number c.args.now 0 c.args.self.now.peers.items (ap (position_from (has_number c.args.number) 0) (sym c.as_slice.ensures.value) ∙ sym c.in-None.ensures.first) in
    sym none.1
