use Rattle.std.proofs.Common.{◌≡◌, ◌↔◌, IsTrue, Bool, false, subst}
use Rattle.std.specs.List.{AllByRecursion, Any}
use Rattle.fb_model.specs.Names.{at_place}
use Rattle.fb_model_turns.specs.Turns.{IsAlone}
use Rattle.fb_cert.specs.Views.{certificate_of}
use Rattle.fb_verified.specs.Checked.{certificate_in}
use Rattle.fb_turns.specs.Room.{Fits, IsPastHere}
use Rattle.fb_turns.proofs.Resources.{alone, ok_both}
use Rattle.fb_turns.proofs.alone.is_alone.Goals as goal

pub returns : goal.returns
returns c = λ d q r l e stands tables is arrival.
    let cert = c.certificate-certificate.result.now in
    let f = c.args.resource.now in
    let depth = c.depth-depth.result in
    let own = c.in-Ok.own in
    let Each : Bool → Type 0 = λ b. IsTrue b → AllByRecursion (IsPastHere depth own (certificate_of cert)) f.leaves.items in
    let One : Bool → Type 0 = λ b. b ≡ false → Any (Fits depth own (certificate_of cert)) f.leaves.items in
    ok_both Each One (λ b. IsTrue b ↔ IsAlone (certificate_in c.args.verified.now) d q (at_place l.path e))
    (λ b each one.
    subst (λ k. IsTrue b ↔ IsAlone (certificate_of k) d q (at_place l.path e)) c.certificate-certificate.ensures
    (alone cert d q r f c.args.leaf.now l e stands tables is arrival own depth b c.in-Ok.ensures.value c.depth-depth.ensures each one))
    c.leaves_are_past.result (rw c.as_slice-leaves.ensures.value at c.leaves_are_past.ensures.each) (rw c.as_slice-leaves.ensures.value at c.leaves_are_past.ensures.one)
