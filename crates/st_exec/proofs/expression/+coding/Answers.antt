use Rattle.std.proofs.Common.{refl}
use Rattle.st_types.specs.Views.{tail_of}
use Rattle.st_exec.specs.declared.code.CodeLink.{CodeLink}
use Rattle.st_exec.specs.CodeViews.{code_tail}
use Rattle.st_exec.specs.Placed.{placed_link}
use Rattle.st_exec.proofs.Coding.{same_more, slots_more, link_same, link_slots}
use Rattle.st_exec.proofs.expression.+coding.Goals as goal

pub coded_links-loop-link-preserved : goal.coded_links-loop-link-preserved
coded_links-loop-link-preserved t c =
    let l = c.link-item.result in
    let fs = c.args.layout.now in
    let x : CodeLink = record { operation = l.operation; of_type = l.of_type; operand = c.in_ok-operand.operand } in
    record {
      same = same_more code_tail tail_of c.loop-link.coded.items c.push.new.self.items c.args.links.now c.loop-link.link-index x l c.loop-link-test.true c.link-item.is c.loop-link.invariant.same c.in_ok-push.ensures.items (link_same x l refl refl c.in_ok-operand.ensures.same);
      slots = slots_more (placed_link fs) c.loop-link.coded.items c.push.new.self.items x c.loop-link.invariant.slots c.in_ok-push.ensures.items (link_slots fs x c.in_ok-operand.ensures.slots);
    }
