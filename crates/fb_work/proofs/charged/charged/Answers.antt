use Rattle.std.proofs.Common.{get_or, [], ◌∷◌, ap, ◌∙◌, arith}
use Rattle.std.proofs.lemmas.List.{map-append}
use Rattle.fb_find_demands.specs.Rights.{right_of, rights_of}
use Rattle.fb_work.proofs.Lists.{charged_done, charged_end, charged_more, got_at, got_or}
use Rattle.fb_work.proofs.charged.charged.Goals as goal

pub returns-in-None : goal.returns-in-None
returns-in-None c = charged_end c.args.works.now c.args.rights.now c.loop-index.index (rights_of c.loop-index.all.items) _ (grind (arith, c.in-None.ensures.lookup)) c.loop-index.invariant

pub loop-index-preserved : goal.loop-index-preserved
loop-index-preserved c =
    let i = c.loop-index.index in
    let old = c.loop-index.all.items in
    charged_more c.args.works.now c.args.rights.now i (get_or c.args.works.now i 0) c.in-Some.right.now (right_of c.in_ok-charged_right-in-Some.field-0) (rights_of old) (rights_of c.push.new.self.items) _
    (got_or c.args.works.now i 0 c.loop-index-test.true) (got_at c.args.rights.now i c.in-Some.right.now (grind (arith, c.in-Some.ensures.lookup.0)) c.in-Some.ensures.lookup.1) c.in_ok-charged_right-in-Some.ensures
    (ap rights_of c.in_ok-push-in-Some.ensures.items ∙ map-append right_of old (c.in_ok-charged_right-in-Some.field-0 ∷ [])) c.loop-index.invariant

pub returns : goal.returns
returns c = charged_done c.args.works.now c.args.rights.now c.loop-index.index (rights_of c.loop-index.all.items) _ c.loop-index-test.false c.loop-index.invariant
