use Rattle.std.proofs.Common.{refl, subst}
use Rattle.std.specs.Prelude.{option_map}
use Rattle.fbr_files.specs.Writing.{LeavesAllBut}
use Rattle.fbr_words.specs.Program.{if_named, state_file}
use Rattle.fbr_words.specs.Requests.{service_of}
use Rattle.fbr_serve.proofs.Loaded.{unrecorded_served, unsealed_served}
use Rattle.fbr_static.proofs.Tellings.{all_kept, all_more, all_one, kept_all}
use Rattle.fbr_runs.proofs.Running.{served_by}
use Rattle.fbr_runs.proofs.serving.serve_loaded.Goals as goal

pub returns-in-Err-clause-told : goal.returns-in-Err-clause-told
returns-in-Err-clause-told g c = λ before taken ready.
    let q = service_of c.args.request.now in
    let same = g.S.Sources.same c.args.files.now in
    let booted = g.S.Sources.contents c.args.files.now in
    let mid = g.S.Sources.contents c.open_guard.new.files in
    let old = g.W.Write.contents c.args.output.now in
    let new = g.W.Write.contents c.print_outcome.new.output in
    served_by q same before booted mid mid old new c.print_outcome.result
    (unsealed_served q before booted mid c.args.boot c.in-Err.fault old new c.print_outcome.result taken c.in-Err.ensures.taken c.print_outcome.ensures.told)
    c.open_guard.ensures.others (kept_all same q.life.recorded mid mid refl)

pub returns-in-Err-clause-others : goal.returns-in-Err-clause-others
returns-in-Err-clause-others g c =
    let q = service_of c.args.request.now in
    let same = g.S.Sources.same c.args.files.now in
    let booted = g.S.Sources.contents c.args.files.now in
    let mid = g.S.Sources.contents c.open_guard.new.files in
    let old = g.W.Write.contents c.args.output.now in
    all_more same (state_file q.guard) (if_named q.life.recorded) booted mid mid c.open_guard.ensures.others (all_kept same (if_named q.life.recorded) mid mid refl)

pub returns-in-Ok-open_record-clause-told : goal.returns-in-Ok-open_record-clause-told
returns-in-Ok-open_record-clause-told g c = λ before taken ready.
    let q = service_of c.args.request.now in
    let same = g.S.Sources.same c.args.files.now in
    let booted = g.S.Sources.contents c.args.files.now in
    let mid = g.S.Sources.contents c.open_guard.new.files in
    let old = g.W.Write.contents c.args.output.now in
    let after = g.S.Sources.contents c.open_record.new.files in
    let left = subst (λ s. LeavesAllBut s q.life.recorded mid after) c.open_guard.ensures.names c.open_record.ensures.others in
    served_by q same before booted mid after old (g.W.Write.contents c.serve_ready.new.output) c.serve_ready.result
    (c.serve_ready.ensures.told before booted mid c.args.boot taken ready c.in-Ok.ensures.taken) c.open_guard.ensures.others left

pub returns-in-Ok-open_record-clause-others : goal.returns-in-Ok-open_record-clause-others
returns-in-Ok-open_record-clause-others g c =
    let q = service_of c.args.request.now in
    let same = g.S.Sources.same c.args.files.now in
    let booted = g.S.Sources.contents c.args.files.now in
    let mid = g.S.Sources.contents c.open_guard.new.files in
    let old = g.W.Write.contents c.args.output.now in
    let after = g.S.Sources.contents c.open_record.new.files in
    let left = subst (λ s. LeavesAllBut s q.life.recorded mid after) c.open_guard.ensures.names c.open_record.ensures.others in
    all_more same (state_file q.guard) (if_named q.life.recorded) booted mid after c.open_guard.ensures.others (all_one same q.life.recorded mid after left)

pub returns-in-Err-open_record-clause-told : goal.returns-in-Err-open_record-clause-told
returns-in-Err-open_record-clause-told g c = λ before taken ready.
    let q = service_of c.args.request.now in
    let same = g.S.Sources.same c.args.files.now in
    let booted = g.S.Sources.contents c.args.files.now in
    let mid = g.S.Sources.contents c.open_guard.new.files in
    let old = g.W.Write.contents c.args.output.now in
    let after = g.S.Sources.contents c.open_record.new.files in
    let left = subst (λ s. LeavesAllBut s q.life.recorded mid after) c.open_guard.ensures.names c.open_record.ensures.others in
    let new = g.W.Write.contents c.refuse_record.new.output in
    served_by q same before booted mid after old new c.refuse_record.result
    (unrecorded_served q before booted mid c.args.boot c.in-Err-open_record.fault old new c.refuse_record.result taken c.in-Err-open_record.ensures.refused c.refuse_record.ensures.told)
    c.open_guard.ensures.others left

pub returns-in-Err-open_record-clause-others : goal.returns-in-Err-open_record-clause-others
returns-in-Err-open_record-clause-others g c =
    let q = service_of c.args.request.now in
    let same = g.S.Sources.same c.args.files.now in
    let booted = g.S.Sources.contents c.args.files.now in
    let mid = g.S.Sources.contents c.open_guard.new.files in
    let old = g.W.Write.contents c.args.output.now in
    let after = g.S.Sources.contents c.open_record.new.files in
    let left = subst (λ s. LeavesAllBut s q.life.recorded mid after) c.open_guard.ensures.names c.open_record.ensures.others in
    all_more same (state_file q.guard) (if_named q.life.recorded) booted mid after c.open_guard.ensures.others (all_one same q.life.recorded mid after left)
