use Rattle.std.proofs.Common.{◌++◌, refl, subst}
use Rattle.fbr_files.specs.Reading.{IsFile, held_by}
use Rattle.fbr_files.specs.Writing.{LeavesAll}
use Rattle.fbr_words.specs.Program.{boot_file, if_named, state_file}
use Rattle.fbr_words.specs.Requests.{service_of}
use Rattle.fbr_serve.proofs.Loaded.{refused_served, unbooted_served}
use Rattle.fbr_runs.specs.Running.{TellsServed}
use Rattle.fbr_static.proofs.Tellings.{all_kept, all_more, kept_all}
use Rattle.fbr_runs.proofs.Running.{served_by, told_same}
use Rattle.fbr_runs.proofs.serving.serve.Goals as goal

pub returns-in-Err-clause-told : goal.returns-in-Err-clause-told
returns-in-Err-clause-told g c =
    let q = service_of c.args.request in
    let same = g.S.Sources.same c.args.files.now in
    let before = g.S.Sources.contents c.args.files.now in
    let mid = g.S.Sources.contents c.take_boot.new.files in
    let old = g.W.Write.contents c.args.output.now in
    let new = g.W.Write.contents c.refuse_boot.new.output in
    served_by q same before mid mid mid old new c.refuse_boot.result
    (unbooted_served q before mid mid c.in-Err.fault old new c.refuse_boot.result c.in-Err.ensures.taken c.refuse_boot.ensures.told)
    (kept_all same (state_file q.guard) mid mid refl) (kept_all same q.life.recorded mid mid refl)

pub returns-in-Err-clause-others : goal.returns-in-Err-clause-others
returns-in-Err-clause-others g c =
    let q = service_of c.args.request in
    let same = g.S.Sources.same c.args.files.now in
    let before = g.S.Sources.contents c.args.files.now in
    let mid = g.S.Sources.contents c.take_boot.new.files in
    let more = if_named (state_file q.guard) ++ if_named q.life.recorded in
    all_more same (boot_file q.life.boot) more before mid mid c.take_boot.ensures.others (all_kept same more mid mid refl)

pub returns-in-Ok-load_device-clause-told : goal.returns-in-Ok-load_device-clause-told
returns-in-Ok-load_device-clause-told g c =
    let q = service_of c.args.request in
    let same = g.S.Sources.same c.args.files.now in
    let before = g.S.Sources.contents c.args.files.now in
    let mid = g.S.Sources.contents c.take_boot.new.files in
    let app : IsFile c.args.request.app.now (held_by q.meant (before c.args.request.app.now)) c.read_app-app.result = record { named = c.read_app-app.ensures.named; read = c.read_app-app.ensures.held } in
    let cert : IsFile c.args.request.cert.now (before c.args.request.cert.now) c.read_file-cert.result = record { named = c.read_file-cert.ensures.named; read = c.read_file-cert.ensures.held } in
    told_same q (g.S.Sources.same c.take_boot.new.files) same before (g.S.Sources.contents c.serve_loaded.new.files) (g.W.Write.contents c.args.output.now) (g.W.Write.contents c.serve_loaded.new.output) c.serve_loaded.result c.take_boot.ensures.names
    (c.serve_loaded.ensures.told before c.in-Ok.ensures.taken (c.in-Ok-load_device.ensures (held_by q.meant (before c.args.request.app.now)) (before c.args.request.cert.now) app cert))

pub returns-in-Ok-load_device-clause-others : goal.returns-in-Ok-load_device-clause-others
returns-in-Ok-load_device-clause-others g c =
    let q = service_of c.args.request in
    let same = g.S.Sources.same c.args.files.now in
    let before = g.S.Sources.contents c.args.files.now in
    let mid = g.S.Sources.contents c.take_boot.new.files in
    let more = if_named (state_file q.guard) ++ if_named q.life.recorded in
    let after = g.S.Sources.contents c.serve_loaded.new.files in
    all_more same (boot_file q.life.boot) more before mid after c.take_boot.ensures.others (subst (λ s. LeavesAll s more mid after) c.take_boot.ensures.names c.serve_loaded.ensures.others)

pub returns-clause-told : goal.returns-clause-told
returns-clause-told g c =
    let q = service_of c.args.request in
    let same = g.S.Sources.same c.args.files.now in
    let before = g.S.Sources.contents c.args.files.now in
    let mid = g.S.Sources.contents c.take_boot.new.files in
    let old = g.W.Write.contents c.args.output.now in
    let new = g.W.Write.contents c.print_outcome.new.output in
    let app : IsFile c.args.request.app.now (held_by q.meant (before c.args.request.app.now)) c.read_app-app.result = record { named = c.read_app-app.ensures.named; read = c.read_app-app.ensures.held } in
    let cert : IsFile c.args.request.cert.now (before c.args.request.cert.now) c.read_file-cert.result = record { named = c.read_file-cert.ensures.named; read = c.read_file-cert.ensures.held } in
    served_by q same before mid mid mid old new c.print_outcome.result
    (refused_served q before mid mid c.in-Ok.boot c.in-Err-load_device.fault old new c.print_outcome.result c.in-Ok.ensures.taken (c.in-Err-load_device.ensures (held_by q.meant (before c.args.request.app.now)) (before c.args.request.cert.now) app cert) c.print_outcome.ensures.told)
    (kept_all same (state_file q.guard) mid mid refl) (kept_all same q.life.recorded mid mid refl)

pub returns-clause-others : goal.returns-clause-others
returns-clause-others g c =
    let q = service_of c.args.request in
    let same = g.S.Sources.same c.args.files.now in
    let before = g.S.Sources.contents c.args.files.now in
    let mid = g.S.Sources.contents c.take_boot.new.files in
    let more = if_named (state_file q.guard) ++ if_named q.life.recorded in
    all_more same (boot_file q.life.boot) more before mid mid c.take_boot.ensures.others (all_kept same more mid mid refl)
