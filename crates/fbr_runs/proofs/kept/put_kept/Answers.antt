use Rattle.std.proofs.Common.{subst, ◌∙◌}
use Rattle.std.specs.Prelude.{option_map}
use Rattle.fbr_files.specs.Writing.{LeavesAllBut}
use Rattle.fbr_runs.proofs.Running.{three_left}
use Rattle.fbr_runs.proofs.kept.put_kept.Goals as goal

pub returns-clause-others : goal.returns-clause-others
returns-clause-others g c =
    let same = g.S.Sources.same c.args.files.now in
    let a = g.S.Sources.contents c.args.files.now in
    let b = g.S.Sources.contents c.put_maybe-dump.new.files in
    let d = g.S.Sources.contents c.put_maybe-table.new.files in
    let e = g.S.Sources.contents c.put_maybe-timeline.new.files in
    let two = subst (λ s. LeavesAllBut s (option_map (λ n. n.now) c.args.watched.now.table) b d) c.put_maybe-dump.ensures.names c.put_maybe-table.ensures.others in
    let three = subst (λ s. LeavesAllBut s (option_map (λ n. n.now) c.args.watched.now.timeline) d e) (c.put_maybe-table.ensures.names ∙ c.put_maybe-dump.ensures.names) c.put_maybe-timeline.ensures.others in
    three_left same (option_map (λ n. n.now) c.args.watched.now.dump) (option_map (λ n. n.now) c.args.watched.now.table) (option_map (λ n. n.now) c.args.watched.now.timeline) a b d e c.put_maybe-dump.ensures.others two three
