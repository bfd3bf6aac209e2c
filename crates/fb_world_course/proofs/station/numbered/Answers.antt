use Rattle.std.proofs.Common.{sym, ◌∙◌, length, refl}
use Rattle.std.proofs.lemmas.Option.{slice_get_read}
use Rattle.fb_world_course.proofs.station.numbered.Goals as goal

pub returns-then-is_named : goal.returns-then-is_named
returns-then-is_named c = (c.index-stations-at.result, slice_get_read c.args.stations.now (length c.args.stations.now) c.loop-at.at c.index-stations-at.result refl c.loop-at-test.true c.index-stations-at.is, sym c.is_named.ensures ∙ c.if-is_named.true)
