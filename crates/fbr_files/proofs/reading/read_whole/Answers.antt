use Rattle.std.proofs.Common.{◌≡◌, take, ◌++◌, subst}
use Rattle.std.specs.Prelude.{IfSome, option_map}
use Rattle.fbr_files.proofs.Contents.{read_limited}
use Rattle.fbr_files.proofs.reading.read_whole.Goals as goal

pub returns-in-Ok : goal.returns-in-Ok
returns-in-Ok g c =
    read_limited (g.R.Read.remaining c.args.reader.now) c.take.result.limit 33554433 c.new-bytes.result.items c.read_to_end.new.buf.items c.take.ensures.limit c.new-bytes.ensures.items
    (subst (λ r. IfSome (option_map (take c.take.result.limit) (g.R.Read.remaining r.now)) (λ xs. c.read_to_end.new.buf.items ≡ c.new-bytes.result.items ++ xs)) c.take.ensures.inner c.in-Ok.ensures.bytes)
