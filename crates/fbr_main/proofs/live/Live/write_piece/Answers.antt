use Rattle.std.proofs.Common.{arith, ap, length}
use Rattle.std.proofs.lemmas.List.{length-take}
use Rattle.fbr_main.proofs.live.Live.write_piece.Goals as goal

pub took-requires : goal.took-requires
took-requires c = omega (arith, c.min.ensures, ap length c.front-piece.ensures, length-take 4096 c.args.self.now.lines.bytes)
