use Rattle.std.proofs.Common.{ap}
use Rattle.std.specs.Prelude.{option_map}
use Rattle.fbr_static.proofs.Tellings.{into_put}
use Rattle.fbr_static.proofs.bounding.put_out.Goals as goal

pub returns-in-Some-clause-told : goal.returns-in-Some-clause-told
returns-in-Some-clause-told g c =
    into_put (option_map (λ x. x.now) c.args.into) c.in-Some.name.now c.args.text.now c.as_bytes.result.now (g.S.Sources.contents c.args.files.now) (g.S.Sources.contents c.write_into.new.files) (g.W.Write.contents c.args.output.now) (g.W.Write.contents c.write_into.new.output)
    c.write_into.result (ap (option_map (λ x. x.now)) c.in-Some.is) c.as_bytes.ensures.value c.write_into.ensures.written
