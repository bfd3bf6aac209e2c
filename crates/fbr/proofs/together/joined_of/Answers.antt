use Rattle.std.proofs.Common.{map, subst, string_bytes}
use Rattle.std.proofs.lemmas.Result.{MatchResult-weaker}
use Rattle.fbr_texts.specs.Once.{written_of}
use Rattle.fbr_texts.specs.Parts.{start_of}
use Rattle.fbr.specs.Together.{AreFilesAdded}
use Rattle.fbr.proofs.Joining.{joined_in, memory_in}
use Rattle.fbr.proofs.together.joined_of.Goals as goal

pub returns-in-Ok-add_last : goal.returns-in-Ok-add_last
returns-in-Ok-add_last g c =
    let before = g.S.Sources.contents c.args.files.now in
    let names = map (λ name. name.now) c.args.names.now in
    MatchResult-weaker c.ended.result c.ended.ensures
    (λ j h. joined_in before names c.args.app.now (written_of c.add_files.new.joining) (written_of c.add_last.new.joining)
    (subst (λ w. AreFilesAdded before names w (written_of c.add_files.new.joining)) c.new-joining.ensures c.in-Ok.ensures) c.in-Ok-add_last.ensures
    (string_bytes j.text) (map start_of j.parts.items) h.0 h.1)
    (λ stopped h. memory_in before names c.args.app.now stopped.fault stopped.file.name.now h.0 h.1)
