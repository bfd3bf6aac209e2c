use Rattle.std.proofs.Common.{◌≡◌, ◌+◌, ◌∙◌, refl, subst, ap, arith}
use Rattle.fbr_files.specs.Outcomes.{IsContents, IsReadFault}
use Rattle.fb_keys.specs.State.{state_text}
use Rattle.fb_keys.specs.Views.{state_of}
use Rattle.fbr_seals.proofs.taking.take_state.Goals as goal

pub returns-in-Err-clause-taken : goal.returns-in-Err-clause-taken
returns-in-Err-clause-taken g c =
    (subst (λ n. IsReadFault n c.in-Err.fault) c.read_file-file.ensures.named (c.in-Err.ensures (g.S.Sources.contents c.args.files.now c.args.name.now) c.read_file-file.ensures.held), refl)

pub returns-in-Ok-put_text-clause-taken : goal.returns-in-Ok-put_text-clause-taken
returns-in-Ok-put_text-clause-taken g c =
    let before = g.S.Sources.contents c.args.files.now c.args.name.now in
    let after = g.S.Sources.contents c.put_text.new.files c.args.name.now in
    let more : c.in-Some.own ≡ c.in-Ok-Some.state.own + 65536 = omega (arith, c.in-Some.ensures) in
    let said : c.in-Ok.text.now ≡ state_text (state_of c.in-Ok-Some.state) = rw c.in-Ok-Some.field-0-is at c.in-Ok-Some.ensures in
    record {
      held = state_of c.in-Ok-Some.state;
      was = subst (IsContents before) said (c.in-Ok.ensures before c.read_file-file.ensures.held);
      next = ap (λ n. record { own = n; entries = c.in-Ok-Some.state.entries.items }) more;
      is = subst (IsContents after) (c.as_bytes.ensures.value ∙ (c.as_str.ensures.value ∙ c.in-Ok-spell.ensures)) c.in-Ok-put_text.ensures.put;
    }
