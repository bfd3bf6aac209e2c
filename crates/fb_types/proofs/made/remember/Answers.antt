use Rattle.std.proofs.Common.{◌≡◌, sym, subst, ◌∙◌, string_bytes, Some}
use Rattle.std.specs.Map.{lookup}
use Rattle.std.specs.Str.{bytes_eq}
use Rattle.fb_types_blocks.proofs.Refused.{either_of}
use Rattle.fb_types.specs.Made.{IsDone}
use Rattle.fb_types.proofs.Tabled.{remembered}
use Rattle.fb_types.proofs.made.remember.Goals as goal

pub returns : goal.returns
returns c = λ bs memo done x m e.
    let es = c.args.memo.now.entries in
    let k = c.in_ok-clone.field-0 in
    let found = subst (λ l. lookup (λ j. bytes_eq x (string_bytes j)) l ≡ Some m) c.in_ok-insert.ensures.entries e in
    either_of (λ p. subst (IsDone bs x) p.1 (subst (λ n. IsDone bs n c.args.made) (sym c.in_ok-clone.ensures.cases ∙ p.0) done)) (λ f. memo x m f) (remembered es k c.args.made m x found)
