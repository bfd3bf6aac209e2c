use Rattle.std.proofs.Common.{◌≡◌, true, false, refl, sym, ◌∙◌, string_bytes}
use Rattle.std.proofs.lemmas.Bool.{not-false}
use Rattle.fb_model.specs.Names.{is_in}
use Rattle.st_types.specs.CommandViews.{busy_of}
use Rattle.st_types.proofs.Scopes.{counts_by}
use Rattle.st_types.proofs.statement.assignable.Goals as goal

pub returns-then-contains : goal.returns-then-contains
returns-then-contains c =
    let writable : c.in_ok-variable.variable.writable ≡ true = not-false _ c.if-not-variable.false in
    let counts : is_in (string_bytes c.args.name.now.text) (busy_of c.args.busy.now) ≡ true = sym (counts_by c.args.name.now.text c.args.busy.now) ∙ sym c.contains.ensures.value ∙ c.if-contains.true in
    rw (c.in_ok-variable.ensures, writable, counts) refl

pub returns : goal.returns
returns c =
    let writable : c.in_ok-variable.variable.writable ≡ true = not-false _ c.if-not-variable.false in
    let idle : is_in (string_bytes c.args.name.now.text) (busy_of c.args.busy.now) ≡ false = sym (counts_by c.args.name.now.text c.args.busy.now) ∙ sym c.contains.ensures.value ∙ c.if-contains.false in
    rw (c.in_ok-variable.ensures, writable, idle) refl
