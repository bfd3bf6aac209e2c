use Rattle.std.proofs.Common.{◌≡◌, ◌+◌, drop, sym, subst, ◌∙◌}
use Rattle.std.specs.declared.string.String.{String}
use Rattle.std.specs.declared.alloc.Global.{Global}
use Rattle.fb_types_blocks.specs.declared.typed.Variable.{Variable}
use Rattle.fb_types_blocks.specs.Views.{names_of}
use Rattle.fb_flat.specs.Sites.{dotted}
use Rattle.fb_check_rows.specs.Members.{gathered, with_name}
use Rattle.fb_check_rows.specs.Texts.{texts_in, ranged_names}
use Rattle.fb_check_rows.proofs.Members.{rest_at}
use Rattle.fb_check_rows.proofs.Tables.{listed, ranged_on, ranged_over}
use Rattle.fb_check_rows.proofs.requirement.require_variables.Goals as goal
use Rattle.fb_check_rows.proofs.requirement.require_variables.Goals.{then-not-is_boolean+in_ok-require_name, else-not-is_boolean}

pub loop-index-preserved : goal.loop-index-preserved
loop-index-preserved c =
    let p = c.args.path.now in
    let xs = c.args.variables.now.entries in
    let k = c.loop-index.index in
    let x : String Global × Variable = (c.in-Some.name.now, c.in-Some.variable.now) in
    let here = rest_at xs k x (sym c.in-Some.ensures.entry) in
    elim c.if-not-is_boolean.branch [
      | then-not-is_boolean+in_ok-require_name w ↦
          subst (λ r. gathered (names_of r) (texts_in p (ranged_names (listed (drop (k + 1) xs)))) ≡ gathered (names_of c.args.rows.now) (texts_in p (ranged_names (listed xs)))) (sym w.rows-is)
          (ranged_on p xs k x (names_of c.loop-index.rows) (names_of w.require_name.new.rows) (gathered (names_of c.args.rows.now) (texts_in p (ranged_names (listed xs)))) here (sym c.is_boolean.ensures ∙ w.if-not-is_boolean.true)
          (subst (λ n. names_of w.require_name.new.rows ≡ with_name (names_of c.loop-index.rows) (dotted p n)) w.as_str.ensures.value w.in_ok-require_name.ensures.rows) c.loop-index.invariant)
      | else-not-is_boolean w ↦
          subst (λ r. gathered (names_of r) (texts_in p (ranged_names (listed (drop (k + 1) xs)))) ≡ gathered (names_of c.args.rows.now) (texts_in p (ranged_names (listed xs)))) (sym w.rows-is)
          (ranged_over p xs k x (names_of c.loop-index.rows) (gathered (names_of c.args.rows.now) (texts_in p (ranged_names (listed xs)))) here (sym c.is_boolean.ensures ∙ w.if-not-is_boolean.false) c.loop-index.invariant)
    ]
