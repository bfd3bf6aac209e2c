use Rattle.std.proofs.Common.{◌≡◌, ◌∷◌, [], ◌++◌, None, refl, sym, ap, subst, ◌∙◌, string_bytes}
use Rattle.std.proofs.lemmas.List.{map_push}
use Rattle.st_exec.specs.Laid.{Table, found, form_in, forms_in, IsLaid}
use Rattle.st_exec.proofs.Laying.{insert_new, laid_more}
use Rattle.st_exec.proofs.location.give.Goals.{in-Ok, in-Err}
use Rattle.st_exec.proofs.location.give.Goals as goal

pub returns-clause-forms : goal.returns-clause-forms
returns-clause-forms c = elim c.match-insert.branch [
  | in-Ok w ↦
      let t = c.args.locations.now.entries in
      let key = c.in_ok-key.key in
      let absent : found t (string_bytes key) ≡ None = ap (found t) c.in_ok-key.ensures.ok ∙ c.requires.absent in
      let entries = w.in-Ok.ensures.entries ∙ insert_new t key (record { first = c.args.first; bounds = c.args.bounds }) absent in
      rw w.result-is (ap forms_in entries ∙ map_push form_in t (key, record { first = c.args.first; bounds = c.args.bounds }) ∙ ap (λ x. forms_in t ++ (x, c.args.bounds) ∷ []) c.in_ok-key.ensures.ok)
  | in-Err w ↦ rw w.result-is tt
]

pub returns-clause-laid : goal.returns-clause-laid
returns-clause-laid c = elim c.match-insert.branch [
  | in-Ok w ↦
      let t = c.args.locations.now.entries in
      let key = c.in_ok-key.key in
      let absent : found t (string_bytes key) ≡ None = ap (found t) c.in_ok-key.ensures.ok ∙ c.requires.absent in
      let entries = w.in-Ok.ensures.entries ∙ insert_new t key (record { first = c.args.first; bounds = c.args.bounds }) absent in
      let a = laid_more 0 c.args.first t (key, record { first = c.args.first; bounds = c.args.bounds }) c.in-Some.end c.requires.laid refl c.in-Some.ensures in
      rw w.result-is (subst (λ (l : Table). IsLaid 0 l c.in-Some.end) (sym entries) a)
  | in-Err w ↦ rw w.result-is tt
]
