-- Demands that are added, one after another.
use Rattle.std.proofs.Common.{◌≡◌, List, [], ◌∷◌, ◌++◌, ap, ◌∙◌}
use Rattle.std.proofs.lemmas.List.{map-append}
use Rattle.fb_find_laws.specs.Nodes.{Numbered}
use Rattle.fb_find_demands.specs.declared.right.Right.{Right}
use Rattle.fb_find_demands.specs.Rights.{right_of, rights_of}

pub one_added : (old new : List Right) (r : Right) (x : Numbered) → new ≡ old ++ r ∷ [] → right_of r ≡ x → rights_of new ≡ rights_of old ++ x ∷ []
one_added old new r x e k = ap rights_of e ∙ map-append right_of old (r ∷ []) ∙ ap (λ q. rights_of old ++ q ∷ []) k
