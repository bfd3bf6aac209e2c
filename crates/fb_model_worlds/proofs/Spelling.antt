-- Bytes spell one message at most.
use Rattle.std.proofs.Common.{◌≡◌, ℕ, List, [], sym, subst}
use Rattle.std.proofs.lemmas.List.{append-nil}
use Rattle.fb_model.specs.Messages.{Message, Spells}
use Rattle.fb_model_texts.proofs.Messages.{begins_no_other}

pub spells_one : (bytes : List ℕ) (m n : Message) → Spells m bytes → Spells n bytes → m ≡ n
spells_one bytes m n s t = (begins_no_other m n bytes [] s (subst (Spells n) (sym (append-nil bytes)) t)).0
