use Rattle.std.proofs.Common.{inl, inr, subst}
use Rattle.fb_model.specs.Spelling.{IsBad}
use Rattle.fb_lex.proofs.Whole.{one_place, not_both, fault_unspelled}
use Rattle.fb_lex.proofs.lexer.one_fault.Goals as goal

pub returns-clause-character : goal.returns-clause-character
returns-clause-character c = λ text at other f g. (one_place f.1 (inl f.2) g.1 (inl g.2)).0

pub returns-clause-number : goal.returns-clause-number
returns-clause-number c = λ text at other f g. (one_place f.1 (inr f.2) g.1 (inr g.2)).0

pub returns-clause-either : goal.returns-clause-either
returns-clause-either c = λ text at other f g.
    let p = one_place f.1 (inl f.2) g.1 (inr g.2) in
    not_both (subst (λ l. IsBad l) p.1 f.2) g.2

pub returns-clause-no_character : goal.returns-clause-no_character
returns-clause-no_character c = λ text at ts f s. fault_unspelled f.1 (inl f.2) s

pub returns-clause-no_number : goal.returns-clause-no_number
returns-clause-no_number c = λ text at ts f s. fault_unspelled f.1 (inr f.2) s
