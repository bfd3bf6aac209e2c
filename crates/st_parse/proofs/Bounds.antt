-- The bounds of FOR, where the text's tokens are seen as the book's.
use Rattle.std.proofs.Common.{◌≡◌, ℕ, ◌-◌, Bool, List, length, take, Ok, ap, ap₂, sym, ◌∙◌}
use Rattle.std.proofs.lemmas.List.{length-map, take-map}
use Rattle.fb_lex.specs.declared.token.Token.{Token}
use Rattle.fb_lex.specs.Views.{token_of, tokens_of}
use Rattle.fb_model.specs.StructuredText.{Expression}
use Rattle.fb_model.specs.StructuredTextGrammar.{is_number}
use Rattle.fb_read.specs.Reading.{Read, ◌>>=◌}
use Rattle.st_parse.specs.Reading.{bound_at}

-- a bound is plain where so many tokens as it takes are a number
pub bound_read : (expr : Read Expression) (ts rest : List Token) (x : Expression) (n : ℕ) (b : Bool) → expr (tokens_of ts) ≡ Ok (x, tokens_of rest) → n ≡ length ts - length rest → b ≡ is_number (tokens_of (take n ts))
    → bound_at expr (tokens_of ts) ≡ Ok (record { value = x; plain = b }, tokens_of rest)
unfolding bound_at
bound_read expr ts rest x n b e m f =
    let count : length (tokens_of ts) - length (tokens_of rest) ≡ n = ap₂ (λ i j. i - j) (length-map ts token_of) (length-map rest token_of) ∙ sym m in
    let plain : is_number (take (length (tokens_of ts) - length (tokens_of rest)) (tokens_of ts)) ≡ b = ap (λ k. is_number (take k (tokens_of ts))) count ∙ (ap is_number (take-map token_of n ts) ∙ sym f) in
    ap (λ r. r >>= λ y. Ok (record { value = y.0; plain = is_number (take (length (tokens_of ts) - length y.1) (tokens_of ts)) }, y.1)) e ∙ ap (λ p. Ok (record { value = x; plain = p }, tokens_of rest)) plain
