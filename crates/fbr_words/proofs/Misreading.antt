-- From what is asked for in what clap matched to what words ask for.
use Rattle.std.proofs.Common.{◌≡◌, ◌∙◌, List, Option, Some, None, Result, Ok, Err, IfOk}
use Rattle.std.specs.Prelude.{IfErr, MatchResult}
use Rattle.clap.specs.Words.{Text}
use Rattle.fbr_words.specs.declared.order.Order.{Order as OrderRequest}
use Rattle.fbr_words.specs.declared.reading.Misread.{Misread}
use Rattle.fbr_words.specs.declared.reading.Misread.TheVariants.{Memory, Help, Words, Number}
use Rattle.fbr_words.specs.Program.{Order, request_of}
use Rattle.fbr_words.specs.Requests.{order_of, IsNumber, IsMisread}

pub asked_words : (words : List Text) (found : Option Order) (r : Result OrderRequest Misread) → request_of words ≡ found
    → MatchResult r (λ q. found ≡ Some (order_of q)) (λ _. found ≡ None) → IfOk r (λ q. request_of words ≡ Some (order_of q))
asked_words words found (Ok q) same h = same ∙ h
asked_words words found (Err m) same h = tt

pub misread_words : (words : List Text) (found : Option Order) (r : Result OrderRequest Misread) → request_of words ≡ found
    → MatchResult r (λ q. found ≡ Some (order_of q)) (λ _. found ≡ None) → IfErr r IsNumber → IfErr r (IsMisread words)
misread_words words found (Ok q) same h n = tt
misread_words words found (Err Memory) same h n = tt
misread_words words found (Err (Help error)) same h n = absurd n
misread_words words found (Err (Words error)) same h n = same ∙ h
misread_words words found (Err (Number why)) same h n = same ∙ h
