-- What tokens are, without where they lie in memory.
use Rattle.std.specs.Prelude.{List, map, string_bytes}
use Rattle.fb_lex.specs.declared.token.Token.{Token}
use Rattle.fb_lex.specs.declared.token.Kind.{Kind}
use Rattle.fb_lex.specs.declared.token.Kind.TheVariants.{Name, Number, Typed, Duration, Mark as AMark}
use Rattle.fb_model.specs.Tokens as book
use Rattle.fb_model.specs.Tokens.{name, number, typed, duration, mark, token}

abbrev pub kind_of : Kind → book.Kind
kind_of (Name x) = name (string_bytes x)
kind_of (Number n) = number n
kind_of (Typed t negative n) = typed t negative n
kind_of (Duration negative n) = duration negative n
kind_of (AMark k) = mark k

abbrev pub token_of : Token → book.Token
token_of t = token (kind_of t.kind) t.start t.end

abbrev pub tokens_of : List Token → List book.Token
tokens_of ts = map token_of ts
