-- Declarations of block types at the front of a text: this project's profile.
use Rattle.std.specs.Prelude.{◌≡◌, ℕ, List, [], ◌∷◌, ◌++◌, map, Bool, false, true, if◌then◌else◌}
use denote.Enum.Bare.{sameb}
use Rattle.fb_words.specs.contracts.mark.Mark.{the_type}
use Rattle.fb_words.specs.declared.mark.Mark.{Mark}
use Rattle.fb_words.specs.declared.mark.Mark.TheVariants.{FunctionBlock, EndFunctionBlock, System, EndSystem}
use Rattle.fb_model.specs.Spelling.{Spells}
use Rattle.fb_model.specs.Tokens.{Token, token, name, number, typed, duration, mark}
use Rattle.fbr_texts.specs.declared.front.Span.{Span as CodeSpan}
use Rattle.fbr_texts.specs.declared.front.Place.{Place}
use Rattle.fbr_texts.specs.declared.front.Place.TheVariants.{Between, Within, Opened, Named, Closed, Past}
use Rattle.fbr_texts.specs.declared.front.Front.{Front as CodeFront}

-- where a declaration begins, and where it ends
abbrev pub Span : Type 0
Span = ℕ × ℕ

-- the declarations so far, and where reading is: between two, in one, or past them all
pub record Front : Type 0 where
  pub spans : List Span
  pub place : Place

abbrev pub span_of : CodeSpan → Span
span_of s = (s.from, s.to)

abbrev pub front_of : CodeFront → Front
front_of f = record { spans = map span_of f.spans.items; place = f.place }

-- a token is this mark
abbrev pub is_mark : Mark → Token → Bool
is_mark m (token (mark k) s e) = sameb the_type k m
is_mark m (token (name x) s e) = false
is_mark m (token (number n) s e) = false
is_mark m (token (typed t negative n) s e) = false
is_mark m (token (duration negative n) s e) = false

abbrev pub start_of : Token → ℕ
start_of (token k s e) = s

abbrev pub end_of : Token → ℕ
end_of (token k s e) = e

-- it is a name
abbrev pub is_name : Token → Bool
is_name (token (name x) s e) = true
is_name (token (mark k) s e) = false
is_name (token (number n) s e) = false
is_name (token (typed t negative n) s e) = false
is_name (token (duration negative n) s e) = false

-- between declarations FUNCTION_BLOCK begins one and SYSTEM a system, and at anything else they are over
abbrev pub entered : Token → Place
entered t = if is_mark FunctionBlock t then Within (start_of t) else (if is_mark System t then Opened (start_of t) else Past (start_of t))

-- a system has a name, and END_SYSTEM behind it where it has no devices
abbrev pub named : ℕ → Token → Place
named at t = if is_name t then Named at else Past (start_of t)

abbrev pub closed : ℕ → Token → Place
closed at t = if is_mark EndSystem t then Closed at else Past (start_of t)

-- a declaration goes up to the next END_FUNCTION_BLOCK
abbrev pub go_on : List Span → ℕ → Token → Front
go_on spans from t = if is_mark EndFunctionBlock t then record { spans = spans ++ (from, end_of t) ∷ []; place = Between } else record { spans = spans; place = Within from }

-- one token more
abbrev pub step_in : List Span → Place → Token → Front
step_in spans Between t = record { spans = spans; place = entered t }
step_in spans (Within from) t = go_on spans from t
step_in spans (Opened at) t = record { spans = spans; place = named at t }
step_in spans (Named at) t = record { spans = spans; place = closed at t }
step_in spans (Closed at) t = record { spans = spans; place = Past (start_of t) }
step_in spans (Past at) t = record { spans = spans; place = Past at }

abbrev pub step : Front → Token → Front
step f t = step_in f.spans f.place t

abbrev pub run : Front → List Token → Front
run f [] = f
run f (t ∷ ts) = run (step f t) ts

abbrev pub at_first : Front
at_first = record { spans = []; place = Between }

-- the front of a text
abbrev pub IsFrontOf : List ℕ → Front → Type 0
IsFrontOf text f = (ts : List Token) × Spells 0 text ts × (f ≡ run at_first ts)
