-- Numbers of constants.
use Rattle.std.proofs.Common.{◌≡◌, ℕ, ℤ, [], Result, Ok, Err, IfOk, IfErr, sym, ap, ◌∙◌}
use Rattle.fb_words.specs.declared.elem_type.ElemType.{ElemType}
use Rattle.fb_words.specs.declared.elem_type.ElemType.TheVariants as t
use Rattle.fb_model.specs.Trees.{Constant}
use Rattle.fb_model.specs.StructuredText.{literal}
use Rattle.fb_model.specs.TypedText.{Term, constant}
use Rattle.fb_model.specs.TextTyping.{IsNumber}
use Rattle.fb_model.specs.TextFaults.{Fault, unknown_name, type_mismatch, bad_literal, not_writable}
use Rattle.fb_model.specs.BlockTyping.{IsGiven}
use Rattle.st_types.specs.Elaborating.{asked}
use Rattle.st_types.specs.Commanding.{number_of}
use Rattle.st_types.proofs.Commands.{asked_sound, asked_complete, number_sound}
use Rattle.st_types.proofs.Misdoings.{asked_refused, number_refused}
use Rattle.fb_faults.specs.declared.typing.TypeFault.{TypeFault}
use Rattle.fb_faults.specs.declared.typing.TypeFault.TheVariants.{UnknownName, TypeMismatch, BadLiteral, NotWritable}
use Rattle.fb_types_blocks.specs.Answers.{Gives}
use Rattle.fb_model.specs.BlockFaults.{IsFaultOf, IsMisgiven, IsNoBound}

-- what a refusal says is so, where what is defined says it
pub gives_refused : {X Y : Type 0} (view : X → Y) (P : Fault → Type 0) (r : Result X TypeFault) (said : Result Y Fault) → ((w : Fault) → said ≡ Err w → P w) → Gives view r said → IfErr r (IsFaultOf P)
gives_refused view P (Ok x) said so h = tt
gives_refused view P (Err (UnknownName at)) said so h = so (unknown_name at) h
gives_refused view P (Err (TypeMismatch at)) said so h = so (type_mismatch at) h
gives_refused view P (Err (BadLiteral at)) said so h = so (bad_literal at) h
gives_refused view P (Err (NotWritable at)) said so h = so (not_writable at) h
gives_refused view P (Err f) said so h = absurd h

-- ---- a constant where a type is asked for

pub given_found : (a : ElemType) (s : ℕ) (c : Constant) (r : Result ℤ TypeFault) → Gives constant r (asked [] a s (literal c)) → IfOk r (IsGiven a c)
given_found a s c (Ok n) h = asked_sound [] a s (literal c) (constant n) h
given_found a s c (Err f) h = tt

same : (n m : ℤ) → (let r : Result Term Fault = Ok (constant n) in r ≡ Ok (constant m)) → n ≡ m
same n m e = cc

other : (w : Fault) (m : ℤ) → (let r : Result Term Fault = Err w in r ≡ Ok (constant m)) → ⊥
other w m e = cc

pub given_only : (a : ElemType) (s : ℕ) (c : Constant) (r : Result ℤ TypeFault) → Gives constant r (asked [] a s (literal c)) → (m : ℤ) → IsGiven a c m → r ≡ Ok m
given_only a s c (Ok n) h m k = ap Ok (same n m (sym h ∙ asked_complete [] a s (literal c) (constant m) k))
given_only a s c (Err (UnknownName at)) h m k = absurd (other (unknown_name at) m (sym h ∙ asked_complete [] a s (literal c) (constant m) k))
given_only a s c (Err (TypeMismatch at)) h m k = absurd (other (type_mismatch at) m (sym h ∙ asked_complete [] a s (literal c) (constant m) k))
given_only a s c (Err (BadLiteral at)) h m k = absurd (other (bad_literal at) m (sym h ∙ asked_complete [] a s (literal c) (constant m) k))
given_only a s c (Err (NotWritable at)) h m k = absurd (other (not_writable at) m (sym h ∙ asked_complete [] a s (literal c) (constant m) k))
given_only a s c (Err f) h m k = absurd h

pub given_refused : (a : ElemType) (s : ℕ) (c : Constant) (r : Result ℤ TypeFault) → Gives constant r (asked [] a s (literal c)) → IfErr r (IsMisgiven a s c)
given_refused a s c r h = gives_refused constant _ r (asked [] a s (literal c)) (asked_refused [] a s (literal c)) h

-- ---- a number of LINT

pub bound_found : (c : Constant) (n : ℤ) → number_of t.Lint c ≡ Ok n → IsNumber t.Lint c n
bound_found c n h = number_sound t.Lint c n h

pub bound_refused : (c : Constant) (r : Result ℤ TypeFault) → Gives (λ n. n) r (number_of t.Lint c) → IfErr r (IsNoBound c)
bound_refused c r h = gives_refused (λ n. n) _ r (number_of t.Lint c) (number_refused t.Lint c) h
