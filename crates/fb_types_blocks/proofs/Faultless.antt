-- What is well typed has no fault: names, limits, variables and interfaces. Memory can run out nevertheless.
use Rattle.std.proofs.Common.{◌≡◌, ℕ, zero, suc, ◌≤◌, ◌<◌, ℤ, pos, ◌+ℤ◌, List, [], ◌∷◌, ◌++◌, Bool, true, false, cond, Option, Some, None, length, refl, sym, ap, subst, ◌∙◌, arith, ◌⊎◌, inl, inr, Result, Ok, append_assoc, true≢false}
use Rattle.std.specs.List.{Any, AllByRecursion}
use Rattle.std.proofs.lemmas.List.{length-map}
use Rattle.std.proofs.lemmas.Int.{ints}
use Rattle.std.proofs.lemmas.Option.{slice_get_within}
use Rattle.fb_words.specs.declared.elem_type.ElemType.{ElemType}
use Rattle.fb_words.specs.declared.elem_type.ElemType.TheVariants as t
use Rattle.fb_model.specs.Names.{Name, is_in}
use Rattle.fb_model.specs.Productions.{Word}
use Rattle.fb_model.specs.Trees.{Constant}
use Rattle.fb_model.specs.Declarations.{EventTree, BoundsTree, StartTree, VariableTree, BlockTree}
use Rattle.fb_model.specs.StructuredText.{literal}
use Rattle.fb_model.specs.TypedText.{constant}
use Rattle.fb_model.specs.TextTyping.{IsNumber, a_number}
use Rattle.fb_model.specs.TextFaults.{Fault, unknown_name, type_mismatch, bad_literal, not_writable, IsNotAsked, IsNoNumber, not_fitting, not_whole}
use Rattle.fb_model.specs.System as book
use Rattle.fb_model.specs.Typing.{AreNew, AreDistinct, IsKnown, texts}
use Rattle.fb_model.specs.BlockTyping.{Declared, IsGiven, AreBounds, some_bounds, IsStart, a_start, AreDeclared, more, AreKnown, IsFace, face_names, names_in, words_in, event_texts}
use Rattle.st_types.proofs.Commands.{number_complete}
use Rattle.st_types.proofs.Faultless.{asked_faultless}
use Rattle.fb_faults.specs.declared.typing.TypeFault.{TypeFault}
use Rattle.fb_faults.specs.declared.typing.TypeFault.TheVariants.{OutOfMemory, UnknownName, DuplicateName, TypeMismatch, BadLiteral, NotWritable, Limit}
use Rattle.fb_model.specs.BlockFaults.{event_words, own_words, place_of}
use Rattle.fb_model.specs.BlockFaults.{repeated, IsRepetition, IsExcess, IsUnknown, IsUnknownIfSome, IsFaultOf, IsTextFault, IsMisgiven, IsNoBound, IsBoundsFault, low_no_number, high_no_number, low_above_high, excess_element, IsBoundsFaultIfSome, IsStartFault, IsVariableFault, bad_bounds, bad_start, IsEventFault, IsFaceFault, no_memory_for_face, excess_event_input, excess_event_output, excess_input, excess_output, repeated_name, faulty_input, faulty_output, with_no_input, with_no_output}
use Rattle.fb_types_blocks.proofs.Lists.{map_map, texts_append}
use Rattle.fb_types_blocks.proofs.Refused.{either_of}
use Rattle.fb_types_blocks.proofs.Variables.{names_declared}

pub not_both : {b : Bool} → b ≡ true → b ≡ false → ⊥
not_both p q = cc

-- ---- lists

pub any_nil : {X : Type 0} {P : X → Type 0} → Any P [] → ⊥
any_nil a = omega (arith, a.2)

pub any_cons : {X : Type 0} {P : X → Type 0} (x : X) (xs : List X) → Any P (x ∷ xs) → P x ⊎ Any P xs
any_cons {X} {P} x xs (zero, y, l, e, p) = inl (subst P (sym e) p)
any_cons {X} {P} x xs (suc k, y, l, e, p) = inr (k, y, omega (arith, l), e, p)

-- what follows for each element follows where one is at fault
pub any_all : {X : Type 0} {P Q : X → Type 0} {R : Type 0} → ((x : X) → P x → Q x → R) → (xs : List X) → Any P xs → AllByRecursion Q xs → R
any_all f [] a q = absurd (any_nil a)
any_all f (x ∷ xs) a q = either_of (λ p. f x p q.0) (λ b. any_all f xs b q.1) (any_cons x xs a)

-- ---- names

repeated_turn : (w : Word) (before : List Name) (ws : List Word) (at : ℕ) (b : Bool) → (repeated (before ++ w.text ∷ []) ws ≡ Some at → AreNew (before ++ w.text ∷ []) (texts ws) → ⊥) → b ≡ false → AreNew (before ++ w.text ∷ []) (texts ws) → cond b (Some w.at) (repeated (before ++ w.text ∷ []) ws) ≡ Some at → ⊥
repeated_turn w before ws at true again b new e = absurd cc
repeated_turn w before ws at false again b new e = again e new

none_repeated : (before : List Name) (ws : List Word) (at : ℕ) → repeated before ws ≡ Some at → AreNew before (texts ws) → ⊥
none_repeated before [] at e new = absurd cc
none_repeated before (w ∷ ws) at e new = repeated_turn w before ws at (is_in w.text before) (none_repeated (before ++ w.text ∷ []) ws at) new.0 new.1 e

pub no_repetition : (before : List Name) (ws : List Word) (f : TypeFault) → IsRepetition before ws f → AreNew before (texts ws) → f ≡ OutOfMemory
no_repetition before ws OutOfMemory h new = refl
no_repetition before ws (DuplicateName at) h new = absurd (none_repeated before ws at h new)
no_repetition before ws f h new = absurd h

pub no_excess : (most : ℕ) (ws : List Word) (f : TypeFault) → IsExcess most ws f → length ws ≤ most → f ≡ OutOfMemory
no_excess most ws (Limit at) h few =
    let l = slice_get_within ws most h.0 h.1 in
    absurd (omega (arith, l, few))
no_excess most ws f h few = absurd h

pub no_unknown : (names : List Name) (w : Word) (f : TypeFault) → IsUnknown names w f → is_in w.text names ≡ true → f ≡ OutOfMemory
no_unknown names w (UnknownName at) h known = absurd (not_both known h.1)
no_unknown names w f h known = absurd h

pub no_unknown_if_some : (names : List Name) (w : Option Word) (f : TypeFault) → IsUnknownIfSome names w f → IsKnown names w → f ≡ OutOfMemory
no_unknown_if_some names None f h known = absurd h
no_unknown_if_some names (Some w) f h known = no_unknown names w f h known

-- ---- Structured Text

pub no_fault_of : (P : Fault → Type 0) (f : TypeFault) → IsFaultOf P f → ((w : Fault) → P w → ⊥) → ⊥
no_fault_of P (UnknownName at) h never = never (unknown_name at) h
no_fault_of P (TypeMismatch at) h never = never (type_mismatch at) h
no_fault_of P (BadLiteral at) h never = never (bad_literal at) h
no_fault_of P (NotWritable at) h never = never (not_writable at) h
no_fault_of P f h never = h

pub no_text_fault : (P : Fault → Type 0) (f : TypeFault) → IsTextFault P f → ((w : Fault) → P w → ⊥) → f ≡ OutOfMemory
no_text_fault P OutOfMemory h never = refl
no_text_fault P (UnknownName at) h never = absurd (never (unknown_name at) h)
no_text_fault P (TypeMismatch at) h never = absurd (never (type_mismatch at) h)
no_text_fault P (BadLiteral at) h never = absurd (never (bad_literal at) h)
no_text_fault P (NotWritable at) h never = absurd (never (not_writable at) h)
no_text_fault P f h never = absurd h

pub not_misgiven : (a : ElemType) (at : ℕ) (c : Constant) (n : ℤ) (f : TypeFault) → IsGiven a c n → IsMisgiven a at c f → ⊥
not_misgiven a at c n f g h = no_fault_of (IsNotAsked [] a at (literal c)) f h (λ w m. asked_faultless [] a at (literal c) (constant n) w g m)

-- ---- variables

number_faultless : (a : ElemType) (c : Constant) (n : ℤ) (w : Fault) → IsNumber a c n → IsNoNumber a c w → ⊥
number_faultless a c n w (a_number h) (not_fitting k) = not_both h k
number_faultless a c n w (a_number h) (not_whole k) = true≢false k

is_bound : (c : Constant) (n : ℤ) (f : TypeFault) → IsNumber t.Lint c n → IsNoBound c f → ⊥
is_bound c n f g h = no_fault_of (IsNoNumber t.Lint c) f h (λ w m. number_faultless t.Lint c n w g m)

pub one_number : (a : ElemType) (c : Constant) (n m : ℤ) → IsNumber a c n → IsNumber a c m → n ≡ m
one_number a c n m h k = same n m (sym (number_complete a c n h) ∙ number_complete a c m k)
  where
    same : (n m : ℤ) → (let r : Result ℤ Fault = Ok n in r ≡ Ok m) → n ≡ m
    same n m e = cc

-- one distance is not below nought and not too large
apart_bounds : (low high l h : ℤ) (n m : ℕ) → l ≡ low → h ≡ high → h ≡ l +ℤ pos n → low ≡ high +ℤ pos (suc m) → ⊥
apart_bounds low high l h n m e f g k = omega (arith, ints, e, f, g, k)

few_elements : (low high l h : ℤ) (n m : ℕ) → l ≡ low → h ≡ high → h ≡ l +ℤ pos n → n < 1024 → high ≡ low +ℤ pos m → 1024 ≤ m → ⊥
few_elements low high l h n m e f g s k b = omega (arith, ints, e, f, g, s, k, b)

no_bounds_fault : (at : ℕ) (b : BoundsTree) (r : ℤ × ℤ) (f : TypeFault) → AreBounds (Some b) (Some r) → IsBoundsFault at b f → ⊥
no_bounds_fault at b r f (some_bounds {low = l} x y e s) (low_no_number h) = is_bound b.low l f x h
no_bounds_fault at b r f (some_bounds {high = k} x y e s) (high_no_number h) = is_bound b.high k f y h
no_bounds_fault at b r f (some_bounds {low = l} {high = k} {n = n} x y e s) (low_above_high low high m p q d g) = apart_bounds low high l k n m (one_number t.Lint b.low l low x p) (one_number t.Lint b.high k high y q) e d
no_bounds_fault at b r f (some_bounds {low = l} {high = k} {n = n} x y e s) (excess_element low high m p q d g i) = few_elements low high l k n m (one_number t.Lint b.low l low x p) (one_number t.Lint b.high k high y q) e s d g

no_bounds_if_some : (ws : List Word) (o : Option BoundsTree) (r : Option (ℤ × ℤ)) (f : TypeFault) → AreBounds o r → IsBoundsFaultIfSome ws o f → ⊥
no_bounds_if_some ws None r f x h = h
no_bounds_if_some ws (Some b) (Some r) f x h = no_bounds_fault (place_of ws b.high.at) b r f x h
no_bounds_if_some ws (Some b) None f x h = elim x [ ]

no_start_fault : (a : ElemType) (o : Option StartTree) (n : Option ℤ) (f : TypeFault) → IsStart a o n → IsStartFault a o f → ⊥
no_start_fault a None n f x h = h
no_start_fault a (Some s) n f (a_start {n = m} g) h = not_misgiven a s.at s.value m f g h

no_variable_fault : (v : VariableTree) (b : Option (ℤ × ℤ)) (n : Option ℤ) (f : TypeFault) → AreBounds v.bounds b → IsStart v.type v.start n → IsVariableFault v f → ⊥
no_variable_fault v b n f x y (bad_bounds h) = no_bounds_if_some v.names v.bounds b f x h
no_variable_fault v b n f x y (bad_start h) = no_start_fault v.type v.start n f y h

pub no_variables_fault : (vs : List VariableTree) (ds : List Declared) (f : TypeFault) → AreDeclared vs ds → Any (λ v. IsVariableFault v f) vs → ⊥
no_variables_fault [] ds f d a = any_nil a
no_variables_fault (v ∷ vs) ds f (more {b = b} {n = n} {ds = es} x y d) a = either_of (no_variable_fault v b n f x y) (no_variables_fault vs es f d) (any_cons v vs a)

-- ---- interfaces

known_among : (names : List Name) (ws : List Word) (f : TypeFault) → Any (λ w. IsUnknown names w f) ws → AreKnown names ws → f ≡ OutOfMemory
known_among names ws f a k = any_all (λ w u i. no_unknown names w f u i) ws a k

no_event_fault : (names : List Name) (es : List EventTree) (f : TypeFault) → Any (λ e. IsEventFault names e f) es → AllByRecursion (λ e. AreKnown names e.carries) es → f ≡ OutOfMemory
no_event_fault names es f a k = any_all (λ e u i. known_among names e.carries f u i) es a k

few_events : (es : List EventTree) (most : ℕ) → length es ≤ most → length (event_words es) ≤ most
few_events es most h = let e = length-map es (λ x. x.name) in omega (arith, h, e)

few_words : (vs : List VariableTree) (ds : List Declared) (most : ℕ) → AreDeclared vs ds → length ds ≤ most → length (words_in vs) ≤ most
few_words vs ds most d h =
    let e = ap length (names_declared vs ds d) in
    let i = length-map ds (λ x. x.name) in
    let j = length-map (words_in vs) (λ w. w.text) in
    omega (arith, h, e, i, j)

-- the names of an interface, as words and as texts
pub own_names_are : (b : BlockTree) (ins outs : List Declared) → AreDeclared b.inputs ins → AreDeclared b.outputs outs → texts (own_words b) ≡ face_names b ins outs
own_names_are b ins outs i o =
    let es = event_words b.event_inputs in
    let fs = event_words b.event_outputs in
    let vs = words_in b.inputs in
    let ws = words_in b.outputs in
    texts_append (es ++ fs) (vs ++ ws)
    ∙ ap (λ xs. xs ++ texts (vs ++ ws)) (texts_append es fs)
    ∙ ap (λ xs. (texts es ++ texts fs) ++ xs) (texts_append vs ws)
    ∙ sym (append_assoc (texts es ++ texts fs) (texts vs) (texts ws))
    ∙ ap (λ xs. xs ++ texts fs ++ texts vs ++ texts ws) (map_map (λ w. w.text) (λ e. e.name) b.event_inputs)
    ∙ ap (λ xs. event_texts b.event_inputs ++ xs ++ texts vs ++ texts ws) (map_map (λ w. w.text) (λ e. e.name) b.event_outputs)
    ∙ ap (λ xs. event_texts b.event_inputs ++ event_texts b.event_outputs ++ xs ++ texts ws) (sym (names_declared b.inputs ins i))
    ∙ ap (λ xs. event_texts b.event_inputs ++ event_texts b.event_outputs ++ names_in ins ++ xs) (sym (names_declared b.outputs outs o))

pub no_face_fault : (b : BlockTree) (ins outs : List Declared) (g : book.Face) (f : TypeFault) → IsFace b ins outs g → AreDistinct (face_names b ins outs) → IsFaceFault b f → f ≡ OutOfMemory
no_face_fault b ins outs g f t d (no_memory_for_face e) = e
no_face_fault b ins outs g f t d (excess_event_input h) = no_excess 64 (event_words b.event_inputs) f h (few_events b.event_inputs 64 t.few_event_inputs)
no_face_fault b ins outs g f t d (excess_event_output h) = no_excess 64 (event_words b.event_outputs) f h (few_events b.event_outputs 64 t.few_event_outputs)
no_face_fault b ins outs g f t d (excess_input h) = no_excess 64 (words_in b.inputs) f h (few_words b.inputs ins 64 t.inputs t.few_inputs)
no_face_fault b ins outs g f t d (excess_output h) = no_excess 64 (words_in b.outputs) f h (few_words b.outputs outs 64 t.outputs t.few_outputs)
no_face_fault b ins outs g f t d (repeated_name h) = no_repetition [] (own_words b) f h (subst AreDistinct (sym (own_names_are b ins outs t.inputs t.outputs)) d)
no_face_fault b ins outs g f t d (faulty_input h) = absurd (no_variables_fault b.inputs ins f t.inputs h)
no_face_fault b ins outs g f t d (faulty_output h) = absurd (no_variables_fault b.outputs outs f t.outputs h)
no_face_fault b ins outs g f t d (with_no_input h) = no_event_fault (texts (words_in b.inputs)) b.event_inputs f h (subst (λ ns. AllByRecursion (λ e. AreKnown ns e.carries) b.event_inputs) (names_declared b.inputs ins t.inputs) t.takes)
no_face_fault b ins outs g f t d (with_no_output h) = no_event_fault (texts (words_in b.outputs)) b.event_outputs f h (subst (λ ns. AllByRecursion (λ e. AreKnown ns e.carries) b.event_outputs) (names_declared b.outputs outs t.outputs) t.gives)
