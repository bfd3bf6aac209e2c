-- A service is declared in one way, and what is one has no fault that a refusal could name.
use Rattle.std.proofs.Common.{◌≡◌, ℕ, ◌≤◌, ◌<◌, Bool, true, false, cond, List, [], ◌∷◌, length, Option, Some, None, Result, Ok, Err, pos, refl, sym, ap, subst, ◌∙◌, arith, codes, IfOk, IfErr, IfSome, IfNone}
use Rattle.std.specs.Str.{bytes_eq}
use Rattle.std.specs.List.{AllByRecursion}
use Rattle.std.proofs.lemmas.Slice.Eq.{bytes_eq-Decides}
use Rattle.fb_words.specs.declared.elem_type.ElemType.{ElemType}
use Rattle.fb_words.specs.declared.format.Format.{Format}
use Rattle.fb_words.specs.declared.format.Format.TheVariants.{First, Second}
use Rattle.fb_model.specs.Names.{Name, is_in}
use Rattle.fb_model.specs.Trees.{ParameterTree}
use Rattle.fb_model.specs.Declarations.{InstanceTree}
use Rattle.fb_model.specs.System.{Channel, Service, Input, Output, Publish, Subscribe, Delay, Cycle, Restart}
use Rattle.fb_model.specs.Typing.{IsWhole, IsId, an_id, service_names}
use Rattle.fb_model.specs.NetworkTyping.{format_number, IsFormat, unsaid, said, IsService, an_input, an_output, a_publisher, a_subscriber, a_delay, a_cycle, a_restart, having, id, format, value_types, most_types}
use Rattle.fb_faults.specs.declared.typing.TypeFault.{TypeFault}
use Rattle.fb_faults.specs.declared.typing.TypeFault.TheVariants as faults
use Rattle.fb_model.specs.ServiceFaults.{no_memory_for_types, excess_types, IsNumberedFault, wrong_number, wrong_types, wrong_format, wrong_channel, IsServiceFault, faulty_number, faulty_channel, with_brackets, has_number, has_channel, has_values, is_timer}
use Rattle.fb_types_services.specs.declared.service.Service.{Service as Made}
use Rattle.fb_types_services.specs.Answers.{FindsService, IsNumbered, IsChannelled}
use Rattle.fb_types_services.specs.Views.{service_of}
use Rattle.fb_types_services.proofs.Numbers.{one_number}

-- ---- ID and FORMAT

-- what one parameter ID says
abbrev Says : List ParameterTree → ℕ → Type 0
Says [] n = ⊥
Says (p ∷ []) n = (p.name.text ≡ codes "ID") × IsWhole p.value.value (pos n) × (n ≤ 65535)
Says (p ∷ q ∷ ps) n = ⊥

says : (ps : List ParameterTree) (n : ℕ) → IsId ps n → Says ps n
says ps n (an_id named is few) = (named, is, few)

one_id : (ps : List ParameterTree) (n m : ℕ) → IsId ps n → IsId ps m → n ≡ m
one_id ps n m a b = by ps (says ps n a) (says ps m b) where
  by : (ps : List ParameterTree) → Says ps n → Says ps m → n ≡ m
  by [] s r = absurd s
  by (p ∷ []) s r = one_number p.value.value n m s.1 r.1
  by (p ∷ q ∷ ps) s r = absurd s

-- a parameter of a name has it
all_named : (x : Name) (ps : List ParameterTree) → AllByRecursion (λ q. bytes_eq q.name.text x ≡ true) (having x ps)
all_named x [] = tt
all_named x (p ∷ ps) = by (bytes_eq p.name.text x) refl (all_named x ps) where
  by : (b : Bool) → bytes_eq p.name.text x ≡ b → AllByRecursion (λ q. bytes_eq q.name.text x ≡ true) (having x ps) → AllByRecursion (λ q. bytes_eq q.name.text x ≡ true) (cond b (p ∷ having x ps) (having x ps))
  by true e h = (e, h)
  by false e h = h

pub has_name : (x : Name) (ps : List ParameterTree) (p : ParameterTree) → having x ps ≡ p ∷ [] → p.name.text ≡ x
has_name x ps p e =
    let all = subst (λ l. AllByRecursion (λ q. bytes_eq q.name.text x ≡ true) l) e (all_named x ps) in
    (bytes_eq-Decides p.name.text x).0 all.0

-- a parameter whose number is too large is no ID
pub too_large : (p : ParameterTree) (n : ℕ) → IsWhole p.value.value (pos n) → 65535 < n → (m : ℕ) → IsId (p ∷ []) m → ⊥
too_large p n is more m h = let s = says (p ∷ []) m h in let e : n ≡ m = one_number p.value.value n m is s.1 in let few : m ≤ 65535 = s.2 in omega (arith, e, more, few)

pub no_whole : (p : ParameterTree) → ((n : ℕ) → IsWhole p.value.value (pos n) → ⊥) → (m : ℕ) → IsId (p ∷ []) m → ⊥
no_whole p none m h = none m (says (p ∷ []) m h).1

-- what the parameters FORMAT say
abbrev Formats : List ParameterTree → Format → Type 0
Formats [] f = f ≡ First
Formats (p ∷ []) f = IsWhole p.value.value (pos (format_number f))
Formats (p ∷ q ∷ ps) f = ⊥

formats : (ps : List ParameterTree) (f : Format) → IsFormat ps f → Formats ps f
formats ps f unsaid = refl
formats ps f (said is) = is

pub no_format : (p : ParameterTree) → ((f : Format) → IsWhole p.value.value (pos (format_number f)) → ⊥) → (f : Format) → IsFormat (p ∷ []) f → ⊥
no_format p none f h = none f (formats (p ∷ []) f h)

pub many_formats : (ps : List ParameterTree) → 1 < length ps → (f : Format) → IsFormat ps f → ⊥
many_formats [] l f h = omega (arith, l)
many_formats (p ∷ []) l f h = omega (arith, l)
many_formats (p ∷ q ∷ ps) l f h = formats (p ∷ q ∷ ps) f h

same_format : (f g : Format) → format_number f ≡ format_number g → f ≡ g
same_format First First e = refl
same_format First Second e = absurd (omega (arith, e))
same_format Second First e = absurd (omega (arith, e))
same_format Second Second e = refl

one_format : (ps : List ParameterTree) (f g : Format) → IsFormat ps f → IsFormat ps g → f ≡ g
one_format ps f g a b = by ps (formats ps f a) (formats ps g b) where
  by : (ps : List ParameterTree) → Formats ps f → Formats ps g → f ≡ g
  by [] s r = s ∙ sym r
  by (p ∷ []) s r = same_format f g (one_number p.value.value (format_number f) (format_number g) s r)
  by (p ∷ q ∷ ps) s r = absurd s

-- a number of no format
pub another_number : (value : _) (n : ℕ) → IsWhole value (pos n) → ((f : Format) → format_number f ≡ n → ⊥) → (f : Format) → IsWhole value (pos (format_number f)) → ⊥
another_number value n is other f h = other f (one_number value (format_number f) n h is)

-- ---- what a service says of its declaration

module _ (i : InstanceTree) where
  -- of a service with a number or channel, these hold
  pub numbers : (s : Service) → IsService i s → has_values i.type.text ≡ true → ((n : ℕ) × IsId (having id i.parameters) n) × (length (value_types i.types) ≤ most_types)
  numbers s (an_input {n = n} e few h) v = ((n, h), few)
  numbers s (an_output {n = n} e few h) v = ((n, h), few)
  numbers s (a_publisher {c = c} e few h f) v = ((c.number, h), few)
  numbers s (a_subscriber {c = c} e few h f) v = ((c.number, h), few)
  numbers s (a_delay e b) v = let k : false ≡ true = subst (λ x. has_values x ≡ true) e v in absurd cc
  numbers s (a_cycle e b) v = let k : false ≡ true = subst (λ x. has_values x ≡ true) e v in absurd cc
  numbers s (a_restart e b) v = let k : false ≡ true = subst (λ x. has_values x ≡ true) e v in absurd cc

  pub formatted : (s : Service) → IsService i s → has_channel i.type.text ≡ true → (f : Format) × IsFormat (having format i.parameters) f
  formatted s (an_input e few h) v = let k : false ≡ true = subst (λ x. has_channel x ≡ true) e v in absurd cc
  formatted s (an_output e few h) v = let k : false ≡ true = subst (λ x. has_channel x ≡ true) e v in absurd cc
  formatted s (a_publisher {c = c} e few h f) v = (c.format, f)
  formatted s (a_subscriber {c = c} e few h f) v = (c.format, f)
  formatted s (a_delay e b) v = let k : false ≡ true = subst (λ x. has_channel x ≡ true) e v in absurd cc
  formatted s (a_cycle e b) v = let k : false ≡ true = subst (λ x. has_channel x ≡ true) e v in absurd cc
  formatted s (a_restart e b) v = let k : false ≡ true = subst (λ x. has_channel x ≡ true) e v in absurd cc

  pub bare : (s : Service) → IsService i s → is_timer i.type.text ≡ true → i.types ≡ None
  bare s (an_input e few h) v = let k : false ≡ true = subst (λ x. is_timer x ≡ true) e v in absurd cc
  bare s (an_output e few h) v = let k : false ≡ true = subst (λ x. is_timer x ≡ true) e v in absurd cc
  bare s (a_publisher e few h f) v = let k : false ≡ true = subst (λ x. is_timer x ≡ true) e v in absurd cc
  bare s (a_subscriber e few h f) v = let k : false ≡ true = subst (λ x. is_timer x ≡ true) e v in absurd cc
  bare s (a_delay e b) v = b
  bare s (a_cycle e b) v = b
  bare s (a_restart e b) v = b

  -- its type's name is a service's
  pub known : (s : Service) → IsService i s → is_in i.type.text service_names ≡ true
  known s (an_input e few h) = subst (λ x. is_in x service_names ≡ true) (sym e) refl
  known s (an_output e few h) = subst (λ x. is_in x service_names ≡ true) (sym e) refl
  known s (a_publisher e few h f) = subst (λ x. is_in x service_names ≡ true) (sym e) refl
  known s (a_subscriber e few h f) = subst (λ x. is_in x service_names ≡ true) (sym e) refl
  known s (a_delay e b) = subst (λ x. is_in x service_names ≡ true) (sym e) refl
  known s (a_cycle e b) = subst (λ x. is_in x service_names ≡ true) (sym e) refl
  known s (a_restart e b) = subst (λ x. is_in x service_names ≡ true) (sym e) refl

  -- ---- one service

  -- the number and the format of a service, or 0 and the first
  abbrev channel_in : Service → Channel
  channel_in (Input n types) = record { number = n; format = First }
  channel_in (Output n types) = record { number = n; format = First }
  channel_in (Publish c types) = c
  channel_in (Subscribe c types) = c
  channel_in Delay = record { number = 0; format = First }
  channel_in Cycle = record { number = 0; format = First }
  channel_in Restart = record { number = 0; format = First }

  abbrev by_name : Name → Channel → Service
  by_name x c =
      cond (bytes_eq x (codes "INPUT")) (Input c.number (value_types i.types))
      (cond (bytes_eq x (codes "OUTPUT")) (Output c.number (value_types i.types))
      (cond (bytes_eq x (codes "PUBLISH")) (Publish c (value_types i.types))
      (cond (bytes_eq x (codes "SUBSCRIBE")) (Subscribe c (value_types i.types))
      (cond (bytes_eq x (codes "E_DELAY")) Delay
      (cond (bytes_eq x (codes "E_CYCLE")) Cycle Restart)))))

  is_by_name : (s : Service) → IsService i s → s ≡ by_name i.type.text (channel_in s)
  is_by_name s (an_input e few h) = subst (λ x. s ≡ by_name x (channel_in s)) (sym e) refl
  is_by_name s (an_output e few h) = subst (λ x. s ≡ by_name x (channel_in s)) (sym e) refl
  is_by_name s (a_publisher e few h f) = subst (λ x. s ≡ by_name x (channel_in s)) (sym e) refl
  is_by_name s (a_subscriber e few h f) = subst (λ x. s ≡ by_name x (channel_in s)) (sym e) refl
  is_by_name s (a_delay e b) = subst (λ x. s ≡ by_name x (channel_in s)) (sym e) refl
  is_by_name s (a_cycle e b) = subst (λ x. s ≡ by_name x (channel_in s)) (sym e) refl
  is_by_name s (a_restart e b) = subst (λ x. s ≡ by_name x (channel_in s)) (sym e) refl

  -- the number, or 0 where there is none
  abbrev Numbered : Bool → ℕ → Type 0
  Numbered true n = IsId (having id i.parameters) n
  Numbered false n = n ≡ 0

  numbered : (s : Service) → IsService i s → Numbered (has_values i.type.text) (channel_in s).number
  numbered s (an_input {n = n} e few h) = subst (λ x. Numbered (has_values x) n) (sym e) h
  numbered s (an_output {n = n} e few h) = subst (λ x. Numbered (has_values x) n) (sym e) h
  numbered s (a_publisher {c = c} e few h f) = subst (λ x. Numbered (has_values x) c.number) (sym e) h
  numbered s (a_subscriber {c = c} e few h f) = subst (λ x. Numbered (has_values x) c.number) (sym e) h
  numbered s (a_delay e b) = subst (λ x. Numbered (has_values x) 0) (sym e) refl
  numbered s (a_cycle e b) = subst (λ x. Numbered (has_values x) 0) (sym e) refl
  numbered s (a_restart e b) = subst (λ x. Numbered (has_values x) 0) (sym e) refl

  same_number : (b : Bool) (n m : ℕ) → Numbered b n → Numbered b m → n ≡ m
  same_number true n m a c = one_id (having id i.parameters) n m a c
  same_number false n m a c = a ∙ sym c

  -- the format, or the first where there is none
  abbrev Formatted : Bool → Format → Type 0
  Formatted true f = IsFormat (having format i.parameters) f
  Formatted false f = f ≡ First

  in_format : (s : Service) → IsService i s → Formatted (has_channel i.type.text) (channel_in s).format
  in_format s (an_input e few h) = subst (λ x. Formatted (has_channel x) First) (sym e) refl
  in_format s (an_output e few h) = subst (λ x. Formatted (has_channel x) First) (sym e) refl
  in_format s (a_publisher {c = c} e few h f) = subst (λ x. Formatted (has_channel x) c.format) (sym e) f
  in_format s (a_subscriber {c = c} e few h f) = subst (λ x. Formatted (has_channel x) c.format) (sym e) f
  in_format s (a_delay e b) = subst (λ x. Formatted (has_channel x) First) (sym e) refl
  in_format s (a_cycle e b) = subst (λ x. Formatted (has_channel x) First) (sym e) refl
  in_format s (a_restart e b) = subst (λ x. Formatted (has_channel x) First) (sym e) refl

  same_formatted : (b : Bool) (f g : Format) → Formatted b f → Formatted b g → f ≡ g
  same_formatted true f g a c = one_format (having format i.parameters) f g a c
  same_formatted false f g a c = a ∙ sym c

  same_channel : (c d : Channel) → c.number ≡ d.number → c.format ≡ d.format → c ≡ d
  same_channel c d e f = ap (λ n. record { number = n; format = c.format }) e ∙ ap (λ g. record { number = d.number; format = g }) f

  pub once : (s k : Service) → IsService i s → IsService i k → s ≡ k
  once s k a b =
      is_by_name s a
      ∙ ap (by_name i.type.text)
      (same_channel (channel_in s) (channel_in k) (same_number (has_values i.type.text) (channel_in s).number (channel_in k).number (numbered s a) (numbered k b))
      (same_formatted (has_channel i.type.text) (channel_in s).format (channel_in k).format (in_format s a) (in_format k b)))
      ∙ sym (is_by_name k b)

  -- ---- no fault

  left : (a b : Bool) → a ≡ true → (Rattle.std.specs.Prelude.◌||◌ a b) ≡ true
  left true b e = refl
  left false b e = absurd cc

  right : (a b : Bool) → b ≡ true → (Rattle.std.specs.Prelude.◌||◌ a b) ≡ true
  right true b e = refl
  right false b e = e

  numbers_true : (s : Service) (f : TypeFault) → IsService i s → has_values i.type.text ≡ true → IsNumberedFault i f → f ≡ faults.OutOfMemory
  numbers_true s f h v (wrong_number w) = let k = (numbers s h v).0 in absurd (w.1 k.0 k.1)
  numbers_true s f h v (wrong_types (no_memory_for_types e)) = e
  numbers_true s f h v (wrong_types (excess_types e more)) = let few = (numbers s h v).1 in absurd (omega (arith, few, more))

  -- a fault of a service is want of memory
  pub faultless : (s : Service) (f : TypeFault) → IsService i s → IsServiceFault i f → f ≡ faults.OutOfMemory
  faultless s f h (faulty_number v w) = numbers_true s f h (left (has_number i.type.text) (has_channel i.type.text) v) w
  faultless s f h (faulty_channel v (wrong_format w)) = let k = formatted s h v in absurd (w.1 k.0 k.1)
  faultless s f h (faulty_channel v (wrong_channel w)) = numbers_true s f h (right (has_number i.type.text) (has_channel i.type.text) v) w
  faultless s f h (with_brackets v w) = let k : None ≡ Some w.1 = sym (bare s h v) ∙ w.2 in absurd cc

  -- what is a service is found
  pub finds : (r : Result (Option Made) TypeFault)
      → IfOk r (λ o. IfSome o (λ s. IsService i (service_of s))) → IfOk r (λ o. IfNone o (is_in i.type.text service_names ≡ false)) → IfErr r (IsServiceFault i)
      → (s : Service) → IsService i s → FindsService r s
  finds (Ok (Some k)) is none refused s h = once (service_of k) s is h
  finds (Ok None) is none refused s h = let k : true ≡ false = sym (known s h) ∙ none in absurd cc
  finds (Err f) is none refused s h = subst (λ g. FindsService (Err g) s) (sym (faultless s f h refused)) tt

-- ---- what is read is a service

pub is_input : (i : InstanceTree) → i.type.text ≡ codes "INPUT" → {n : ℕ} {types : List ElemType} → IsNumbered i n types → IsService i (Input n types)
is_input i e {n = n} h = subst (λ ts. IsService i (Input n ts)) (sym h.1) (an_input e (subst (λ ts. length ts ≤ most_types) h.1 h.2) h.0)

pub is_output : (i : InstanceTree) → i.type.text ≡ codes "OUTPUT" → {n : ℕ} {types : List ElemType} → IsNumbered i n types → IsService i (Output n types)
is_output i e {n = n} h = subst (λ ts. IsService i (Output n ts)) (sym h.1) (an_output e (subst (λ ts. length ts ≤ most_types) h.1 h.2) h.0)

pub is_publisher : (i : InstanceTree) → i.type.text ≡ codes "PUBLISH" → {c : Channel} {types : List ElemType} → IsChannelled i c types → IsService i (Publish c types)
is_publisher i e {c = c} h = subst (λ ts. IsService i (Publish c ts)) (sym h.1.1) (a_publisher e (subst (λ ts. length ts ≤ most_types) h.1.1 h.1.2) h.1.0 h.0)

pub is_subscriber : (i : InstanceTree) → i.type.text ≡ codes "SUBSCRIBE" → {c : Channel} {types : List ElemType} → IsChannelled i c types → IsService i (Subscribe c types)
is_subscriber i e {c = c} h = subst (λ ts. IsService i (Subscribe c ts)) (sym h.1.1) (a_subscriber e (subst (λ ts. length ts ≤ most_types) h.1.1 h.1.2) h.1.0 h.0)

-- a text that equals another
pub named : {xs ys : List ℕ} {b : Bool} → b ≡ bytes_eq xs ys → b ≡ true → xs ≡ ys
named {xs = xs} {ys = ys} e h = (bytes_eq-Decides xs ys).0 (sym e ∙ h)
