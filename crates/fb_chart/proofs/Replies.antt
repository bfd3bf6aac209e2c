-- What services reply, by slots and numbers.
use Rattle.std.proofs.Common.{◌≡◌, ℕ, zero, suc, ◌+◌, ◌≤◌, ℤ, Bool, true, false, List, [], ◌∷◌, map, length, Option, Some, None, refl, sym, ap, ◌∙◌, arith}
use Rattle.std.specs.Prelude.{◌&&◌, ◌≢◌, if◌then◌else◌}
use Rattle.std.specs.Str.{bytes_eq}
use Rattle.std.proofs.Math.Path.{fun_ext}
use Rattle.fb_words.specs.declared.elem_type.ElemType.{ElemType}
use Rattle.fb_model.specs.Names.{Name}
use Rattle.fb_model.specs.Values.{Value, One, Values, number_of}
use Rattle.fb_model.specs.Language.{setting}
use Rattle.fb_model.specs.System.{Service, Channel, Publish, Subscribe}
use Rattle.fb_model.specs.Services.{init, inito, req, rsp, cnf, ind, qi, qo, arrive, received, sent, numbered}
use Rattle.fb_model.specs.Store.{Stamps, Condition, Ready, Closed}
use Rattle.fb_model.specs.Messages.{Message, To_channel}
use Rattle.fb_model.specs.Serving.{Effect, Send, Reply, bit, is_true, is_ready, stamps_of, stamped, after_send, can_send, set_value, receive, typed_values, emits, opened, published, subscribed}
use Rattle.fb_model.proofs.Names.{eq_turned}
use Rattle.fb_chart.specs.Views.{named}
use Rattle.fb_chart.specs.Ports.{received_in, numbers_at}
use Rattle.fb_chart.specs.Responses.{condition_of, effect_of, outs_at, leaf_of, responded}
use Rattle.fb_chart.specs.declared.standing.Standing.{Standing}
use Rattle.fb_chart.specs.declared.standing.Response.{Response}

pub setting_is : (values : Values) (x : Name) (v : Value) → setting values x v ≡ set_value x v values
setting_is values x v = fun_ext (λ y. ap (λ e. if e then v else values y) (eq_turned x y))

pub numbered_length : (f : ℕ → Name) (n : ℕ) (types : List ElemType) → length (numbered f n types) ≡ length types
numbered_length f n [] = refl
numbered_length f n (t ∷ types) = ap suc (numbered_length f (n + 1) types)

pub receive_is : (n : ℕ) (types : List ElemType) (vs : List ℤ) (values : Values) → length vs ≤ length types → received_in (numbered received n types) vs values ≡ receive n vs values
receive_is n [] [] values h = refl
receive_is n [] (v ∷ vs) values h = absurd (omega (arith, h))
receive_is n (t ∷ types) [] values h = refl
receive_is n (t ∷ types) (v ∷ vs) values h =
    receive_is (n + 1) types vs (setting values (received n) (One v)) (omega (arith, h)) ∙ ap (receive (n + 1) vs) (setting_is values (received n) (One v))

pub typed_numbers : (n : ℕ) (types : List ElemType) (own : Values) → numbers_at (numbered sent n types) own ≡ map (λ v. v.value) (typed_values n types own)
typed_numbers n [] own = refl
typed_numbers n (t ∷ types) own = ap (λ vs. number_of (own (sent n)) ∷ vs) (typed_numbers (n + 1) types own)

-- ---- PUBLISH and SUBSCRIBE

-- a reply, by its parts
abbrev replied : Service → List Name → Option Effect → Values → Values → Condition → Reply
replied service outs effect own issued condition = emits service outs effect (record { cells = record { own = own; issued = issued }; condition = condition })

pub opened_is : (service : Service) (t : Response) (own own' issued : Values) (standing : Standing) → outs_at service (Some 0) ≡ inito ∷ []
    → condition_of t.standing ≡ (if is_true (own qi) then Ready (stamps_of (condition_of standing)) else Closed (stamps_of (condition_of standing))) → t.output ≡ Some 0 → t.effect ≡ None
    → own' ≡ setting own qo (bit (is_true (own qi))) → opened service (leaf_of own issued standing) ≡ responded service t own' issued
opened_is service t own own' issued standing outs h o f e =
    ap (λ v. replied service (inito ∷ []) None v issued (if q then Ready kept else Closed kept)) (sym (e ∙ setting_is own qo (bit q)))
    ∙ ap (λ c. replied service (inito ∷ []) None own' issued c) (sym h)
    ∙ ap (λ os. replied service os None own' issued (condition_of t.standing)) (sym outs ∙ ap (outs_at service) (sym o))
    ∙ ap (λ x. replied service (outs_at service t.output) (effect_of x) own' issued (condition_of t.standing)) (sym f)
  where
    q : Bool
    q = is_true (own qi)

    kept : Stamps
    kept = stamps_of (condition_of standing)

-- the message that a PUBLISH of these values sends
abbrev pub message_of : Channel → List ElemType → Values → Stamps → Message
message_of channel types own stamps = record { purpose = To_channel; number = channel.number; stamp = stamped stamps; values = typed_values 1 types own }

pub published_is : (channel : Channel) (types : List ElemType) (t : Response) (own own' issued : Values) (standing : Standing)
    → condition_of t.standing ≡ (if can_send (condition_of standing) && is_true (own qi) then Ready (after_send (stamps_of (condition_of standing))) else condition_of standing) → t.output ≡ Some 1
    → effect_of t.effect ≡ (if can_send (condition_of standing) && is_true (own qi) then Some (Send (message_of channel types own (stamps_of (condition_of standing)))) else None)
    → own' ≡ setting own qo (bit (can_send (condition_of standing) && is_true (own qi))) → published channel types (leaf_of own issued standing) ≡ responded (Publish channel types) t own' issued
published_is channel types t own own' issued standing h o f e =
    ap (λ v. replied service (cnf ∷ []) (if q then Some (Send (message_of channel types own kept)) else None) v issued (if q then Ready (after_send kept) else condition_of standing)) (sym (e ∙ setting_is own qo (bit q)))
    ∙ ap (λ c. replied service (cnf ∷ []) (if q then Some (Send (message_of channel types own kept)) else None) own' issued c) (sym h)
    ∙ ap (λ x. replied service (cnf ∷ []) x own' issued (condition_of t.standing)) (sym f)
    ∙ ap (λ k. replied service (outs_at service k) (effect_of t.effect) own' issued (condition_of t.standing)) (sym o)
  where
    service : Service
    service = Publish channel types

    q : Bool
    q = can_send (condition_of standing) && is_true (own qi)

    kept : Stamps
    kept = stamps_of (condition_of standing)

pub subscribed_is : (channel : Channel) (types : List ElemType) (t : Response) (values : List ℤ) (own own' issued : Values) (standing : Standing) → length values ≤ length types
    → t ≡ record { standing = standing; output = (if is_ready (condition_of standing) then Some 1 else None); effect = None }
    → own' ≡ (if is_ready (condition_of standing) then received_in (numbered received 1 types) values (setting own qo (bit true)) else own)
    → subscribed channel types values (leaf_of own issued standing) ≡ responded (Subscribe channel types) t own' issued
subscribed_is channel types t values own own' issued standing few h e =
    by (is_ready (condition_of standing)) ∙ ap (λ v. responded service (record { standing = standing; output = (if is_ready (condition_of standing) then Some 1 else None); effect = None }) v issued) (sym e) ∙ ap (λ t. responded service t own' issued) (sym h)
  where
    service : Service
    service = Subscribe channel types

    by : (r : Bool) → (if r then replied service (ind ∷ []) None (receive 1 values (set_value qo (bit true) own)) issued (condition_of standing) else replied service [] None own issued (condition_of standing))
        ≡ responded service (record { standing = standing; output = (if r then Some 1 else None); effect = None }) (if r then received_in (numbered received 1 types) values (setting own qo (bit true)) else own) issued
    by true = ap (λ v. replied service (ind ∷ []) None v issued (condition_of standing)) (ap (receive 1 values) (sym (setting_is own qo (bit true))) ∙ sym (receive_is 1 types values (setting own qo (bit true)) few))
    by false = refl

-- ---- events by their numbers

pub not_init : (n : ℕ) → n ≢ 0 → bytes_eq (named (init ∷ req ∷ []) n) init ≡ false
not_init zero h = absurd (h refl)
not_init (suc zero) h = refl
not_init (suc (suc n)) h = refl

pub arrives : (n : ℕ) → n ≢ 0 → n ≢ 1 → (bytes_eq (named (init ∷ rsp ∷ arrive ∷ []) n) init ≡ false) × (bytes_eq (named (init ∷ rsp ∷ arrive ∷ []) n) rsp ≡ false)
arrives zero h k = absurd (h refl)
arrives (suc zero) h k = absurd (k refl)
arrives (suc (suc zero)) h k = (refl, refl)
arrives (suc (suc (suc n))) h k = (refl, refl)
