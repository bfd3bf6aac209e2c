-- What services emit, and what their events have to pay.
use Rattle.std.proofs.Common.{◌≡◌, ◌+◌, ℕ, Bool, true, false, cond, List, [], ◌∷◌, refl, sym, ap, ◌∙◌}
use Rattle.std.specs.List.{sum_by, AllByRecursion}
use Rattle.std.specs.Str.{bytes_eq}
use Rattle.std.proofs.lemmas.List.Sums.{sum_by-cons, sum_by-append}
use Rattle.fb_model.specs.Names.{Name, Place, is_in}
use Rattle.fb_model.specs.Spelling.{IsWord, word, part, no_part}
use Rattle.fb_model.specs.System as book
use Rattle.fb_model.specs.System.{Service}
use Rattle.fb_model.specs.Services.{init, rsp, arrive, start, stop, expire, service_events, service_event_outputs, can_emit}
use Rattle.fb_model.specs.Certificates.{reached}

-- ---- events

-- their names are words
init_word : IsWord init
init_word = word refl (part refl (part refl (part refl no_part)))

pub arrive_word : IsWord arrive
arrive_word = word refl (part refl (part refl (part refl (part refl (part refl no_part)))))

start_word : IsWord start
start_word = word refl (part refl (part refl (part refl (part refl no_part))))

stop_word : IsWord stop
stop_word = word refl (part refl (part refl (part refl no_part)))

expire_word : IsWord expire
expire_word = word refl (part refl (part refl (part refl (part refl (part refl no_part)))))

pub events_words : (s : Service) → AllByRecursion IsWord (service_events s)
events_words (book.Input n types) = (arrive_word, tt)
events_words (book.Output n types) = (word refl (part refl (part refl no_part)), tt)
events_words (book.Publish channel types) = (init_word, (word refl (part refl (part refl no_part)), tt))
events_words (book.Subscribe channel types) = (init_word, (word refl (part refl (part refl no_part)), (arrive_word, tt)))
events_words book.Delay = (start_word, (stop_word, (expire_word, tt)))
events_words book.Cycle = (start_word, (stop_word, (expire_word, tt)))
events_words book.Restart = (word refl (part refl (part refl (part refl (part refl no_part)))), tt)

-- ---- what is emitted

-- these are all outputs of the service
abbrev AreOutputs : Service → List Name → Type 0
AreOutputs s os = AllByRecursion (λ (o : Name). is_in o (service_event_outputs s) ≡ true) os

one_of : (P : List Name → Type 0) (b : Bool) (xs ys : List Name) → P xs → P ys → P (cond b xs ys)
one_of P true xs ys p q = p
one_of P false xs ys p q = q

pub emits_outputs : (s : Service) (e : Name) → AreOutputs s (can_emit s e)
emits_outputs (book.Input n types) e = (refl, tt)
emits_outputs (book.Output n types) e = tt
emits_outputs (book.Publish channel types) e = one_of (AreOutputs (book.Publish channel types)) (bytes_eq e init) _ _ (refl, tt) (refl, tt)
emits_outputs (book.Subscribe channel types) e = one_of (AreOutputs (book.Subscribe channel types)) (bytes_eq e init) _ _ (refl, tt) (one_of (AreOutputs (book.Subscribe channel types)) (bytes_eq e rsp) _ _ tt (refl, tt))
emits_outputs book.Delay e = one_of (AreOutputs book.Delay) (bytes_eq e expire) _ _ (refl, tt) tt
emits_outputs book.Cycle e = one_of (AreOutputs book.Cycle) (bytes_eq e expire) _ _ (refl, tt) tt
emits_outputs book.Restart e = (refl, tt)

-- the loads of outputs are the weights of all that they reach
pub loads_reached : (load : Name → ℕ) (weight : Place → ℕ) (targets : Name → List Place) (outputs os : List Name) → ((o : Name) → is_in o outputs ≡ true → load o ≡ sum_by weight (targets o))
    → AllByRecursion (λ (o : Name). is_in o outputs ≡ true) os → sum_by load os ≡ sum_by weight (reached targets os)
loads_reached load weight targets outputs [] same h = refl
loads_reached load weight targets outputs (o ∷ os) same h =
    sum_by-cons load o os ∙ ap (λ n. n + sum_by load os) (same o h.0) ∙ ap (λ n. sum_by weight (targets o) + n) (loads_reached load weight targets outputs os same h.1)
    ∙ sym (sum_by-append weight (targets o) (reached targets os))
