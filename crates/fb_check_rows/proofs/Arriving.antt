-- The places of arrivals, in the book's terms.
use Rattle.std.proofs.Common.{◌≡◌, ◌≤◌, ℕ, true, false, sym, ap, subst, ◌∙◌, List, [], ◌∷◌, string_bytes, refl, arith}
use Rattle.std.specs.Prelude.{◌↔◌}
use Rattle.std.specs.List.{AllByRecursion}
use Rattle.fb_model.specs.Names.{Name, Path, at_place}
use Rattle.fb_model.specs.Spelling.{IsWord}
use Rattle.fb_model.specs.System.{Service, Input, Output, Publish, Subscribe, Delay, Cycle, Restart}
use Rattle.fb_model.specs.Services.{arrivals, begin}
use Rattle.fb_model.specs.Wires as wires
use Rattle.fb_model.specs.Wires.{Kind, Charted, Serviced}
use Rattle.fb_model.specs.Certificates as book
use Rattle.fb_model.specs.Certificates.{kind_arrivals, is_restart}
use Rattle.fb_model.specs.CertificateText.{place_of, names_in}
use Rattle.fb_cert.specs.declared.certificate.Certificate.{Certificate}
use Rattle.fb_cert.specs.Views.{certificate_of}
use Rattle.fb_flat.specs.declared.flat.Leaf.{Leaf}
use Rattle.fb_flat.specs.Sites.{dotted}
use Rattle.fb_flat.specs.Leaves.{kind_of}
use Rattle.fb_flat.specs.Tables.{IsLeaf}
use Rattle.fb_flat.proofs.Dotted.{placed_at}
use Rattle.fb_model_laws.proofs.Following.{word_of}
use Rattle.fb_check_rows.specs.Depths.{places_at, at_arrival, arrival_of, is_begun, Arrives, IsMost, IsBegin}
use Rattle.fb_model.specs.Finding.{begin_of}

-- none, or one whose name is a word
data IsFew : List Name → Type 0 where
  nothing : IsFew []
  single : {e : Name} → IsWord e → IsFew (e ∷ [])

few : (s : Service) → IsFew (arrivals s)
few (Input number types) = single (word_of _ refl)
few (Output number types) = nothing
few (Publish channel types) = nothing
few (Subscribe channel types) = single (word_of _ refl)
few Delay = single (word_of _ refl)
few Cycle = single (word_of _ refl)
few Restart = single (word_of _ refl)

-- the places at a row behind a path
at_row : (cert : book.Certificate) (path e : Name) → IsWord e → places_at cert (dotted path e) ≡ (book.places_of cert).weight (at_place (names_in path) e)
at_row cert path e w = ap (book.amount (λ r. r.places) cert.weights) (placed_at path e w)

most_of : (cert : book.Certificate) (path : Name) (es : List Name) → IsFew es → (most : ℕ) → (at_arrival cert path es ≤ most) ↔ AllByRecursion (λ e. (book.places_of cert).weight (at_place (names_in path) e) ≤ most) es
most_of cert path [] nothing most = (λ h. tt, λ h. omega arith)
most_of cert path (e ∷ (f ∷ es)) h most = elim h [ ]
most_of cert path (e ∷ []) (single w) most = (λ h. (subst (λ n. n ≤ most) (at_row cert path e w) h, tt), λ h. subst (λ n. n ≤ most) (sym (at_row cert path e w)) h.0)

-- a service's arrival takes that many places
pub served : (cert : Certificate) (l : Leaf) (service : Service) (n : ℕ) → kind_of l.body ≡ Serviced service → n ≡ arrival_of (certificate_of cert) (string_bytes l.path) service → IsMost cert l n
served cert l service n e a = λ leaf is most.
    let kind : leaf.kind ≡ Serviced service = sym is.kind ∙ e in
    let both = most_of (certificate_of cert) (string_bytes l.path) (arrivals service) (few service) most in
    let P : Path → Kind → Type 0 = λ p k. AllByRecursion (λ x. (book.places_of (certificate_of cert)).weight (at_place p x) ≤ most) (kind_arrivals k) in (
      λ h. subst (λ k. P leaf.path k) (sym kind) (subst (λ p. P p (Serviced service)) is.path (both.0 (subst (λ m. m ≤ most) a h))),
      λ h. subst (λ m. m ≤ most) (sym a) (both.1 (subst (λ p. P p (Serviced service)) (sym is.path) (subst (λ k. P leaf.path k) kind h))),
    )

-- a chart has no arrival
pub charted : (cert : Certificate) (l : Leaf) (block : _) → kind_of l.body ≡ Charted block → IsMost cert l 0
charted cert l block e = λ leaf is most.
    let kind : leaf.kind ≡ Charted block = sym is.kind ∙ e in
    (λ h. subst (λ k. AllByRecursion (λ x. (book.places_of (certificate_of cert)).weight (at_place leaf.path x) ≤ most) (kind_arrivals k)) (sym kind) tt, λ h. omega arith)

-- ---- BEGIN

begun : (cert : book.Certificate) (path : Name) (service : Service) → is_begun service ≡ true → arrival_of cert path service ≡ (book.places_of cert).weight (at_place (names_in path) begin)
begun cert path (Input number types) e = absurd cc
begun cert path (Output number types) e = absurd cc
begun cert path (Publish channel types) e = absurd cc
begun cert path (Subscribe channel types) e = absurd cc
begun cert path Delay e = absurd cc
begun cert path Cycle e = absurd cc
begun cert path Restart e = at_row cert path begin (word_of _ refl)

-- the BEGIN of a service that has one
pub begins : (cert : Certificate) (l : Leaf) (service : Service) (n : ℕ) → kind_of l.body ≡ Serviced service → is_begun service ≡ true → n ≡ arrival_of (certificate_of cert) (string_bytes l.path) service → IsBegin cert l n
begins cert l service n e b a = λ leaf is.
    let kind : leaf.kind ≡ Serviced service = sym is.kind ∙ e in
    let is_one : is_restart leaf.kind ≡ true = ap is_restart kind ∙ b in
    rw is_one (sym (a ∙ begun (certificate_of cert) (string_bytes l.path) service b ∙ ap (λ p. (book.places_of (certificate_of cert)).weight (at_place p begin)) is.path))

-- and of one that has none, or of a chart
pub begins_not : (cert : Certificate) (l : Leaf) (k : Kind) → kind_of l.body ≡ k → is_restart k ≡ false → IsBegin cert l 0
begins_not cert l k e b = λ leaf is.
    let none : is_restart leaf.kind ≡ false = ap is_restart (sym is.kind ∙ e) ∙ b in
    rw none refl
