use Rattle.std.proofs.Common.{◌≡◌, ℕ, ◌++◌, map, replicate, sym, ap, ap₂, ◌∙◌, OnOk, subst, string_bytes}
use Rattle.std.proofs.lemmas.List.{append-nil}
use Rattle.fb_model.specs.Names.{at_place}
use Rattle.fb_model.specs.CertificateText.{names_in}
use Rattle.fb_model.specs.Services.{arrive}
use Rattle.fb_model.specs.Demands.{event}
use Rattle.fb_find_demands.specs.Rights.{numbers_of}
use Rattle.fb_find_demands.proofs.Ranks.{mapped}
use Rattle.fb_find_demands.proofs.channel.add_heard.Goals as goal

pub returns-then-count-eq0 : goal.returns-then-count-eq0
returns-then-count-eq0 c =
    let x = event (at_place (names_in (string_bytes c.args.leaf.now.path)) arrive) in
    sym (append-nil c.args.terms.now.items) ∙ ap (λ (k : ℕ). c.args.terms.now.items ++ map (numbers_of c.args.numbering.now) (replicate k x)) (sym c.if-count-eq0.true ∙ c.admissions-count.ensures)

pub returns : goal.returns
returns c =
    let f = numbers_of c.args.numbering.now in
    let x = event (at_place (names_in (string_bytes c.args.leaf.now.path)) arrive) in
    let number : c.in_ok-arrival.arrival ≡ f x = rw c.as_str.ensures.value at c.in_ok-arrival.ensures in
    subst (λ ns. OnOk c.add_times.result (c.add_times.new.terms.items ≡ c.args.terms.now.items ++ ns)) (ap₂ replicate c.admissions-count.ensures number ∙ sym (mapped f _ x)) c.add_times.ensures
