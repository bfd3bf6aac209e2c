use Rattle.std.proofs.Common.{◌≡◌, ◌∷◌, ◌++◌, [], sym, ap, subst, ◌∙◌}
use Rattle.std.proofs.lemmas.List.{map-append}
use Rattle.fb_model.specs.Services.{service_event_inputs, service_events, arrivals}
use Rattle.fb_types_blocks.specs.Views.{names_of}
use Rattle.fb_types_blocks.proofs.Lists.{on_ok}
use Rattle.fb_types_services.specs.Views.{service_of, listed}
use Rattle.fb_flat.specs.Sites.{dotted}
use Rattle.fb_check_rows.specs.Members.{gathered}
use Rattle.fb_check_rows.specs.Texts.{texts_in}
use Rattle.fb_check_rows.proofs.Members.{gathered_one}
use Rattle.fb_check_rows.proofs.Tables.{events_are}
use Rattle.fb_check_rows.proofs.requirement.require_events.Goals as goal

pub returns-in-Some-clause-rows : goal.returns-in-Some-clause-rows
returns-in-Some-clause-rows c =
    let p = c.args.path.now in
    let s = service_of c.args.service.now in
    let one : c.in-Some.event.now ∷ [] ≡ arrivals s = ap listed (sym c.in-Some.is) ∙ c.arrival.ensures in
    let all : texts_in p (service_event_inputs s) ++ dotted p c.in-Some.event.now ∷ [] ≡ texts_in p (service_events s) =
    sym (map-append (λ n. dotted p n) (service_event_inputs s) (c.in-Some.event.now ∷ [])) ∙ ap (λ es. texts_in p (service_event_inputs s ++ es)) one ∙ ap (texts_in p) (sym (events_are s)) in
    on_ok
    (λ h. subst (λ ts. names_of c.require_name.new.rows ≡ gathered (names_of c.args.rows.now) ts) all
    (gathered_one (names_of c.args.rows.now) (names_of c.require_names.new.rows) (names_of c.require_name.new.rows) (texts_in p (service_event_inputs s)) (dotted p c.in-Some.event.now)
    (subst (λ ns. names_of c.require_names.new.rows ≡ gathered (names_of c.args.rows.now) (texts_in p ns)) c.event_inputs.ensures c.in_ok-require_names.ensures.rows) h))
    c.require_name.result c.require_name.ensures.rows
