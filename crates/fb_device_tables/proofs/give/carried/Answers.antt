use Rattle.std.proofs.Common.{◌≡◌, IfOk, ◌∙◌, sym, ap, subst, map, string_bytes}
use Rattle.fb_device_tables.proofs.Carried.{carried_at, carried_found}
use Rattle.fb_device_tables.proofs.give.carried.Goals as goal

pub returns-in-Some : goal.returns-in-Some
returns-in-Some c =
    subst (λ ns. IfOk c.copied.result (λ v. map string_bytes v.items ≡ ns))
    (ap (map string_bytes) c.deref.ensures.value ∙ ap carried_at c.in-Some.ensures.value ∙ sym (carried_found c.args.name.now c.args.events.now.entries)) c.copied.ensures

pub returns-in-None : goal.returns-in-None
returns-in-None c = ap (map string_bytes) c.new.ensures.items ∙ ap carried_at c.in-None.ensures.value ∙ sym (carried_found c.args.name.now c.args.events.now.entries)
