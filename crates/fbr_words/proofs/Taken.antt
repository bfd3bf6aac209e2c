-- What the program takes as words.
use Rattle.std.proofs.Common.{codes, ◌≡◌, refl, ◌∙◌, ap, ap₂, true, false, Bool, not, ◌&&◌, [], ◌∷◌, None, Some, inl, inr}
use Rattle.clap.specs.Words.{App, AddsSubcommand, app_of, with_subcommand, is_simple_and_free}
use Rattle.clap.specs.Simple.{has_plain_fields}
use Rattle.clap.specs.declared.builder.command.Command.{Command}
use Rattle.clap.specs.declared.builder.command.Command.TheViews.{out-Command}
use Rattle.clap.proofs.OnLiterals.{clap_on_literals}
use Rattle.fbr_words.specs.Program.{program, request_of, a_bound, a_check, a_sim, a_pack, a_time, IsMisuse}

-- a command without groups and global arguments has none of the latter
third : (a b c d : Bool) → (a && (not b && (not c && d))) ≡ true → c ≡ false
third false b c d e = absurd cc
third true true c d e = absurd cc
third true false true d e = absurd cc
third true false false d e = refl

-- a plain command has no global arguments
no_globals : (k : Command) (a : App) → app_of k ≡ a → a.top.is_plain ≡ true → (out-Command k).has_globals ≡ false
no_globals k a is plain =
    let f = out-Command k in
    let own : has_plain_fields f ≡ true = ap (λ (b : App). b.top.is_plain) is ∙ plain in
    third _ f.allow_external_subcommands f.has_globals _ own

-- a command with one more, which is plain
pub adds : (old sub new : Command) (o s : App) → AddsSubcommand old sub new → app_of old ≡ o → app_of sub ≡ s → s.top.is_plain ≡ true → app_of new ≡ with_subcommand o s.top
adds old sub new o s h old_is sub_is plain = h.shape (no_globals sub s sub_is plain) ∙ ap₂ with_subcommand old_is (ap (λ (a : App). a.top) sub_is)

is_free : is_simple_and_free program ≡ true
unfolding clap_on_literals
is_free = refl

pub free_app : (a : App) → a ≡ program → is_simple_and_free a ≡ true
free_app a e = ap is_simple_and_free e ∙ is_free

-- such words ask for a certificate of this file
is_bound : request_of (codes "fbr" ∷ codes "bound" ∷ codes "cell.fb" ∷ []) ≡ Some (record { texts = []; asked = a_bound (record { app = codes "cell.fb"; meant = None; repeats = None; into = None; ranges = None; room = None; strict = false; allow = None; json = false; every = false }) })
unfolding clap_on_literals
is_bound = refl

-- and such for one with steps over the network, in a file
is_into : request_of (codes "fbr" ∷ codes "bound" ∷ codes "cell.fb" ∷ codes "--repeats" ∷ codes "2" ∷ codes "-o" ∷ codes "cell.cert" ∷ []) ≡ Some (record { texts = []; asked = a_bound (record { app = codes "cell.fb"; meant = None; repeats = Some 2; into = Some (codes "cell.cert"); ranges = None; room = None; strict = false; allow = None; json = false; every = false }) })
unfolding clap_on_literals
is_into = refl

-- and such for one with other ranges, and with more room
is_sought : request_of (codes "fbr" ∷ codes "bound" ∷ codes "cell.fb" ∷ codes "--search" ∷ codes "--room" ∷ codes "2" ∷ []) ≡ Some (record { texts = []; asked = a_bound (record { app = codes "cell.fb"; meant = None; repeats = None; into = None; ranges = Some None; room = Some 2; strict = false; allow = None; json = false; every = false }) })
unfolding clap_on_literals
is_sought = refl

-- a number above 255 is none that counts
is_uncounted : IsMisuse (codes "fbr" ∷ codes "bound" ∷ codes "cell.fb" ∷ codes "--repeats" ∷ codes "256" ∷ [])
unfolding clap_on_literals
is_uncounted = record { none = refl; no_help = λ h. h; no_version = λ h. h }

-- such words are a check of these files
is_check : request_of (codes "fbr" ∷ codes "check" ∷ codes "cell.fb" ∷ codes "cell.cert" ∷ []) ≡ Some (record { texts = []; asked = a_check (record { app = codes "cell.fb"; meant = None; cert = codes "cell.cert"; strict = false; allow = None; json = false; every = false }) })
unfolding clap_on_literals
is_check = refl

-- and such one that is printed as JSON
is_json_check : request_of (codes "fbr" ∷ codes "check" ∷ codes "--json" ∷ codes "cell.fb" ∷ codes "cell.cert" ∷ []) ≡ Some (record { texts = []; asked = a_check (record { app = codes "cell.fb"; meant = None; cert = codes "cell.cert"; strict = false; allow = None; json = true; every = false }) })
unfolding clap_on_literals
is_json_check = refl

-- and such one in which notes count, but for those of a name
is_strict_check : request_of (codes "fbr" ∷ codes "check" ∷ codes "--strict" ∷ codes "--allow" ∷ codes "never-used" ∷ codes "cell.fb" ∷ codes "cell.cert" ∷ [])
    ≡ Some (record { texts = []; asked = a_check (record { app = codes "cell.fb"; meant = None; cert = codes "cell.cert"; strict = true; allow = Some (codes "never-used"); json = false; every = false }) })
unfolding clap_on_literals
is_strict_check = refl

-- and such are a simulation over them
is_sim : request_of (codes "fbr" ∷ codes "sim" ∷ codes "cell.fb" ∷ codes "cell.cert" ∷ []) ≡ Some (record { texts = []; asked = a_sim (record { app = codes "cell.fb"; meant = None; cert = codes "cell.cert"; watched = record { paths = []; dump = None; table = None; timeline = None }; json = false }) })
unfolding clap_on_literals
is_sim = refl

-- such one with block types before it
is_with : request_of (codes "fbr" ∷ codes "check" ∷ codes "cell.fb" ∷ codes "cell.cert" ∷ codes "--with" ∷ codes "a.fb" ∷ codes "--with" ∷ codes "b.fb" ∷ [])
    ≡ Some (record { texts = codes "a.fb" ∷ codes "b.fb" ∷ []; asked = a_check (record { app = codes "cell.fb"; meant = None; cert = codes "cell.cert"; strict = false; allow = None; json = false; every = false }) })
unfolding clap_on_literals
is_with = refl

-- and such is a text that is written
is_pack : request_of (codes "fbr" ∷ codes "pack" ∷ codes "cell.fb" ∷ codes "-o" ∷ codes "one.fb" ∷ []) ≡ Some (record { texts = []; asked = a_pack (record { app = codes "cell.fb"; meant = None; into = Some (codes "one.fb") }) })
unfolding clap_on_literals
is_pack = refl

-- and such are times on the way to a block
is_time : request_of (codes "fbr" ∷ codes "time" ∷ codes "cell.fb" ∷ codes "cell.cert" ∷ codes "--from" ∷ codes "LIMIT" ∷ codes "--to" ∷ codes "VALVE" ∷ [])
    ≡ Some (record { texts = []; asked = a_time (record { app = codes "cell.fb"; meant = None; cert = codes "cell.cert"; prices = None; rates = None; way = Some (codes "LIMIT", codes "VALVE"); json = false }) })
unfolding clap_on_literals
is_time = refl

-- these are none
is_misused : IsMisuse (codes "fbr" ∷ codes "check" ∷ codes "cell.fb" ∷ [])
unfolding clap_on_literals
is_misused = record { none = refl; no_help = λ h. elim h [ inl e ↦ absurd cc | inr e ↦ e ]; no_version = λ h. elim h [ inl e ↦ absurd cc | inr e ↦ e ] }
