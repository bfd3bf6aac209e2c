-- Scopes of algorithms and guards.
use Rattle.std.proofs.Common.{◌≡◌, Bool, List, ◌++◌, map, sym, ap, ◌∙◌, string_bytes}
use Rattle.std.proofs.lemmas.List.{map-append}
use Rattle.std.specs.declared.string.String.{String}
use Rattle.std.specs.declared.alloc.Global.{Global}
use Rattle.indexmap.specs.IndexMap.{IndexMap}
use Rattle.fb_model.specs.TextTyping.{Symbol}
use Rattle.fb_model.specs.BlockTyping.{Declared, symbol_of, names_in}
use Rattle.st_types.specs.declared.scope.Variable.{Variable}
use Rattle.st_types.specs.Views.{entries, symbol_of as seen_as}
use Rattle.fb_types_blocks.specs.Answers.{names_in_map}
use Rattle.fb_types_blocks.proofs.Lists.{map_map}

-- a table of variables has the names of its entries
pub scope_names : {S : Type 0} (m : IndexMap (String Global) Variable S) (es : List Symbol) → entries m ≡ es → names_in_map m ≡ map (λ e. e.name) es
scope_names m es h = sym (map_map (λ e. e.name) (λ p. seen_as (string_bytes p.0) p.1) m.entries) ∙ ap (map (λ e. e.name)) h

pub entry_names : (w : Bool) (ds : List Declared) → map (λ e. e.name) (map (symbol_of w) ds) ≡ names_in ds
entry_names w ds = map_map (λ e. e.name) (symbol_of w) ds

pub two_names : (v w : Bool) (ds es : List Declared) → map (λ e. e.name) (map (symbol_of v) ds ++ map (symbol_of w) es) ≡ names_in ds ++ names_in es
two_names v w ds es = map-append (λ e. e.name) (map (symbol_of v) ds) (map (symbol_of w) es) ∙ ap (λ ns. ns ++ map (λ e. e.name) (map (symbol_of w) es)) (entry_names v ds) ∙ ap (λ ns. names_in ds ++ ns) (entry_names w es)
