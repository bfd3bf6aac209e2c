use Rattle.std.proofs.Common.{◌≡◌, ◌++◌, drop, flat_map, string_bytes}
use Rattle.fb_cert.specs.Views.{rows_of}
use Rattle.fb_cert.specs.Printed.{row_line, entries_of}
use Rattle.fb_cert.proofs.printing.print_kind.Given as goal

-- what is printed, and what is left
abbrev pub invariant-loop-index : goal.invariant-loop-index
invariant-loop-index l =
    string_bytes l.text ++ flat_map row_line (drop l.index (entries_of l.kind (rows_of l.certificate))) ≡ string_bytes l.initial.text ++ flat_map row_line (entries_of l.kind (rows_of l.certificate))
