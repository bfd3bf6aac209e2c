-- What sources give, in the tables and in the book.
use Rattle.std.proofs.Common.{◌≡◌, ◌↔◌, true, false, Bool, List, [], ◌∷◌, Option, None, Some, refl, sym, ap, subst, ◌∙◌, string_bytes}
use Rattle.std.specs.Prelude.{if◌then◌else◌}
use Rattle.fb_model.specs.Names.{Name, Path, path_eq}
use Rattle.fb_model.specs.Spelling.{AreWords}
use Rattle.fb_model.specs.Wires as wires
use Rattle.fb_model.specs.Wires.{Kind, Output_of, Constant, leaf_at}
use Rattle.fb_model.specs.Spans.{Span, within}
use Rattle.fb_model.specs.Ranges.{rows, SourceFits}
use Rattle.fb_model.specs.CertificateText.{names_in}
use Rattle.fb_model.proofs.Lists.{same_path}
use Rattle.fb_model_laws.specs.Words.{declared_names}
use Rattle.fb_cert.specs.declared.certificate.Certificate.{Certificate}
use Rattle.fb_cert.specs.Views.{certificate_of}
use Rattle.fb_flat.specs.declared.flat.Leaf.{Leaf}
use Rattle.fb_flat.specs.Leaves.{kind_of}
use Rattle.fb_flat.specs.Tables.{IsLeaf, AreLeaves}
use Rattle.fb_check_ranges.specs.Rows.{rows_in}
use Rattle.fb_check_ranges.specs.Places.{SourceLies}
use Rattle.fb_check_ranges.specs.Fitting.{IsKnownLeaf}
use Rattle.fb_check_ranges.specs.Tables.{AreKnownLeaves}
use Rattle.fb_check_ranges.proofs.Rowing.{rows_are}
use Rattle.fb_check_ranges.proofs.Placing.{met, met_back}

-- the leaf of a path has this path
at_path : (bs : List wires.Leaf) (from : Path) (b : wires.Leaf) → leaf_at bs from ≡ Some b → b.path ≡ from
at_path [] from b h = absurd cc
at_path (y ∷ bs) from b h = by (path_eq y.path from) refl h (at_path bs from b) where
  by : (c : Bool) → path_eq y.path from ≡ c → (if c then Some y else leaf_at bs from) ≡ Some b → (leaf_at bs from ≡ Some b → b.path ≡ from) → b.path ≡ from
  by true e h next = let s : y ≡ b = cc in sym (ap (λ (z : wires.Leaf). z.path) s) ∙ same_path y.path from e
  by false e h next = next h

module _ (cert : Certificate) (ls : List Leaf) (bs : List wires.Leaf) (are : AreLeaves ls bs) (known : AreKnownLeaves bs) where
  given_row : (from : Path) (y : Name) (l : Leaf) (b : wires.Leaf) → leaf_at bs from ≡ Some b → IsLeaf l b → IsKnownLeaf b
      → rows_in cert (string_bytes l.path) (kind_of l.body) y ≡ rows (certificate_of cert).ranges from b.kind y
  given_row from y l b at is k =
      let ranges = (certificate_of cert).ranges in
      let path : Name = string_bytes l.path in
      let words : AreWords (declared_names (kind_of l.body)) = subst (λ (q : Kind). AreWords (declared_names q)) (sym is.kind) k.words.variables in
      ap (λ f. f y) (rows_are cert path (kind_of l.body) words)
      ∙ ap (λ (q : Kind). rows ranges (names_in path) q y) is.kind
      ∙ ap (λ (p : Path). rows ranges p b.kind y) (is.path ∙ at_path bs from b at)

  pub source_both : (r : Span) (s : wires.Source) → SourceLies cert ls r s ↔ SourceFits (certificate_of cert).ranges bs r s
  source_both r (Constant value) = ((λ h. tt), (λ h. tt))
  source_both r (Output_of from y) = (there, back) where
    there : SourceLies cert ls r (Output_of from y) → SourceFits (certificate_of cert).ranges bs r (Output_of from y)
    there h =
        let m = met ls bs from h.0 are known h.1 in
        (m.0, m.1, subst (λ (q : Span). within q r ≡ true) (given_row from y h.0 m.0 m.1 m.2 m.3) h.2)

    back : SourceFits (certificate_of cert).ranges bs r (Output_of from y) → SourceLies cert ls r (Output_of from y)
    back h =
        let m = met_back ls bs from h.0 are known h.1 in
        (m.0, m.1, subst (λ (q : Span). within q r ≡ true) (sym (given_row from y m.0 h.0 h.1 m.2 m.3)) h.2)
