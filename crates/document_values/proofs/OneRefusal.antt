-- Bytes that do not meet the demands on a document have one field that is reported; those that meet them have none.
use Rattle.std.proofs.Common.{◌≡◌, ℕ, List, sym, ◌∙◌, subst, inl, inr}
use Rattle.toml.specs.Data.{Data}
use Rattle.document_values.specs.Demands.{AllMet, Demands, IsFirstUnmet}
use Rattle.document_values.specs.Refusals.{IsWrongField}
use Rattle.document_values.specs.Values.{IsDocument}
use Rattle.document_values.proofs.DemandLemmas.{met-unmet, one-unmet}
use Rattle.document_values.proofs.OneReading.{one-document}

module _ {F : Type 0} (none : F) (demands : Data → Demands F) (bytes : List ℕ) where
  pub no-wrong : (d : Data) (wrong : F) → IsDocument bytes d → AllMet (demands d) → IsWrongField none demands wrong bytes → ⊥
  no-wrong d wrong is met (inl absent) = absent.1 (d, is)
  no-wrong d wrong is met (inr b) = met-unmet wrong (demands d) met (subst (λ e. IsFirstUnmet wrong (demands e)) (one-document bytes b.0 d b.1 is) b.2)

  pub one-wrong : (wrong other : F) → IsWrongField none demands wrong bytes → IsWrongField none demands other bytes → wrong ≡ other
  one-wrong wrong other (inl a) (inl b) = a.0 ∙ sym b.0
  one-wrong wrong other (inl a) (inr b) = absurd (a.1 (b.0, b.1))
  one-wrong wrong other (inr a) (inl b) = absurd (b.1 (a.0, a.1))
  one-wrong wrong other (inr a) (inr b) = one-unmet wrong other (demands a.0) a.2 (subst (λ d. IsFirstUnmet other (demands d)) (one-document bytes b.0 a.0 b.1 a.1) b.2)
