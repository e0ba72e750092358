-- Texts that are read block by block.
use Rattle.std.proofs.Common.{◌≡◌, ℕ, List, [], ◌++◌, refl, sym, ◌∙◌, ap, append_assoc, append-nil}

-- a text is read as these, and reading continues after it
pub record Reads {Y : Type 0} (from to : List ℕ → List Y) (text : List ℕ) (read : List Y) : Type 0 where
  pub on : (rest : List ℕ) → from (text ++ rest) ≡ read ++ to rest

pub nothing : {Y : Type 0} (from : List ℕ → List Y) → Reads from from [] []
nothing from = record { on = λ rest. refl }

pub joined : {Y : Type 0} {from through to : List ℕ → List Y} {a b : List ℕ} {x y : List Y} → Reads from through a x → Reads through to b y → Reads from to (a ++ b) (x ++ y)
joined {Y} {from} {through} {to} {a} {b} {x} {y} first second = record {
  on = λ rest. ap from (append_assoc a b rest) ∙ first.on (b ++ rest) ∙ ap (λ t. x ++ t) (second.on rest) ∙ sym (append_assoc x y (to rest));
}

-- if nothing is read from the empty text, a text that is read block by block is read
pub whole : {Y : Type 0} (from to : List ℕ → List Y) (text : List ℕ) (read : List Y) → to [] ≡ [] → Reads from to text read → from text ≡ read
whole from to text read ends reads = ap from (sym (append-nil text)) ∙ reads.on [] ∙ ap (λ t. read ++ t) ends ∙ append-nil read
