-- Values say one thing each, and bytes are one document.
use Rattle.std.proofs.Common.{◌≡◌, ℕ, pos, Bool, Option, Some, None, List, [], ◌∷◌, refl, sym, ap, ◌∙◌}
use Rattle.toml.specs.Data.{Data, string, integer, boolean, table, Members}
use Rattle.toml.specs.Parse.{parse_document}
use Rattle.can_frame.specs.Parts.{Parts}
use Rattle.can_frame.specs.Text.{frame_text}
use Rattle.can_frame.proofs.OneText.{same_frame}
use Rattle.document_values.specs.Values.{ArePaired, IsDocument, IsRequired, IsNumber, SaysNumber, SaysWhether, SaysFrame}

one-members : (bytes : List ℕ) (a b : Members) → parse_document bytes ≡ Some a → parse_document bytes ≡ Some b → a ≡ b
one-members bytes a b e f = let h : Some a ≡ Some b = sym e ∙ f in cc

pub one-document : (bytes : List ℕ) (a b : Data) → IsDocument bytes a → IsDocument bytes b → a ≡ b
one-document bytes a b is are = is.is_table ∙ ap table (one-members bytes is.members are.members is.parsed are.parsed) ∙ sym are.is_table

-- ---- values

pub one-number : (m n : ℕ) (d : Data) → IsNumber m d → IsNumber n d → m ≡ n
one-number m n d e f = let h : integer (pos m) ≡ integer (pos n) = sym e ∙ f in cc

pub required-number : (m n : ℕ) (o : Option Data) → IsRequired (IsNumber m) o → IsRequired (IsNumber n) o → m ≡ n
required-number m n None e f = absurd e
required-number m n (Some d) e f = one-number m n d e f

pub said-number : (usual m n : ℕ) (o : Option Data) → SaysNumber usual o m → SaysNumber usual o n → m ≡ n
said-number usual m n None e f = e ∙ sym f
said-number usual m n (Some d) e f = one-number m n d e f

pub said-whether : (a b : Bool) (o : Option Data) → SaysWhether o a → SaysWhether o b → a ≡ b
said-whether a b None e f = e ∙ sym f
said-whether a b (Some d) e f = let h : boolean a ≡ boolean b = sym e ∙ f in cc

pub said-frame : (d : Data) (f g : Parts) → SaysFrame d f → SaysFrame d g → f ≡ g
said-frame d f g a b =
    let texts : frame_text f ≡ frame_text g = (let h : string (frame_text f) ≡ string (frame_text g) = sym a.1 ∙ b.1 in cc) in
    same_frame f g a.0 b.0 texts

-- ---- lists

-- elements that each say one thing say one list
module _ {A B : Type 0} (R : A → B → Type 0) (S : B → B → Type 0) (one : (x : A) (y z : B) → R x y → R x z → S y z) where
  pub paired-each : (xs : List A) (ys zs : List B) → ArePaired R xs ys → ArePaired R xs zs → ArePaired S ys zs
  paired-each [] [] [] a b = tt
  paired-each [] [] (z ∷ zs) a b = absurd b
  paired-each [] (y ∷ ys) zs a b = absurd a
  paired-each (x ∷ xs) [] zs a b = absurd a
  paired-each (x ∷ xs) (y ∷ ys) [] a b = absurd b
  paired-each (x ∷ xs) (y ∷ ys) (z ∷ zs) a b = (one x y z a.0 b.0, paired-each xs ys zs a.1 b.1)

paired-same : {B : Type 0} (ys zs : List B) → ArePaired (λ y z. y ≡ z) ys zs → ys ≡ zs
paired-same [] [] a = refl
paired-same [] (z ∷ zs) a = absurd a
paired-same (y ∷ ys) [] a = absurd a
paired-same (y ∷ ys) (z ∷ zs) a = ap (λ x. x ∷ ys) a.0 ∙ ap (λ rest. z ∷ rest) (paired-same ys zs a.1)

pub one-list : {A B : Type 0} (R : A → B → Type 0) → ((x : A) (y z : B) → R x y → R x z → y ≡ z) → (xs : List A) (ys zs : List B) → ArePaired R xs ys → ArePaired R xs zs → ys ≡ zs
one-list R one xs ys zs a b = paired-same ys zs (paired-each R (λ y z. y ≡ z) one xs ys zs a b)
