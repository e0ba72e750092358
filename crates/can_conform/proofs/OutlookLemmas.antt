-- A bit time that isn't marked brings nothing.
use Rattle.std.specs.Prelude.{◌==◌, ◌%◌, get_or, if◌then◌else◌}
use Rattle.std.proofs.Common.{◌≡◌, ℕ, ◌+◌, ◌≤◌, Bool, true, false, List, [], ◌∷◌, ◌++◌, refl, sym, subst, ap, ◌∙◌, arith}
use Rattle.std.proofs.lemmas.Bool.Decides.{Decides-eqb}
use Rattle.can_node.specs.Ports.{PortState, with_offer}
use Rattle.can_conform.specs.declared.outlook.Outlook.{Outlook}
use Rattle.can_terms.specs.declared.script.Script.{Script}
use Rattle.can_terms.specs.declared.timed.Timed.{Timed}
use Rattle.can_conform.specs.Runs.{all_handed, handed, wished}
use Rattle.can_conform.specs.Walks.{AreMarked, Foresees, IsMarked, KeepsMarks}

-- ---- lists

later : {A : Type 0} (xs : List (Timed A)) (t last : ℕ) (marks : List Bool) → AreMarked xs t last marks → AreMarked xs (t + 1) last marks
later [] t last marks all = tt
later (x ∷ xs) t last marks all = (λ from to. all.0 (omega (arith, from)) to, later xs t last marks all.1)

pub marked-kept : {A : Type 0} (xs : List (Timed A)) (t last : ℕ) (marks more : List Bool) → KeepsMarks marks more → AreMarked xs t last marks → AreMarked xs t last more
marked-kept [] t last marks more keeps all = tt
marked-kept (x ∷ xs) t last marks more keeps all = (λ from to. keeps (x.time % 256) (all.0 from to), marked-kept xs t last marks more keeps all.1)

pub marked-push : {A : Type 0} (xs : List (Timed A)) (y : Timed A) (t last : ℕ) (marks : List Bool) → AreMarked xs t last marks → IsMarked y.time t last marks → AreMarked (xs ++ y ∷ []) t last marks
marked-push [] y t last marks all here = (here, tt)
marked-push (x ∷ xs) y t last marks all here = (all.0, marked-push xs y t last marks all.1 here)

every-marked : {A : Type 0} (xs : List (Timed A)) (t last : ℕ) (marks : List Bool) → ((n : ℕ) → get_or marks (n % 256) false ≡ true) → AreMarked xs t last marks
every-marked [] t last marks every = tt
every-marked (x ∷ xs) t last marks every = (λ from to. every x.time, every-marked xs t last marks every)

still : {A : Type 0} (hand : A → PortState → PortState) (xs : List (Timed A)) (t last : ℕ) (marks : List Bool) (p : PortState) → t ≤ last → get_or marks (t % 256) false ≡ false → AreMarked xs t last marks → all_handed hand xs t p ≡ p
still hand [] t last marks p within none all = refl
still hand (x ∷ xs) t last marks p within none all =
    let here : (b : Bool) → (x.time == t) ≡ b → all_handed hand xs t (if b then hand x.told p else p) ≡ p = elim [
      | true ↦ λ is.
          let same : x.time ≡ t = (Decides-eqb x.time t).0 is in
          let marked : get_or marks (x.time % 256) false ≡ true = all.0 (omega (arith, same)) (omega (arith, same, within)) in
          absurd (let no : false ≡ true = sym none ∙ subst (λ n. get_or marks (n % 256) false ≡ true) same marked in cc)
      | false ↦ λ apart. still hand xs t last marks p within none all.1
    ] in
    here (x.time == t) refl

-- ---- a case

pub foresees-every : (s : Script) (t : ℕ) (o : Outlook) → ((n : ℕ) → get_or o.marks (n % 256) false ≡ true) → Foresees s t o
foresees-every s t o every = record { offers = every-marked s.offers.items t o.last o.marks every; holds = every-marked s.holds.items t o.last o.marks every }

pub foresees-later : (s : Script) (t : ℕ) (o : Outlook) → Foresees s t o → Foresees s (t + 1) o
foresees-later s t o all = record { offers = later s.offers.items t o.last o.marks all.offers; holds = later s.holds.items t o.last o.marks all.holds }

pub handed-none : (s : Script) (t : ℕ) (o : Outlook) (p : PortState) → t ≤ o.last → get_or o.marks (t % 256) false ≡ false → Foresees s t o → handed s t p ≡ p
handed-none s t o p within none all =
    let offers : all_handed with_offer s.offers.items t p ≡ p = still with_offer s.offers.items t o.last o.marks p within none all.offers in
    ap (all_handed wished s.holds.items t) offers ∙ still wished s.holds.items t o.last o.marks p within none all.holds
