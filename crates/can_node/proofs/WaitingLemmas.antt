-- Which frame of a queue waits, as frames come and go.
use Rattle.std.proofs.Common.{◌≡◌, Bool, true, false, cond, List, [], ◌∷◌, ◌++◌, refl, ◌∙◌, ap, subst, inl, inr}
use Rattle.std.specs.Prelude.{Option, Some, None, ◌⊎◌}
use Rattle.std.specs.declared.cmp.Ordering.{Ordering}
use Rattle.std.specs.declared.cmp.Ordering.TheVariants.{Less, Equal, Greater}
use Rattle.std.proofs.lemmas.Bool.{cases_Bool}
use Rattle.can_frame.specs.Parts.{Parts}
use Rattle.can_frame.specs.Arbitration.{arbitration_field, field_cmp, Before}
use Rattle.can_frame.proofs.BeforeLemmas.{Before-trans, Ranked}
use Rattle.can_frame.proofs.FieldLemmas.{fields_ranked, key_cmp-tells}
use Rattle.can_node.specs.Ports.{is_less, is_equal, goes_before, same_field, earlier, waiting}

-- ---- the tests of two frames, and the order of their arbitration fields

pub is_less-Less : (o : Ordering) → is_less o ≡ true → o ≡ Less
is_less-Less Less e = refl
is_less-Less Equal e = cc
is_less-Less Greater e = cc

pub is_equal-Equal : (o : Ordering) → is_equal o ≡ true → o ≡ Equal
is_equal-Equal Less e = cc
is_equal-Equal Equal e = refl
is_equal-Equal Greater e = cc

abbrev pub Wins : Parts → Parts → Type 0
Wins f g = Before (arbitration_field f) (arbitration_field g)

abbrev pub Shares : Parts → Parts → Type 0
Shares f g = arbitration_field f ≡ arbitration_field g

module _ (f g : Parts) where
  pub goes_before-Wins : goes_before f g ≡ true → Wins f g
  goes_before-Wins e = (key_cmp-tells f g).less.0 (is_less-Less (field_cmp (arbitration_field f) (arbitration_field g)) e)

  pub Wins-goes_before : Wins f g → goes_before f g ≡ true
  Wins-goes_before h = ap is_less ((key_cmp-tells f g).less.1 h)

  pub not_before : goes_before f g ≡ false → Wins f g → ⊥
  not_before e h = let t = Wins-goes_before h in cc

  pub same_field-Shares : same_field f g ≡ true → Shares f g
  same_field-Shares e = (key_cmp-tells f g).equal.0 (is_equal-Equal (field_cmp (arbitration_field f) (arbitration_field g)) e)

  pub Shares-same_field : Shares f g → same_field f g ≡ true
  Shares-same_field h = ap is_equal ((key_cmp-tells f g).equal.1 h)

-- of three frames: if the first has priority over the third, it has priority over the second, or the second over the third
pub Wins-between : (f g h : Parts) → Wins f h → Wins f g ⊎ Wins g h
Wins-between f g h w = by_rank (fields_ranked f g)
  where
    by_rank : Ranked (arbitration_field f) (arbitration_field g) → Wins f g ⊎ Wins g h
    by_rank (inl a) = inl a
    by_rank (inr (inl e)) = inr (subst (λ field. Before field (arbitration_field h)) e w)
    by_rank (inr (inr b)) = inr (Before-trans (arbitration_field g) (arbitration_field f) (arbitration_field h) b w)

module _ (f g h : Parts) where
  before_trans : goes_before f g ≡ true → goes_before g h ≡ true → goes_before f h ≡ true
  before_trans a b = Wins-goes_before f h (Before-trans (arbitration_field f) (arbitration_field g) (arbitration_field h) (goes_before-Wins f g a) (goes_before-Wins g h b))

  none_between : goes_before f g ≡ false → goes_before g h ≡ false → goes_before f h ≡ false
  none_between a b =
      elim (cases_Bool (goes_before f h)) [
        | inl t ↦ absurd (elim (Wins-between f g h (goes_before-Wins f h t)) [ inl x ↦ not_before f g a x | inr y ↦ not_before g h b y ])
        | inr n ↦ n
      ]

-- ---- a frame more

-- which of two goes, by any test
abbrev pick : (Parts → Parts → Bool) → Parts → Parts → Parts
pick test f g = cond (test g f) g f

-- of three it doesn't matter which two are compared first
pick_assoc : (test : Parts → Parts → Bool) (f g h : Parts) → (test h g ≡ true → test g f ≡ true → test h f ≡ true) → (test h g ≡ false → test g f ≡ false → test h f ≡ false) →
    pick test f (pick test g h) ≡ pick test (pick test f g) h
pick_assoc test f g h trans between =
    elim (cases_Bool (test h g)) [
      | inl a ↦ elim (cases_Bool (test g f)) [
        | inl b ↦ let c : test h f ≡ true = trans a b in simp (a, b, c)
        | inr b ↦ simp (a, b)
      ]
      | inr a ↦ elim (cases_Bool (test g f)) [
        | inl b ↦ simp (a, b)
        | inr b ↦ let c : test h f ≡ false = between a b in simp (a, b, c)
      ]
    ]

-- the pending frame when a frame is queued after those whose pending frame is this one
abbrev pub behind : Option Parts → Parts → Option Parts
behind None f = Some f
behind (Some w) f = Some (earlier w (Some f))

earlier_behind : (f : Parts) (w : Option Parts) (g : Parts) → Some (earlier f (behind w g)) ≡ behind (Some (earlier f w)) g
earlier_behind f None g = refl
earlier_behind f (Some w) g = ap Some (pick_assoc goes_before f w g (before_trans g w f) (none_between g w f))

pub waiting-push : (queue : List Parts) (f : Parts) → waiting (queue ++ f ∷ []) ≡ behind (waiting queue) f
unfolding waiting
waiting-push [] f = refl
waiting-push (g ∷ queue) f = ap (λ w. Some (earlier g w)) (waiting-push queue f) ∙ earlier_behind g (waiting queue) f
