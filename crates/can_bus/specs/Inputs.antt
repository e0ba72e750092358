-- What is wrong with a list that a call takes. (docs/BUS.md, "Refusals")
use Rattle.std.specs.Prelude.{ℕ, ◌≡◌, Bool, false, List, take, Some, slice_get}
use Rattle.can_terms.specs.declared.hit.Hit.{Hit}
use Rattle.can_terms.specs.Hits.{hit_names_port, is_above}
use Rattle.can_terms.specs.Sound.{AreSound, FollowsLast}
use Rattle.can_bus.specs.declared.fault.BusFault.{BusFault}
use Rattle.can_bus.specs.declared.fault.BusFault.TheVariants.{NoPort, TooManyPorts, NotRising, NoSuchPort}

-- `follows`: which item may follow which; `names`: of this many ports the item names one, or none
module _ {A : Type 0} (follows : A → A → Bool) (names : ℕ → A → Bool) where
  -- what is wrong with the item at this place: its order is checked before its port
  abbrev pub IsWrong : ℕ → List A → ℕ → A → BusFault → Type 0
  IsWrong ports items place item NotRising = FollowsLast follows items place item → ⊥
  IsWrong ports items place item NoSuchPort = FollowsLast follows items place item × (names ports item ≡ false)
  IsWrong ports items place item NoPort = ⊥
  IsWrong ports items place item TooManyPorts = ⊥

  -- the first item that is refused has this fault
  pub record IsFirstWrong (ports : ℕ) (items : List A) (fault : BusFault) : Type 0 where
    pub place : ℕ
    pub item : A
    pub there : slice_get items place ≡ Some item
    pub before : AreSound follows names ports (take place items)
    pub wrong : IsWrong ports items place item fault

-- the first hit that is refused has this fault
abbrev pub IsFirstHitFault : ℕ → List Hit → BusFault → Type 0
IsFirstHitFault ports hits fault = IsFirstWrong is_above hit_names_port ports hits fault
