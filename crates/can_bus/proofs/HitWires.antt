-- A wire on which hits fall within attempts, with machines of any kind on it, over levels that it is known to have.
use Rattle.std.specs.Prelude.{slice_index_or}
use Rattle.std.proofs.Common.{◌≡◌, ℕ, zero, suc, ◌+◌, ◌<◌, ◌≤◌, Option, List, [], ◌∷◌, ◌++◌, length, map, take, refl, ap, ◌∙◌, arith}
use Rattle.std.proofs.lemmas.List.{take_all}
use Rattle.can_frame.specs.declared.level.Level.{Level}
use Rattle.can_node.proofs.BrokenFrames.{seen_of}
use Rattle.can_terms.specs.declared.hit.Hit.{Hit}
use Rattle.can_bus.specs.declared.moment.Attempt.{Attempt}
use Rattle.can_bus.specs.Wired.{wired}
use Rattle.can_bus.specs.Run.{inverted_if, rest_after}
use Rattle.can_bus.proofs.Reduction.{Gives}
use Rattle.can_bus.proofs.WireRuns.{undisturbed, rest_run, all_after}
use Rattle.can_bus.proofs.HitRuns.{falls, latest_now, latest_after, Fall}

-- the machines, how many recessive levels were recorded last, and the latest attempt
pub record HitWire (M : Type 0) : Type 0 where
  pub machines : List M
  pub rest : ℕ
  pub latest : Option Attempt

module _ {M : Type 0} (drive : M → Level) (step : Level → M → M) (hits : List Hit) where
  -- the latest attempt in this bit time, and the level that is recorded
  abbrev pub hit_latest : HitWire M → Option Attempt
  hit_latest w = latest_now w.latest w.rest (wired (map drive w.machines))

  abbrev pub hit_seen : HitWire M → Level
  hit_seen w = inverted_if (falls hits (hit_latest w)) (wired (map drive w.machines))

  -- one bit time, and this many
  abbrev pub hit_step : HitWire M → HitWire M
  hit_step w = record { machines = map (step (hit_seen w)) w.machines; rest = rest_after w.rest (hit_seen w); latest = hit_latest w }

  abbrev pub hit_run : ℕ → HitWire M → HitWire M
  hit_run zero w = w
  hit_run (suc n) w = hit_run n (hit_step w)

  -- some bit times, and then others
  pub hit_runs-joined : (m n : ℕ) (w : HitWire M) → hit_run (m + n) w ≡ hit_run n (hit_run m w)
  hit_runs-joined zero n w = ap (λ k. hit_run k w) (let e : 0 + n ≡ n = omega arith in e)
  hit_runs-joined (suc m) n w = ap (λ k. hit_run k w) (let e : suc m + n ≡ suc (m + n) = omega arith in e) ∙ hit_runs-joined m n (hit_step w)

  -- one bit time, if the level is known
  abbrev known : HitWire M → Level → Level → HitWire M
  known w x seen = record { machines = map (step seen) w.machines; rest = rest_after w.rest seen; latest = latest_now w.latest w.rest x }

  pub hit_step-known : (l : Level × Level) (w : HitWire M) → wired (map drive w.machines) ≡ l.0 → inverted_if (falls hits (latest_now w.latest w.rest l.0)) l.0 ≡ l.1 →
      hit_step w ≡ known w l.0 l.1
  hit_step-known l w wire fall =
      ap (λ y. known w y (inverted_if (falls hits (latest_now w.latest w.rest y)) y)) wire ∙ ap (known w l.0) fall

  pub hit_seen-known : (l : Level × Level) (w : HitWire M) → wired (map drive w.machines) ≡ l.0 → inverted_if (falls hits (latest_now w.latest w.rest l.0)) l.0 ≡ l.1 →
      hit_seen w ≡ l.1
  hit_seen-known l w wire fall = ap (λ y. inverted_if (falls hits (latest_now w.latest w.rest y)) y) wire ∙ fall

  -- the wire after these levels
  abbrev pub hit_after : HitWire M → List (Level × Level) → HitWire M
  hit_after w levels = record { machines = all_after step (seen_of levels) w.machines; rest = rest_run w.rest (seen_of levels); latest = latest_after w.latest w.rest levels }

  -- after some of the levels that it is known to have
  pub hits-part : (n : ℕ) (levels : List (Level × Level)) (w : HitWire M) → n ≤ length levels → Gives drive step levels w.machines → Fall hits w.latest w.rest levels →
      hit_run n w ≡ hit_after w (take n levels)
  hits-part zero [] w within gives fall = refl
  hits-part zero (l ∷ levels) w within gives fall = refl
  hits-part (suc n) [] w within gives fall = absurd (omega (arith, within))
  hits-part (suc n) (l ∷ levels) w within gives fall =
      ap (hit_run n) (hit_step-known l w gives.0 fall.0) ∙ hits-part n levels (known w l.0 l.1) (omega (arith, within)) gives.1 fall.1

  -- and after all of them
  pub hits-all : (levels : List (Level × Level)) (w : HitWire M) → Gives drive step levels w.machines → Fall hits w.latest w.rest levels → hit_run (length levels) w ≡ hit_after w levels
  hits-all levels w gives fall = hits-part (length levels) levels w (omega arith) gives fall ∙ ap (hit_after w) (take_all (length levels) levels (omega arith))

  -- those levels are recorded
  pub hits-levels : (levels : List (Level × Level)) (w : HitWire M) (t : ℕ) (d : Level) → Gives drive step levels w.machines → Fall hits w.latest w.rest levels → t < length levels →
      hit_seen (hit_run t w) ≡ slice_index_or (seen_of levels) t d
  hits-levels [] w t d gives fall within = absurd (omega (arith, within))
  hits-levels (l ∷ levels) w zero d gives fall within = hit_seen-known l w gives.0 fall.0
  hits-levels (l ∷ levels) w (suc t) d gives fall within =
      ap (λ v. hit_seen (hit_run t v)) (hit_step-known l w gives.0 fall.0) ∙ hits-levels levels (known w l.0 l.1) t d gives.1 fall.1 (omega (arith, within))

  -- levels after others
  pub gives-behind : (a : List Level) (b : List (Level × Level)) (ms : List M) → Gives drive step (undisturbed a) ms → Gives drive step b (all_after step a ms) →
      Gives drive step (undisturbed a ++ b) ms
  gives-behind [] b ms first next = next
  gives-behind (x ∷ a) b ms first next = (first.0, gives-behind a b (map (step x) ms) first.1 next)
