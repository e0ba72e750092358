-- A port's run, level by level.
use Rattle.std.proofs.Common.{◌≡◌, ℕ, zero, suc, ◌+◌, ◌<◌, ◌≤◌, List, [], ◌∷◌, length, drop, get_or, refl, sym, ◌∙◌, ap, arith, add-one}
use Rattle.can_frame.specs.declared.level.Level.{Level}
use Rattle.can_node.specs.Ports.{PortState, port_run, port_step}

drop_next : (levels : List Level) (n : ℕ) (d : Level) → n < length levels → drop n levels ≡ get_or levels n d ∷ drop (n + 1) levels
drop_next levels n d h = by_suc levels n h ∙ ap (λ k. get_or levels n d ∷ drop k levels) (sym (add-one n))
  where
    by_suc : (l : List Level) (k : ℕ) → k < length l → drop k l ≡ get_or l k d ∷ drop (suc k) l
    by_suc [] k b = absurd (omega arith)
    by_suc (y ∷ l) zero b = refl
    by_suc (y ∷ l) (suc k) b = by_suc l k (omega arith)

-- one level more is sampled
pub port_run-next : (p next : PortState) (levels : List Level) (n : ℕ) (d : Level) → n < length levels → next ≡ port_step p (get_or levels n d) →
    port_run next (drop (n + 1) levels) ≡ port_run p (drop n levels)
unfolding port_run
port_run-next p next levels n d h step = ap (λ q. port_run q (drop (n + 1) levels)) step ∙ sym (ap (port_run p) (drop_next levels n d h))

-- no level is left
pub port_run-all : (p : PortState) (levels : List Level) (n : ℕ) → length levels ≤ n → port_run p (drop n levels) ≡ p
unfolding port_run
port_run-all p [] zero h = refl
port_run-all p [] (suc n) h = refl
port_run-all p (x ∷ levels) zero h = absurd (omega arith)
port_run-all p (x ∷ levels) (suc n) h = port_run-all p levels n (omega arith)
