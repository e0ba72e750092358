-- The first eleven consecutive recessive levels.
use Rattle.std.proofs.Common.{◌≡◌, ◌≢◌, ℕ, zero, suc, ◌+◌, ◌<◌, List, [], ◌∷◌, ◌++◌, length, replicate, refl, sym, ap, ◌∙◌, append_assoc, add-one, arith, length-append}
use Rattle.can_frame.specs.declared.level.Level.{Level}
use Rattle.can_frame.specs.declared.level.Level.TheVariants.{Dominant, Recessive}
use Rattle.can_texts.specs.Decoded.{EndsIdle, SkipsToIdle}

-- n recessive levels
abbrev pub row : ℕ → List Level
row n = replicate n Recessive

pub length-row : (n : ℕ) → length (row n) ≡ n
length-row zero = refl
length-row (suc n) = ap suc (length-row n)

row-suc : (n : ℕ) → row n ++ Recessive ∷ [] ≡ row (suc n)
row-suc zero = refl
row-suc (suc n) = ap (λ l. Recessive ∷ l) (row-suc n)

pub row-more : (n : ℕ) → row n ++ Recessive ∷ [] ≡ row (n + 1)
row-more n = row-suc n ∙ ap row (sym (add-one n))

-- a row followed by a dominant level is no longer one
row-ended : (n k : ℕ) (s m : List Level) → n < k → row n ++ Dominant ∷ s ≡ row k ++ m → ⊥
row-ended n zero s m less same = absurd (omega arith)
row-ended zero (suc k) s m less same = cc
row-ended (suc n) (suc k) s m less same = let others : row n ++ Dominant ∷ s ≡ row k ++ m = cc in row-ended n k s m (omega arith) others

-- eleven recessive levels that follow a shorter row and a dominant level are in what follows these
past_dominant : (n : ℕ) (f s m : List Level) → n < 11 → row n ++ Dominant ∷ s ≡ f ++ (row 11 ++ m) → (front : List Level) × (s ≡ front ++ (row 11 ++ m))
past_dominant zero [] s m few same = cc
past_dominant zero (x ∷ f) s m few same = (f, cc)
past_dominant (suc n) [] s m few same = absurd (row-ended (suc n) 11 s m few same)
past_dominant (suc n) (x ∷ f) s m few same = past_dominant n f s m (omega arith) cc

-- fewer than eleven levels end with no eleven recessive ones
pub not_idle : (levels : List Level) → length levels < 11 → ¬ EndsIdle levels
not_idle levels few idle = absurd (omega (arith, few, ap length idle.1, length-append idle.0 (row 11)))

-- after a dominant level the search goes on as if it began there
pub SkipsToIdle-dominant : (n : ℕ) (skipped rest : List Level) → n < 11 → SkipsToIdle skipped rest → SkipsToIdle ((row n ++ Dominant ∷ []) ++ skipped) rest
SkipsToIdle-dominant n skipped rest few skips =
    let begun = row n ++ Dominant ∷ [] in
    record {
      idle = λ some. let ends = skips.idle some in (begun ++ ends.0, ap (λ l. begun ++ l) ends.1 ∙ sym (append_assoc begun ends.0 (row 11)));
      first = λ front more whole some idle.
          let same = sym (append_assoc (row n) (Dominant ∷ []) skipped) ∙ whole ∙ ap (λ l. l ++ more) idle.1 ∙ append_assoc idle.0 (row 11) more in
          let past = past_dominant n idle.0 skipped more few same in
          skips.first (past.0 ++ row 11) more (past.1 ∙ sym (append_assoc past.0 (row 11) more)) some (past.0, refl);
    }

-- eleven recessive levels end the search
pub SkipsToIdle-eleven : (rest : List Level) → SkipsToIdle (row 11) rest
SkipsToIdle-eleven rest = record {
  idle = λ some. ([], refl);
  first = λ front more whole some idle. not_idle front (shorter front more whole some) idle;
}
  where
    shorter : (front more : List Level) → row 11 ≡ front ++ more → more ≢ [] → length front < 11
    shorter front [] whole some = absurd (some refl)
    shorter front (x ∷ more) whole some = omega (arith, ap length whole, length-append front (x ∷ more))

-- fewer are all skipped if nothing follows them
pub SkipsToIdle-few : (n : ℕ) → n < 11 → SkipsToIdle (row n) []
SkipsToIdle-few n few = record {
  idle = λ some. absurd (some refl);
  first = λ front more whole some idle. not_idle front (omega (arith, few, length-row n, ap length whole, length-append front more)) idle;
}
