-- How the search after a fault goes on, digit by digit.
use Rattle.std.proofs.Common.{◌≡◌, ℕ, ◌+◌, ◌<◌, List, [], ◌∷◌, ◌++◌, true, length, get_or, take, refl, sym, ap, subst, ◌∙◌, append_assoc, arith, length-append}
use Rattle.std.proofs.lemmas.List.{append-nil, take_more}
use Rattle.can_frame.specs.declared.level.Level.{Level}
use Rattle.can_frame.specs.declared.level.Level.TheVariants.{Dominant, Recessive}
use Rattle.can_frame.specs.Levels.{digit_of}
use Rattle.can_texts.specs.TraceText.{IsTraceText, is_trace_byte, levels_in}
use Rattle.can_texts.specs.Decoding.{IsLost, Searches}
use Rattle.can_texts.specs.declared.traces.finding.Finding.{Finding}
use Rattle.can_stream.proofs.Elements.{AllByRecursion-append}
use Rattle.can_texts.proofs.IdleRows.{row}
use Rattle.can_texts.proofs.TraceSteps.{IsLost-dominant, IsLost-recessive, SearchesOn-more}
use Rattle.can_texts.proofs.DecodeSteps.{IsTraceText-digits, levels_in-append, levels_in-digits}

-- the length of a row after a level
abbrev RowBehind : ℕ → Level → ℕ → Type 0
RowBehind n Dominant m = m ≡ 0
RowBehind n Recessive m = m ≡ n + 1

-- one level more
IsLost-level : (n m : ℕ) (level : Level) (levels : List Level) (told : List Finding) → m < 11 → RowBehind n level m → IsLost n levels told → IsLost m (levels ++ level ∷ []) told
IsLost-level n m Dominant levels told few is lost =
    subst (λ k. IsLost k (levels ++ Dominant ∷ []) told) (sym is)
    (subst (λ l. IsLost 0 l told) (sym (ap (λ l. l ++ Dominant ∷ []) lost.levels_are ∙ append_assoc lost.done (row n) (Dominant ∷ [])))
    (IsLost-dominant n Dominant lost.done told lost.few refl (SearchesOn-more (row n) lost.done Dominant told lost.searches_on)))
IsLost-level n m Recessive levels told few is lost =
    subst (λ k. IsLost k (levels ++ Recessive ∷ []) told) (sym is)
    (subst (λ l. IsLost (n + 1) l told) (sym (ap (λ l. l ++ Recessive ∷ []) lost.levels_are ∙ append_assoc lost.done (row n) (Recessive ∷ [])))
    (IsLost-recessive n Recessive lost.done told lost.few refl (omega (arith, is)) (SearchesOn-more (row n) lost.done Recessive told lost.searches_on)))

pub Searches-none : (n : ℕ) (digits : List ℕ) → Searches n (take 0 digits) n
Searches-none n digits = record { is_text = tt; all = refl; lost = λ levels told lost. subst (λ l. IsLost n l told) (sym (append-nil levels)) lost }

-- one digit more
Searches-level : (first n m : ℕ) (digits : List ℕ) (count : ℕ) (level : Level) → count < length digits → get_or digits count 0 ≡ digit_of level → m < 11 → RowBehind n level m
    → Searches first (take count digits) n → Searches first (take (count + 1) digits) m
Searches-level first n m digits count level more is few behind so_far =
    let longer : take (count + 1) digits ≡ take count digits ++ digit_of level ∷ [] = take_more digits count 0 more ∙ ap (λ d. take count digits ++ d ∷ []) is in
    let levels_are : levels_in (take (count + 1) digits) ≡ levels_in (take count digits) ++ level ∷ [] =
    ap levels_in longer ∙ levels_in-append (take count digits) (digit_of level ∷ []) ∙ ap (λ l. levels_in (take count digits) ++ l) (levels_in-digits (level ∷ [])) in
    record {
      is_text = subst IsTraceText (sym longer) (AllByRecursion-append (λ byte. is_trace_byte byte ≡ true) (take count digits) (digit_of level ∷ []) so_far.is_text (IsTraceText-digits (level ∷ [])));
      all = omega (arith, ap length levels_are, ap length longer, so_far.all, length-append (levels_in (take count digits)) (level ∷ []), length-append (take count digits) (digit_of level ∷ []));
      lost = λ levels told lost. subst (λ l. IsLost m l told) (append_assoc levels (levels_in (take count digits)) (level ∷ []) ∙ ap (λ l. levels ++ l) (sym levels_are))
          (IsLost-level n m level (levels ++ levels_in (take count digits)) told few behind (so_far.lost levels told lost));
    }

module _ (first n m : ℕ) (digits : List ℕ) (count : ℕ) (more : count < length digits) (few : m < 11) (so_far : Searches first (take count digits) n) where
  pub Searches-recessive : get_or digits count 0 ≡ 49 → m ≡ n + 1 → Searches first (take (count + 1) digits) m
  Searches-recessive is behind = Searches-level first n m digits count Recessive more is few behind so_far

  pub Searches-dominant : get_or digits count 0 ≡ 48 → m ≡ 0 → Searches first (take (count + 1) digits) m
  Searches-dominant is behind = Searches-level first n m digits count Dominant more is few behind so_far
