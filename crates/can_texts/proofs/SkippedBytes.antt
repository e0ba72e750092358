-- Spaces and line ends, one after the other: trace text without levels.
use Rattle.std.proofs.Common.{◌≡◌, ℕ, suc, ◌+◌, ◌<◌, ◌||◌, eqb, Bool, true, false, List, [], ◌∷◌, ◌++◌, length, take, drop, get_or, Option, refl, sym, ap, ap₂, subst, ◌∙◌, arith}
use Rattle.std.proofs.Math.Seq.{take-add}
use Rattle.std.proofs.lemmas.Bool.{eqb-true, false≢true}
use Rattle.std.proofs.lemmas.List.{drop_more, take_more}
use Rattle.can_stream.proofs.Elements.{AllByRecursion-append}
use Rattle.can_texts.specs.TraceText.{is_skipped, is_trace_byte}
use Rattle.can_texts.specs.Decoding.{AreSkipped, Hears, HearsText}
use Rattle.can_texts.specs.declared.traces.trace.Trace.{Trace}
use Rattle.can_texts.proofs.DecodeSteps.{Hears-none, HearsText-untold_part, levels_in-append}

-- one such byte
pub skipped_byte : (byte : ℕ) → is_skipped byte ≡ true → AreSkipped (byte ∷ [])
skipped_byte byte is = by (eqb byte 32) (eqb byte 10) (eqb byte 13) refl refl refl is
  where
    at : (n : ℕ) → AreSkipped (n ∷ []) → eqb byte n ≡ true → AreSkipped (byte ∷ [])
    at n skipped equal = subst (λ x. AreSkipped (x ∷ [])) (sym (eqb-true byte n equal)) skipped

    by : (a b c : Bool) → eqb byte 32 ≡ a → eqb byte 10 ≡ b → eqb byte 13 ≡ c → a || b || c ≡ true → AreSkipped (byte ∷ [])
    by true b c is32 is10 is13 any = at 32 ((refl, tt), refl) is32
    by false true c is32 is10 is13 any = at 10 ((refl, tt), refl) is10
    by false false true is32 is10 is13 any = at 13 ((refl, tt), refl) is13
    by false false false is32 is10 is13 none = absurd (false≢true none)

-- one part after the other
pub AreSkipped-append : (xs ys : List ℕ) → AreSkipped xs → AreSkipped ys → AreSkipped (xs ++ ys)
AreSkipped-append xs ys first more =
    (AllByRecursion-append (λ byte. is_trace_byte byte ≡ true) xs ys first.0 more.0, levels_in-append xs ys ∙ ap₂ (λ l m. l ++ m) first.1 more.1)

pub AreSkipped-then : (bytes : List ℕ) (n k : ℕ) → AreSkipped (take n bytes) → AreSkipped (take k (drop n bytes)) → AreSkipped (take (n + k) bytes)
AreSkipped-then bytes n k first more = subst AreSkipped (sym (take-add n k bytes)) (AreSkipped-append (take n bytes) (take k (drop n bytes)) first more)

-- one byte more
pub AreSkipped-more : (bytes : List ℕ) (n : ℕ) → n < length bytes → AreSkipped (take n bytes) → is_skipped (get_or bytes n 0) ≡ true → AreSkipped (take (n + 1) bytes)
AreSkipped-more bytes n within first is =
    subst AreSkipped (sym (take_more bytes n 0 within)) (AreSkipped-append (take n bytes) (get_or bytes n 0 ∷ []) first (skipped_byte (get_or bytes n 0) is))

-- one byte, and those after it
pub AreSkipped-next : (bytes : List ℕ) (index k : ℕ) → index < length bytes → is_skipped (get_or bytes index 0) ≡ true → AreSkipped (take k (drop (index + 1) bytes)) → AreSkipped (take (1 + k) (drop index bytes))
AreSkipped-next bytes index k within is more =
    let x = get_or bytes index 0 in
    let rest = drop (index + 1) bytes in
    let next : 1 + k ≡ suc k = omega arith in
    subst AreSkipped (sym (ap (take (1 + k)) (drop_more bytes index 0 within) ∙ ap (λ n. take n (x ∷ rest)) next)) (AreSkipped-append (x ∷ []) (take k rest) (skipped_byte x is) more)

-- nothing is heard of them
pub HearsText-skipped : (a b : Trace) (bytes : List ℕ) (index : ℕ) (held between : Option (List ℕ)) (old mid : List ℕ) → HearsText a b (take index bytes) held between old mid
    → (count : ℕ) → AreSkipped (take count (drop index bytes)) → HearsText a b (take (index + count) bytes) held between old mid
HearsText-skipped a b bytes index held between old mid first count is =
    HearsText-untold_part a b b bytes index held between old mid first count is.0 (subst (λ l. Hears b b l []) (sym is.1) (Hears-none b))
