-- The CRC sequence of a growing list of levels, and the CRC sequence of levels that end with their own.
use Rattle.std.proofs.Common.{◌≡◌, ℕ, suc, zero, ◌+◌, ◌-◌, ◌<◌, ◌≤◌, ◌^◌, List, [], ◌∷◌, ◌++◌, length, drop, refl, sym, ◌∙◌, ap, subst, arith, length-append}
use Rattle.std.proofs.lemmas.List.{append_cancel_right, drop_at, length-drop, take-append-drop}
use Rattle.can_frame.specs.declared.level.Level.{Level}
use Rattle.can_frame.specs.declared.level.Level.TheVariants.{Dominant, Recessive}
use Rattle.can_frame.specs.Levels.{bits_of, number_from}
use Rattle.can_wire.specs.Crc.{xor, lower_terms, reduced, IsCrc, crc_of}
use Rattle.can_wire.specs.Layout.{check_of, head_of, level_at}
use Rattle.can_wire.proofs.LayoutNumbers.{number_from-whole}
use Rattle.can_wire.proofs.LevelLemmas.{bits_of-none}
use Rattle.can_wire.proofs.XorLemmas.{xor_comm, xor_assoc, xor_zeros, xor_zeros_longer, xor_self, xor_twice, length-xor}
use Rattle.can_wire.proofs.DivisionLemmas.{none, length-reduced, length-crc_of, IsCrc-crc_of, IsCrc-only}
use Rattle.can_wire.proofs.Register.{register, register-nil, register-append, register-crc_of}

-- the CRC sequence of these levels
pub IsCrc-same : {a b c : List Level} → a ≡ b → IsCrc a c → IsCrc b c
IsCrc-same {c = c} same is = subst (λ l. IsCrc l c) same is

-- if a register has the CRC sequence of some levels, its step over more levels gives that of them all
pub IsCrc-on : (r next : ℕ) (levels more : List Level) → bits_of 15 next ≡ register (bits_of 15 r) more → IsCrc levels (bits_of 15 r)
    → IsCrc (levels ++ more) (bits_of 15 next)
IsCrc-on r next levels more step is =
    let start : bits_of 15 r ≡ register (none 15) levels = IsCrc-only levels (bits_of 15 r) is ∙ sym (register-crc_of levels) in
    let next_is : bits_of 15 next ≡ crc_of (levels ++ more) =
    step ∙ ap (λ t. register t more) start ∙ sym (register-append (none 15) levels more) ∙ register-crc_of (levels ++ more) in
    subst (IsCrc (levels ++ more)) (sym next_is) (IsCrc-crc_of (levels ++ more))

-- The generator's constant term is 1, so a register that a dominant level clears was clear before it.
cleared-level : (r : List Level) → length r ≡ 15 → register r (Dominant ∷ []) ≡ none 15 → r ≡ none 15
cleared-level [] h e = absurd (omega arith)
cleared-level (Dominant ∷ t) h e =
    let count : 15 ≡ length t + 1 = omega arith in
    let moved : xor t (none 15) ≡ t ++ none 1 = ap (λ n. xor t (none n)) count ∙ xor_zeros_longer t 1 in
    let long : 15 ≤ length (t ++ none 1) = omega (arith, length-append t (none 1)) in
    let clear : t ++ none 1 ≡ none 14 ++ none 1 = sym (xor_zeros (t ++ none 1) 15 long) ∙ ap (λ l. xor l (none 15)) (sym moved) ∙ e in
    ap (λ l. Dominant ∷ l) (append_cancel_right t (none 14) (none 1) clear)
cleared-level (Recessive ∷ t) h e =
    let count : 15 ≡ length t + 1 = omega arith in
    let size : length t ≡ 14 = omega arith in
    let moved : xor t (none 15) ≡ t ++ none 1 = ap (λ n. xor t (none n)) count ∙ xor_zeros_longer t 1 in
    let long : 15 ≤ length (t ++ none 1) = omega (arith, length-append t (none 1)) in
    let sum : xor (t ++ none 1) lower_terms ≡ none 15 = ap (λ l. xor l lower_terms) (sym moved) ∙ e in
    let terms : t ++ none 1 ≡ lower_terms = sym (xor_twice (t ++ none 1) lower_terms long) ∙ ap (λ l. xor l lower_terms) sum in
    let constant : none 1 ≡ drop 14 lower_terms = sym (drop_at t (none 1) 14 size) ∙ ap (drop 14) terms in
    absurd (let last : Dominant ≡ Recessive = ap (λ l. level_at l 0) constant in cc)

-- nor do more dominant levels clear another register
cleared : (k : ℕ) (r : List Level) → length r ≡ 15 → register r (none k) ≡ none 15 → r ≡ none 15
cleared zero r h e = sym (register-nil r h) ∙ e
cleared (suc k) r h e =
    let one = Dominant ∷ [] in
    let size : length (xor r (one ++ none 15)) ≡ 1 + 15 = ap length (xor_comm r (one ++ none 15)) ∙ length-xor (one ++ none 15) r (omega arith) in
    cleared-level r h (cleared k (register r one) (length-reduced 1 (xor r (one ++ none 15)) size) (sym (register-append r one (none k)) ∙ e))

-- a register goes on over fifteen levels as their sum with it goes on over dominant ones
register-sum : (r c : List Level) → length c ≡ 15 → register r c ≡ register (xor r c) (none 15)
register-sum r c size =
    let longer : c ++ none 15 ≡ xor c (none 30) = sym (xor_zeros_longer c 15) ∙ ap (λ n. xor c (none (n + 15))) size in
    ap (λ n. reduced n (xor r (c ++ none 15))) size ∙ ap (λ t. reduced 15 (xor r t)) longer ∙ ap (reduced 15) (sym (xor_assoc r c (none 30)))

-- The levels u end with the CRC sequence of those before it exactly if their own is all dominant.
module _ (u : List Level) (long : 15 ≤ length u) where
  fifteen : length (check_of u) ≡ 15
  fifteen = omega (arith, length-drop (length u - 15) u, long)

  check-goes_on : crc_of u ≡ register (xor (crc_of (head_of u)) (check_of u)) (none 15)
  check-goes_on =
      ap crc_of (sym (take-append-drop (length u - 15) u)) ∙ sym (register-crc_of (head_of u ++ check_of u)) ∙ register-append (none 15) (head_of u) (check_of u)
      ∙ ap (λ r. register r (check_of u)) (register-crc_of (head_of u)) ∙ register-sum (crc_of (head_of u)) (check_of u) fifteen

  IsCrc-cleared : crc_of u ≡ none 15 → IsCrc (head_of u) (check_of u)
  IsCrc-cleared clear =
      let a = crc_of (head_of u) in
      let c = check_of u in
      let a_size : length a ≡ 15 = length-crc_of (head_of u) in
      let sum_size : length (xor a c) ≡ 15 = length-xor a c (omega (arith, fifteen)) ∙ a_size in
      let none_left : xor a c ≡ none 15 = cleared 15 (xor a c) sum_size (sym check-goes_on ∙ clear) in
      let same : c ≡ a = sym (xor_twice c a (omega (arith, fifteen))) ∙ ap (λ t. xor t a) (xor_comm c a ∙ none_left) ∙ xor_comm (none 15) a ∙ xor_zeros a 15 (omega arith) in
      subst (IsCrc (head_of u)) (sym same) (IsCrc-crc_of (head_of u))

  IsCrc-clears : IsCrc (head_of u) (check_of u) → crc_of u ≡ none 15
  IsCrc-clears is =
      let a = crc_of (head_of u) in
      let nothing : register (none 15) (none 15) ≡ none 15 = refl in
      check-goes_on ∙ ap (λ t. register t (none 15)) (ap (xor a) (IsCrc-only (head_of u) (check_of u) is) ∙ xor_self a ∙ ap none (length-crc_of (head_of u))) ∙ nothing

  -- this for the number of their CRC sequence
  module _ (n : ℕ) (is : bits_of 15 n ≡ crc_of u) where
    pub IsCrc-zero : n ≡ 0 → IsCrc (head_of u) (check_of u)
    IsCrc-zero zero_is = IsCrc-cleared (sym is ∙ ap (bits_of 15) zero_is ∙ bits_of-none 15)

    pub zero-IsCrc : n < 2 ^ 15 → IsCrc (head_of u) (check_of u) → n ≡ 0
    zero-IsCrc small agrees = sym (number_from-whole 15 n small) ∙ ap (number_from 0) (is ∙ IsCrc-clears agrees)
