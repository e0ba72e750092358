-- The cyclic redundancy check, defined by divisibility. Lists of levels are polynomials over two elements,
-- the highest term first. (Bosch CAN 2.0 part B, section 3.2.1)
use Rattle.std.specs.Prelude.{ℕ, zero, suc, ◌≡◌, List, [], ◌∷◌, ◌++◌, length, replicate}
use Rattle.can_frame.specs.declared.level.Level.{Level}
use Rattle.can_frame.specs.declared.level.Level.TheVariants.{Dominant, Recessive}

-- the sum of two bits
abbrev pub plus : Level → Level → Level
plus Dominant y = y
plus Recessive Dominant = Recessive
plus Recessive Recessive = Dominant

-- the bitwise sum, aligned at the first level; past the end of the shorter list the longer one is unchanged
abbrev pub xor : List Level → List Level → List Level
xor [] ys = ys
xor (x ∷ xs) [] = x ∷ xs
xor (x ∷ xs) (y ∷ ys) = plus x y ∷ xor xs ys

-- x^14 + x^10 + x^8 + x^7 + x^4 + x^3 + 1
abbrev pub lower_terms : List Level
lower_terms =
    Recessive ∷ Dominant ∷ Dominant ∷ Dominant ∷ Recessive ∷ Dominant ∷ Recessive ∷ Recessive
    ∷ Dominant ∷ Dominant ∷ Recessive ∷ Recessive ∷ Dominant ∷ Dominant ∷ Recessive ∷ []

-- x^15 + x^14 + x^10 + x^8 + x^7 + x^4 + x^3 + 1, 1100010110011001
abbrev pub generator : List Level
generator = Recessive ∷ lower_terms

-- the generator with i dominant bits before it and j after it
abbrev pub shifted : ℕ → ℕ → List Level
shifted i j = replicate i Dominant ++ (generator ++ replicate j Dominant)

-- the lists that the generator divides: the smallest set that contains each list of dominant bits and, with
-- each list, its sum with a shifted generator of the same length
pub data Multiple : List Level → Type 0 where
  zeros : (n : ℕ) → Multiple (replicate n Dominant)
  sum : (l : List Level) (i j : ℕ) → Multiple l → length (shifted i j) ≡ length l → Multiple (xor l (shifted i j))

-- c is the CRC sequence of b: the fifteen bits that, appended to b, make a list that the generator divides
pub record IsCrc (b c : List Level) : Type 0 where
  pub length : length c ≡ 15
  pub divides : Multiple (b ++ c)

-- the generator's lower terms if the level is recessive, otherwise zeros
abbrev pub scaled : Level → List Level
scaled Dominant = replicate 15 Dominant
scaled Recessive = lower_terms

-- long division: the remainder after the first n terms are divided out
abbrev pub reduced : ℕ → List Level → List Level
reduced zero l = l
reduced (suc n) [] = []
reduced (suc n) (x ∷ l) = reduced n (xor l (scaled x))

-- the CRC sequence, computed: the remainder of the long division of b followed by fifteen zeros
unfoldable pub crc_of : List Level → List Level
crc_of b = reduced (length b) (b ++ replicate 15 Dominant)
