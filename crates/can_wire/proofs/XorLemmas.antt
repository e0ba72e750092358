-- Laws of `plus` and `xor`, the sums of bits and of lists of bits.
use Rattle.std.proofs.Common.{◌≡◌, ℕ, suc, zero, ◌+◌, ◌≤◌, List, [], ◌∷◌, ◌++◌, length, refl, sym, ◌∙◌, ap, arith, replicate}
use Rattle.can_frame.specs.declared.level.Level.{Level}
use Rattle.can_frame.specs.declared.level.Level.TheVariants.{Dominant, Recessive}
use Rattle.can_wire.specs.Crc.{plus, xor}

pub plus_comm : (x y : Level) → plus x y ≡ plus y x
plus_comm Dominant Dominant = refl
plus_comm Dominant Recessive = refl
plus_comm Recessive Dominant = refl
plus_comm Recessive Recessive = refl

pub plus_assoc : (x y z : Level) → plus (plus x y) z ≡ plus x (plus y z)
plus_assoc Dominant y z = refl
plus_assoc Recessive Dominant z = refl
plus_assoc Recessive Recessive Dominant = refl
plus_assoc Recessive Recessive Recessive = refl

pub plus_zero : (x : Level) → plus x Dominant ≡ x
plus_zero Dominant = refl
plus_zero Recessive = refl

pub plus_self : (x : Level) → plus x x ≡ Dominant
plus_self Dominant = refl
plus_self Recessive = refl

pub xor_nil : (l : List Level) → xor l [] ≡ l
xor_nil [] = refl
xor_nil (x ∷ l) = refl

pub xor_comm : (l m : List Level) → xor l m ≡ xor m l
xor_comm [] m = sym (xor_nil m)
xor_comm (x ∷ l) [] = refl
xor_comm (x ∷ l) (y ∷ m) = let h = plus_comm x y in let t = xor_comm l m in cc

pub xor_assoc : (l m k : List Level) → xor (xor l m) k ≡ xor l (xor m k)
xor_assoc [] m k = refl
xor_assoc (x ∷ l) [] k = refl
xor_assoc (x ∷ l) (y ∷ m) [] = refl
xor_assoc (x ∷ l) (y ∷ m) (z ∷ k) = let h = plus_assoc x y z in let t = xor_assoc l m k in cc

pub xor_zeros : (l : List Level) (n : ℕ) → n ≤ length l → xor l (replicate n Dominant) ≡ l
xor_zeros l zero h = xor_nil l
xor_zeros [] (suc n) h = absurd (omega arith)
xor_zeros (x ∷ l) (suc n) h = let e = plus_zero x in let t = xor_zeros l n (omega arith) in cc

-- a longer list of dominant bits lengthens a list
pub xor_zeros_longer : (l : List Level) (n : ℕ) → xor l (replicate (length l + n) Dominant) ≡ l ++ replicate n Dominant
xor_zeros_longer [] n = ap (λ k. replicate k Dominant) (let e : 0 + n ≡ n = omega arith in e)
xor_zeros_longer (x ∷ l) n =
    let e : suc (length l) + n ≡ suc (length l + n) = omega arith in
    let p = plus_zero x in
    let t = xor_zeros_longer l n in
    ap (λ k. xor (x ∷ l) (replicate k Dominant)) e ∙ cc

pub xor_self : (l : List Level) → xor l l ≡ replicate (length l) Dominant
xor_self [] = refl
xor_self (x ∷ l) = let e = plus_self x in let t = xor_self l in cc

-- the sum of sums, regrouped
pub xor_swap : (a b c d : List Level) → xor (xor a b) (xor c d) ≡ xor (xor a c) (xor b d)
xor_swap a b c d =
    xor_assoc a b (xor c d) ∙ ap (xor a) (sym (xor_assoc b c d) ∙ ap (λ t. xor t d) (xor_comm b c) ∙ xor_assoc c b d) ∙ sym (xor_assoc a c (xor b d))

pub length-xor : (l m : List Level) → length m ≤ length l → length (xor l m) ≡ length l
length-xor [] [] h = refl
length-xor [] (y ∷ m) h = absurd (omega arith)
length-xor (x ∷ l) [] h = refl
length-xor (x ∷ l) (y ∷ m) h = ap suc (length-xor l m (omega arith))

-- sums of fronts of one length
pub xor-append : (a b c d : List Level) → length a ≡ length b → xor (a ++ c) (b ++ d) ≡ xor a b ++ xor c d
xor-append [] [] c d h = refl
xor-append [] (y ∷ b) c d h = absurd (omega arith)
xor-append (x ∷ a) [] c d h = absurd (omega arith)
xor-append (x ∷ a) (y ∷ b) c d h = ap (λ t. plus x y ∷ t) (xor-append a b c d (omega arith))

-- dominant bits past the end of a summand change nothing
pub xor_padded : (l m : List Level) (n : ℕ) → length m + n ≤ length l → xor l (m ++ replicate n Dominant) ≡ xor l m
xor_padded l [] n h = xor_zeros l n (omega arith) ∙ sym (xor_nil l)
xor_padded [] (y ∷ m) n h = absurd (omega arith)
xor_padded (x ∷ l) (y ∷ m) n h = ap (λ t. plus x y ∷ t) (xor_padded l m n (omega arith))

-- a summand that comes twice falls away
pub xor_twice : (l m : List Level) → length m ≤ length l → xor (xor l m) m ≡ l
xor_twice l m h = xor_assoc l m m ∙ ap (xor l) (xor_self m) ∙ xor_zeros l (length m) h
