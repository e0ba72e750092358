-- Gates, read from their bytes.
use Rattle.std.proofs.Common.{◌≡◌, ℕ, zero, suc, ◌+◌, ◌-◌, ◌*◌, ◌/◌, ◌%◌, ◌^◌, ◌<◌, ◌≤◌, ◌⊎◌, inl, inr, Bool, true, false, List, [], ◌∷◌, ◌++◌, length, reverse, refl, sym, subst, ◌∙◌, ap, arith, append_assoc}
use Rattle.std.specs.List.{flat_map}
use Rattle.std.proofs.lemmas.Bool.{cases_lt, lt-ltb, le-ltb}
use Rattle.std.proofs.lemmas.List.{length-reverse, reverse-append}
use Rattle.can_gates.specs.declared.literal.Literal.{Literal}
use Rattle.can_gates.specs.declared.circuit.Gate.{Gate}
use Rattle.can_gates.specs.Circuit.{CircuitParts}
use Rattle.can_gates.specs.Words.{bit}
use Rattle.can_gates.specs.Aiger.{literal_code}
use Rattle.can_gates.specs.Ordered.{IsOrdered}
use Rattle.can_gates.specs.Binary.{groups, gate_bytes, number_in, literal_of, gates_in}

-- the numbers that fit into one group and n more
abbrev room : ℕ → ℕ
room zero = 128
room (suc more) = 128 * room more

groups_read : (more n : ℕ) (rest : List ℕ) → n < room more → number_in (groups more n ++ rest) ≡ (n, rest)
groups_read zero n rest small = let e : n % 128 ≡ n = omega (arith, small) in rw (lt-ltb (n % 128) 128 (omega arith)) (ap (λ k. (k, rest)) e)
groups_read (suc more) n rest small = by (cases_lt n 128) (λ fits. groups_read more (n / 128) rest fits)
  where
    by : (n < 128) ⊎ (128 ≤ n) → (n / 128 < room more → number_in (groups more (n / 128) ++ rest) ≡ (n / 128, rest)) → number_in (groups (suc more) n ++ rest) ≡ (n, rest)
    by (inl few) others = let e : n % 128 ≡ n = omega (arith, few) in rw (lt-ltb n 128 few, lt-ltb (n % 128) 128 (omega arith)) (ap (λ k. (k, rest)) e)
    by (inr many) others =
        let e : (128 + n % 128 - 128) + 128 * (n / 128) ≡ n = omega arith in
        let fits : n / 128 < room more = omega (arith, small) in
        rw (le-ltb n 128 many, le-ltb (128 + n % 128) 128 (omega arith), others fits) (ap (λ k. (k, rest)) e)

pub ten_groups : (n : ℕ) (rest : List ℕ) → n < 2 ^ 64 → number_in (groups 9 n ++ rest) ≡ (n, rest)
ten_groups n rest small = groups_read 9 n rest (omega (arith, small))

literal_back : (l : Literal) → literal_of (literal_code l) ≡ l
literal_back l = by l.negated
  where
    by : (b : Bool) → literal_of (2 * l.signal + bit b) ≡ record { signal = l.signal; negated = b }
    by true =
        let half : (2 * l.signal + 1) / 2 ≡ l.signal = omega arith in
        let odd : (2 * l.signal + 1) % 2 ≡ 1 = omega arith in rw (half, odd) refl
    by false =
        let half : (2 * l.signal + 0) / 2 ≡ l.signal = omega arith in
        let even : (2 * l.signal + 0) % 2 ≡ 0 = omega arith in rw (half, even) refl

pub bit-small : (b : Bool) → bit b ≤ 1
bit-small true = omega arith
bit-small false = omega arith

-- the next gate is one of this signal, with these differences of numbers
abbrev gate_with : ℕ → ℕ → ℕ → Gate
gate_with s first second = record { signal = s; left = literal_of (2 * s - first); right = literal_of (2 * s - first - second) }

-- if a number is read and then another, they are a gate
pair_read : (n s first second : ℕ) (bytes more rest : List ℕ) → number_in bytes ≡ (first, more) → number_in more ≡ (second, rest) → gates_in (suc n) s bytes ≡ gate_with s first second ∷ gates_in n (s + 1) rest
pair_read n s first second bytes more rest is behind = rw (is, behind) refl

gate_read : (n : ℕ) (g : Gate) (rest : List ℕ) → g.left.signal < g.signal → literal_code g.right ≤ literal_code g.left → g.signal < 2 ^ 32 → gates_in (suc n) g.signal (gate_bytes g ++ rest) ≡ g ∷ gates_in n (g.signal + 1) rest
gate_read n g rest lower order fits =
    let first = 2 * g.signal - literal_code g.left in
    let second = literal_code g.left - literal_code g.right in
    let left : 2 * g.signal - first ≡ literal_code g.left = omega (arith, lower, bit-small g.left.negated) in
    let right : 2 * g.signal - first - second ≡ literal_code g.right = omega (arith, left, order) in
    let begins : number_in (gate_bytes g ++ rest) ≡ (first, groups 9 second ++ rest) =
    ap number_in (append_assoc (groups 9 first) (groups 9 second) rest) ∙ ten_groups first (groups 9 second ++ rest) (omega (arith, fits)) in
    pair_read n g.signal first second (gate_bytes g ++ rest) (groups 9 second ++ rest) rest begins (ten_groups second rest (omega (arith, fits, lower, bit-small g.left.negated)))
    ∙ ap (λ (l : Literal). record { signal = g.signal; left = l; right = literal_of (2 * g.signal - first - second) } ∷ gates_in n (g.signal + 1) rest) (ap literal_of left ∙ literal_back g.left)
    ∙ ap (λ (r : Literal). record { signal = g.signal; left = g.left; right = r } ∷ gates_in n (g.signal + 1) rest) (ap literal_of right ∙ literal_back g.right)

-- gates of the signals from this one on
abbrev pub AreNumbered : ℕ → List Gate → Type 0
AreNumbered s [] = Unit {0}
AreNumbered s (g ∷ gates) = (g.signal ≡ s) × (g.left.signal < g.signal) × (literal_code g.right ≤ literal_code g.left) × (g.signal < 2 ^ 32) × AreNumbered (s + 1) gates

pub gates_read : (s : ℕ) (gates : List Gate) (behind : List ℕ) → AreNumbered s gates → gates_in (length gates) s (flat_map gate_bytes gates ++ behind) ≡ gates
gates_read s [] behind are = refl
gates_read s (g ∷ gates) behind are =
    let more : List ℕ = flat_map gate_bytes gates in
    let whole : gates_in (length (g ∷ gates)) g.signal (flat_map gate_bytes (g ∷ gates) ++ behind) ≡ g ∷ gates_in (length gates) (g.signal + 1) (more ++ behind) =
    ap (gates_in (length (g ∷ gates)) g.signal) (append_assoc (gate_bytes g) more behind) ∙ gate_read (length gates) g (more ++ behind) are.1 are.2 are.3 in
    subst (λ k. gates_in (length (g ∷ gates)) k (flat_map gate_bytes (g ∷ gates) ++ behind) ≡ g ∷ gates_in (length gates) (k + 1) (more ++ behind)) are.0 whole ∙ ap (λ l. g ∷ l) (gates_read (s + 1) gates behind are.4)

-- one more after them
numbered_more : (s : ℕ) (gates : List Gate) (g : Gate) → AreNumbered s gates → g.signal ≡ s + length gates → g.left.signal < g.signal → literal_code g.right ≤ literal_code g.left → g.signal < 2 ^ 32 → AreNumbered s (gates ++ g ∷ [])
numbered_more s [] g are is lower order fits = (omega (arith, is), lower, order, fits, tt)
numbered_more s (h ∷ gates) g are is lower order fits = (are.0, are.1, are.2, are.3, numbered_more (s + 1) gates g are.4 (omega (arith, is)) lower order fits)

count_of : (inputs highest : ℕ) (gates : List Gate) → IsOrdered inputs highest gates → highest ≡ inputs + length gates
count_of inputs highest [] ordered = omega (arith, ordered)
count_of inputs highest (g ∷ gates) ordered = omega (arith, ordered.0, ordered.4, count_of inputs ordered.3 gates ordered.5)

-- the order of a circuit's gates, the first one first
pub numbered : (inputs highest : ℕ) (gates : List Gate) → IsOrdered inputs highest gates → highest < 2 ^ 32 → AreNumbered (inputs + 1) (reverse gates)
numbered inputs highest [] ordered fits = tt
numbered inputs highest (g ∷ gates) ordered fits =
    let before : AreNumbered (inputs + 1) (reverse gates) = numbered inputs ordered.3 gates ordered.5 (omega (arith, fits, ordered.0, ordered.4)) in
    let is : g.signal ≡ inputs + 1 + length (reverse gates) = omega (arith, ordered.4, count_of inputs ordered.3 gates ordered.5, length-reverse gates) in
    subst (AreNumbered (inputs + 1)) (sym (reverse-append (g ∷ []) gates)) (numbered_more (inputs + 1) (reverse gates) g before is ordered.1 ordered.6 (omega (arith, fits, ordered.0)))

pub circuit_read : (c : CircuitParts) (behind : List ℕ) → IsOrdered c.inputs c.highest c.gates → c.highest < 2 ^ 32 → gates_in (length c.gates) (c.inputs + 1) (flat_map gate_bytes (reverse c.gates) ++ behind) ≡ reverse c.gates
circuit_read c behind ordered fits =
    ap (λ n. gates_in n (c.inputs + 1) (flat_map gate_bytes (reverse c.gates) ++ behind)) (sym (length-reverse c.gates)) ∙ gates_read (c.inputs + 1) (reverse c.gates) behind (numbered c.inputs c.highest c.gates ordered fits)

-- ---- what is written

-- if more than seven bits are left, the lowest seven are a group
pub group_more : (more n : ℕ) → 0 < more → 128 ≤ n → groups more n ≡ (128 + n % 128) ∷ groups (more - 1) (n / 128)
group_more zero n some many = absurd (omega (arith, some))
group_more (suc more) n some many = let e : suc more - 1 ≡ more = omega arith in rw (le-ltb n 128 many, e) refl

-- the last group
pub group_last : (more n : ℕ) → (more ≡ 0) ⊎ (n < 128) → groups more n ≡ n % 128 ∷ []
group_last zero n is = refl
group_last (suc more) n (inl none) = absurd (omega (arith, none))
group_last (suc more) n (inr few) = rw (lt-ltb n 128 few) refl
