-- The unstuffed levels of what is heard give it back.
use Rattle.std.proofs.Common.{◌≡◌, ℕ, ◌+◌, ◌-◌, ◌*◌, ◌/◌, ◌%◌, ◌^◌, ◌<◌, Bool, true, false, List, ◌++◌, length, refl, sym, ◌∙◌, ap, subst, arith, length-append}
use Rattle.std.specs.Prelude.{slice_index}
use Rattle.std.specs.List.{flat_map}
use Rattle.std.proofs.lemmas.List.{take_at, drop_at}
use Rattle.can_frame.specs.declared.level.Level.{Level}
use Rattle.can_frame.specs.declared.level.Level.TheVariants.{Dominant, Recessive}
use Rattle.can_frame.specs.Levels.{is_recessive, level_from, bits_of, number_from}
use Rattle.can_frame.specs.Ident.{IsIdent}
use Rattle.can_frame.specs.Parts.{Parts, IsFrame, byte_count}
use Rattle.can_wire.specs.Wire.{head}
use Rattle.can_wire.specs.Heard.{HeardParts, IsHeard, sent, heard_head}
use Rattle.can_wire.specs.Layout.{data_place, frame_len, IsComplete, bytes_from, frame_of, heard_of, check_of, head_of}
use Rattle.can_wire.proofs.LayoutNumbers.{number_from-whole, number_from-bits_of, number_from-append}
use Rattle.can_wire.proofs.LayoutBytes.{bytes_from-levels}
use Rattle.can_wire.proofs.LayoutHead.{heard_head-sent, IsHeard-sent, heard_head-start, length-heard_head}

-- what is heard, by its parts
heard : (raw : ℕ) (extended remote : Bool) (dlc : ℕ) (bytes : List ℕ) (srr r1 r0 : Level) (acked : Bool) (last : Level) → HeardParts
heard raw extended remote dlc bytes srr r1 r0 acked last =
    record { frame = record { id = record { raw = raw; extended = extended }; remote = remote; dlc = dlc; bytes = bytes }; srr = srr; r1 = r1; r0 = r0; acked = acked; last = last }

same_heard : (raw raw' : ℕ) (extended remote remote' : Bool) (dlc dlc' : ℕ) (bytes bytes' : List ℕ) (srr srr' r1 r1' r0 : Level) (acked : Bool) (last : Level)
    → raw ≡ raw' → remote ≡ remote' → dlc ≡ dlc' → bytes ≡ bytes' → srr ≡ srr' → r1 ≡ r1'
    → heard raw extended remote dlc bytes srr r1 r0 acked last ≡ heard raw' extended remote' dlc' bytes' srr' r1' r0 acked last
same_heard raw raw' extended remote remote' dlc dlc' bytes bytes' srr srr' r1 r1' r0 acked last p q r s t u = cc

pub bit_back : (b : Bool) → is_recessive (level_from b) ≡ b
bit_back true = refl
bit_back false = refl

-- an identifier of 29 bits is read in two parts
identifier_back : (raw : ℕ) → raw < 2 ^ 29 → number_from 0 (bits_of 11 (raw / 2 ^ 18) ++ bits_of 18 raw) ≡ raw
identifier_back raw range =
    let upper : raw / 2 ^ 18 < 2 ^ 11 = omega arith in
    let both : raw / 2 ^ 18 * 2 ^ 18 + raw % 2 ^ 18 ≡ raw = omega arith in
    number_from-append 0 (bits_of 11 (raw / 2 ^ 18)) (bits_of 18 raw)
    ∙ ap (λ n. number_from n (bits_of 18 raw)) (number_from-whole 11 (raw / 2 ^ 18) upper)
    ∙ number_from-bits_of 18 (raw / 2 ^ 18) raw
    ∙ both

module _ (raw : ℕ) (remote : Bool) (dlc : ℕ) (bytes : List ℕ) (srr r1 r0 : Level) (acked : Bool) (last : Level) (c : List Level)
    (dlc_below : dlc < 16) (count : length bytes ≡ byte_count remote dlc) (small : (k : ℕ) → slice_index bytes k < 256) where
  -- the data bytes, with the number that the DLC gives
  bytes_back : bytes_from (byte_count (is_recessive (level_from remote)) (number_from 0 (bits_of 4 dlc))) (flat_map (bits_of 8) bytes ++ c) ≡ bytes
  bytes_back =
      let told : byte_count (is_recessive (level_from remote)) (number_from 0 (bits_of 4 dlc)) ≡ length bytes =
      ap (λ r. byte_count r (number_from 0 (bits_of 4 dlc))) (bit_back remote) ∙ ap (byte_count remote) (number_from-whole 4 dlc dlc_below) ∙ sym count in
      ap (λ n. bytes_from n (flat_map (bits_of 8) bytes ++ c)) told ∙ bytes_from-levels bytes c small

  standard_back : raw < 2 ^ 11 → srr ≡ Recessive → r1 ≡ Dominant
      → heard_of (heard_head (heard raw false remote dlc bytes srr r1 r0 acked last) ++ c) acked last ≡ heard raw false remote dlc bytes srr r1 r0 acked last
  unfolding heard heard_head heard_of frame_of bits_of
  standard_back range srr_is r1_is =
      same_heard _ raw false _ remote _ dlc _ bytes _ srr _ r1 r0 acked last
      (number_from-whole 11 raw range) (bit_back remote) (number_from-whole 4 dlc dlc_below) bytes_back (sym srr_is) (sym r1_is)

  extended_back : raw < 2 ^ 29
      → heard_of (heard_head (heard raw true remote dlc bytes srr r1 r0 acked last) ++ c) acked last ≡ heard raw true remote dlc bytes srr r1 r0 acked last
  unfolding heard heard_head heard_of frame_of bits_of
  extended_back range =
      same_heard _ raw true _ remote _ dlc _ bytes _ srr _ r1 r0 acked last
      (identifier_back raw range) (bit_back remote) (number_from-whole 4 dlc dlc_below) bytes_back refl refl

-- a head gives back what is heard, whatever follows it
pub heard_of-heard_head : (h : HeardParts) (c : List Level) → IsHeard h → heard_of (heard_head h ++ c) h.acked h.last ≡ h
unfolding heard
heard_of-heard_head h c is = by_kind h.frame.id.extended is.frame.id is.srr is.r1
  where
    f : Parts
    f = h.frame

    by_kind : (extended : Bool) → IsIdent (record { raw = f.id.raw; extended = extended }) → (extended ≡ false → h.srr ≡ Recessive) → (extended ≡ false → h.r1 ≡ Dominant)
        → heard_of (heard_head (heard f.id.raw extended f.remote f.dlc f.bytes h.srr h.r1 h.r0 h.acked h.last) ++ c) h.acked h.last
        ≡ heard f.id.raw extended f.remote f.dlc f.bytes h.srr h.r1 h.r0 h.acked h.last
    by_kind false range srr r1 = standard_back f.id.raw f.remote f.dlc f.bytes h.srr h.r1 h.r0 h.acked h.last c is.frame.dlc is.frame.count is.frame.small range (srr refl) (r1 refl)
    by_kind true range srr r1 = extended_back f.id.raw f.remote f.dlc f.bytes h.srr h.r1 h.r0 h.acked h.last c is.frame.dlc is.frame.count is.frame.small range

-- levels begin with at most one head, if the ACK slot and the last level are given
pub heard_head-once : (h g : HeardParts) (c d : List Level) → IsHeard h → IsHeard g → h.acked ≡ g.acked → h.last ≡ g.last → heard_head h ++ c ≡ heard_head g ++ d → h ≡ g
heard_head-once h g c d h_is g_is acked last same =
    sym (heard_of-heard_head h c h_is)
    ∙ ap (λ t. heard_of t h.acked h.last) same
    ∙ ap (λ t. heard_of (heard_head g ++ d) t h.last) acked
    ∙ ap (heard_of (heard_head g ++ d) g.acked) last
    ∙ heard_of-heard_head g d g_is

-- the length that a frame's parts determine
length_of : Parts → ℕ
length_of f = data_place f.id.extended + 8 * byte_count f.remote f.dlc + 15

-- a head followed by any fifteen levels is complete
pub heard_head-complete : (h : HeardParts) (c : List Level) → IsHeard h → length c ≡ 15 → IsComplete (heard_head h ++ c)
unfolding frame_len frame_of heard_of length_of
heard_head-complete h c is fifteen =
    let told : frame_len (heard_head h ++ c) ≡ length_of h.frame = ap (λ t. length_of t.frame) (heard_of-heard_head h c is) in
    record { start = heard_head-start h c; whole = omega (arith, length-append (heard_head h) c, length-heard_head h, fifteen, is.frame.count, told) }

-- the sent head of a frame gives the frame back, whatever follows it
pub frame_of-head : (f : Parts) (c : List Level) → IsFrame f → frame_of (head f ++ c) ≡ f
unfolding heard_of
frame_of-head f c is =
    ap (λ t. frame_of (t ++ c)) (sym (heard_head-sent f)) ∙ ap (λ t. t.frame) (heard_of-heard_head (sent f) c (IsHeard-sent f is))

-- the head of a frame as sent, followed by any fifteen levels, is complete
pub head-complete : (f : Parts) (c : List Level) → IsFrame f → length c ≡ 15 → IsComplete (head f ++ c)
head-complete f c is fifteen = subst (λ t. IsComplete (t ++ c)) (heard_head-sent f) (heard_head-complete (sent f) c (IsHeard-sent f is) fifteen)

-- the fifteen levels after a list are its CRC sequence
pub check_of-append : (a c : List Level) → length c ≡ 15 → check_of (a ++ c) ≡ c
check_of-append a c fifteen =
    let size : length a ≡ length (a ++ c) - 15 = omega (arith, length-append a c) in
    drop_at a c (length (a ++ c) - 15) size

-- the list before fifteen levels is its head
pub head_of-append : (a c : List Level) → length c ≡ 15 → head_of (a ++ c) ≡ a
head_of-append a c fifteen =
    let size : length a ≡ length (a ++ c) - 15 = omega (arith, length-append a c) in
    take_at a c (length (a ++ c) - 15) size
