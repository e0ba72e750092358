-- A receiver of an acknowledged frame of whose stuffed part one level is inverted.
use Rattle.std.proofs.Common.{◌≡◌, ◌+◌, ℕ, suc, ◌<◌, ◌≤◌, true, ◌&&◌, Option, List, [], ◌∷◌, ◌++◌, length, take, drop, reverse, get_or, not, refl, ◌∙◌, ap, subst, arith, inl, inr, append_assoc, length-append}
use Rattle.std.proofs.lemmas.Bool.{cases_lt, eq-eqb}
use Rattle.std.proofs.lemmas.List.{take_more, length-take-le, reverse-append}
use Rattle.can_frame.specs.declared.level.Level.{Level}
use Rattle.can_frame.specs.declared.level.Level.TheVariants.{Dominant, Recessive}
use Rattle.can_frame.specs.Levels.{same, is_recessive}
use Rattle.can_frame.specs.Parts.{Parts}
use Rattle.can_wire.specs.Heard.{HeardParts, ack_slot, Spells}
use Rattle.can_wire.specs.Wire.{tail}
use Rattle.can_wire.specs.Stuffing.{Stuffs}
use Rattle.can_wire.specs.Layout.{level_at, heard_of, IsPart}
use Rattle.can_wire.proofs.Runs.{first_run}
use Rattle.can_code.specs.Front.{FrontParts, is_stuff_error}
use Rattle.can_code.proofs.FrontsOf.{IsFrontOf}
use Rattle.can_terms.specs.declared.event.ErrorKind.TheVariants.{Stuff}
use Rattle.can_mac.specs.declared.phase.Overloads.{Overloads}
use Rattle.can_mac.specs.declared.phase.Phase.TheVariants.{StuffedPart}
use Rattle.can_mac.specs.State.{MacState}
use Rattle.can_mac.specs.Moves.{reading_of}
use Rattle.can_mac.proofs.PartEnds.{agrees-Decides}
use Rattle.can_detection.specs.WrongBit.{inverted_at, crc_delimiter}
use Rattle.can_detection.proofs.SixLevels.{five_at_end}
use Rattle.can_detection.proofs.Receivers.{Spells-unacknowledged}
use Rattle.can_signalling.specs.Signalling.{IsReady, IsSignalledIn, stuff}
use Rattle.can_signalling.proofs.FrameLevels.{others-size, others-first, others-slot, others-recessive}
use Rattle.can_signalling.proofs.Walks.{Listens}
use Rattle.can_signalling.proofs.Parts.{PartBy, stuff_error, ends, goes_on, part_by}
use Rattle.can_signalling.proofs.SpelledParts.{part-spells, part-whole}
use Rattle.can_signalling.proofs.AfterPart.{EndsFrame, stuff-step, signals, after-part}

abbrev five : List Level
five = Recessive ∷ Recessive ∷ Recessive ∷ Recessive ∷ Recessive ∷ []

-- a front after five recessive levels: a sixth is a stuff error
module _ (b : List Level) (f : FrontParts) (front : IsFrontOf (b ++ five) f) where
  turned : reverse (b ++ five) ≡ five ++ reverse b
  turned = reverse-append b five

  full_run : f.run ≡ 5
  full_run = omega (arith, front.front.short, front.ends.run_is, ap first_run turned)

  last_recessive : f.last ≡ Recessive
  last_recessive = front.ends.last_is ∙ ap (λ l. get_or l 0 f.last) turned

  sixth-error : is_stuff_error f Recessive ≡ true
  sixth-error = ap (λ t. t && same Recessive f.last) (eq-eqb f.run 5 full_run) ∙ ap (same Recessive) last_recessive

module _ (h : HeardParts) (w : List Level) (p : ℕ) (rest : List Level) (spelled : Spells h w) (acked : h.acked ≡ true) (some : 0 < p) (within : p < crc_delimiter w)
    (m : MacState) (waits : ℕ → Option Parts) (ready : IsReady m waits) where
  abbrev n : ℕ
  n = crc_delimiter w

  abbrev others : List Level
  others = inverted_at p w ++ rest

  abbrev Signalled : Type 0
  Signalled = (t : ℕ) × (t ≤ crc_delimiter w + 8) × IsSignalledIn m waits (inverted_at p w ++ rest) (crc_delimiter w) t

  room : n + 10 ≤ length others
  room = others-size h w p rest spelled acked some within

  frame : EndsFrame (crc_delimiter w) (inverted_at p w ++ rest)
  frame = record {
    size = others-size h w p rest spelled acked some within;
    acknowledged = others-slot h w p rest spelled acked some within;
    recessive = others-recessive h w p rest spelled acked some within;
  }

  -- five recessive levels end at the fourth bit of the end of frame
  five_end : take (n + 7) others ≡ take (n + 2) others ++ five
  five_end =
      more 6 7 (omega arith) (omega arith) (omega arith)
      ∙ ap (λ l. l ++ Recessive ∷ []) (more 5 6 (omega arith) (omega arith) (omega arith)
      ∙ ap (λ l. l ++ Recessive ∷ []) (more 4 5 (omega arith) (omega arith) (omega arith)
      ∙ ap (λ l. l ++ Recessive ∷ []) (more 3 4 (omega arith) (omega arith) (omega arith)
      ∙ ap (λ l. l ++ Recessive ∷ []) (more 2 3 (omega arith) (omega arith) (omega arith)))))
      ∙ joined (take (n + 2) others)
    where
      more : (i j : ℕ) → j ≡ i + 1 → 2 ≤ i → i ≤ 8 → take (n + j) others ≡ take (n + i) others ++ Recessive ∷ []
      more i j one from to =
          let next : n + j ≡ n + i + 1 = omega (arith, one) in
          ap (λ k. take k others) next ∙ take_more others (n + i) Dominant (omega (arith, to, room)) ∙ ap (λ x. take (n + i) others ++ x ∷ []) (frame.recessive (n + i) (omega (arith, from)) (omega (arith, to)))

      joined : (b : List Level) → ((((b ++ Recessive ∷ []) ++ Recessive ∷ []) ++ Recessive ∷ []) ++ Recessive ∷ []) ++ Recessive ∷ [] ≡ b ++ five
      joined b =
          append_assoc (((b ++ Recessive ∷ []) ++ Recessive ∷ []) ++ Recessive ∷ []) (Recessive ∷ []) (Recessive ∷ [])
          ∙ append_assoc ((b ++ Recessive ∷ []) ++ Recessive ∷ []) (Recessive ∷ []) (Recessive ∷ Recessive ∷ [])
          ∙ append_assoc (b ++ Recessive ∷ []) (Recessive ∷ []) (Recessive ∷ Recessive ∷ Recessive ∷ [])
          ∙ append_assoc b (Recessive ∷ []) (Recessive ∷ Recessive ∷ Recessive ∷ Recessive ∷ [])

  -- a stuff error
  stuff_signals : (t : ℕ) (f : FrontParts) → t ≤ n + 7 → Listens m waits others t (StuffedPart f) → is_stuff_error f (level_at others t) ≡ true → Signalled
  stuff_signals t f by_then listens error =
      let o : Overloads = record { pending = m.overloads.pending; used = 0 } in
      signals m waits others ready n frame 0 t (StuffedPart f) m.counters (listens 0) (λ v. refl) (level_at others t) Stuff (omega (arith, by_then)) refl
      (stuff-step o m.counters ready.active (waits t) f (level_at others t) error) (stuff by_then)

  -- no frame that a receiver accepts ends as early as this one
  not_accepted : (k : ℕ) (u : List Level) → IsPart u (take k others) → (reading_of u).agrees ≡ true → k ≤ n → level_at others k ≡ Recessive
      → ((i : ℕ) → i < 7 → level_at others (k + 2 + i) ≡ Recessive) → ⊥
  not_accepted k u part agreed early delimiter recessive =
      let is_crc = (agrees-Decides u).0 agreed in
      let long : k + 10 ≤ length others = omega (arith, room, early) in
      let read = part-spells u others k part is_crc long delimiter recessive in
      let whole = part-whole u others k part is_crc long delimiter recessive in
      let ack = level_at others (k + 1) in
      let last = level_at others (k + 9) in
      let ten = tail (ack_slot (not (is_recessive ack))) last in
      let v = take k others ++ ten in
      let longer = (Spells-unacknowledged h w p rest spelled acked some within (heard_of u (not (is_recessive ack)) last) v (drop (k + 10) others) read whole).1 in
      let size : length v ≡ k + 10 = omega (arith, length-append (take k others) ten, length-take-le k others (omega (arith, long))) in
      omega (arith, longer, size, early)

  pub receiver-signals : (t : ℕ) × (t ≤ crc_delimiter w + 8) × IsSignalledIn m waits (inverted_at p w ++ rest) (crc_delimiter w) t
  receiver-signals = by_part (part_by m waits others ready (others-first h w p rest spelled acked some within) (n + 6) (omega (arith, room)))
    where
      seven : suc (n + 6) ≡ n + 7
      seven = omega arith

      by_part : PartBy m waits others (suc (n + 6)) → Signalled
      by_part (stuff_error t f before listens error) = stuff_signals t f (omega (arith, before)) listens error
      by_part (ends k u by_then listens part) = elim (cases_lt k (suc (n + 6))) [
        | inl early ↦ after-part m waits others ready n frame k (reading_of u) (omega (arith, early)) listens (not_accepted k u part)
        | inr last ↦
            let same : k ≡ n + 7 = omega (arith, last, by_then) in
            absurd (five_at_end u (take (n + 2) others) (subst (Stuffs u) (ap (λ q. take q others) same ∙ five_end) part.stuffs))
      ]
      by_part (goes_on f listens front going) =
          let error : is_stuff_error f (level_at others (suc (n + 6))) ≡ true =
          ap (λ x. is_stuff_error f x) (frame.recessive (suc (n + 6)) (omega arith) (omega arith))
          ∙ sixth-error (take (n + 2) others) f (subst (λ l. IsFrontOf l f) (ap (λ q. take q others) seven ∙ five_end) front) in
          stuff_signals (suc (n + 6)) f (omega arith) listens error
