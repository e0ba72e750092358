-- Which controllers send a frame as it goes on, level by level.
use Rattle.std.proofs.Common.{◌≡◌, ◌≢◌, ℕ, ◌+◌, ◌<◌, ◌≤◌, Option, Some, None, [], ◌∷◌, length, take, refl, sym, ◌∙◌, ap, subst, arith, inl, inr}
use Rattle.std.proofs.lemmas.Bool.{cond-true, cond-false, cases_lt, cases_eq, false_from_ne_true, le-leb}
use Rattle.std.proofs.lemmas.List.{take-take, take-append-le, get_or-take}
use Rattle.std.specs.Cmp.Lexicographic.{pointwise, pointwise_decides}
use Rattle.std.specs.Prelude.{unwrap_or}
use Rattle.can_frame.specs.declared.level.Level.TheVariants.{Dominant, Recessive}
use Rattle.can_frame.specs.Levels.{same}
use Rattle.can_frame.specs.Arbitration.{arbitration_field, Before}
use Rattle.can_frame.specs.Parts.{Parts, IsFrame}
use Rattle.can_wire.specs.Stuffing.{stuffed}
use Rattle.can_wire.specs.Wire.{head, unstuffed, stuffed_part}
use Rattle.can_wire.specs.Layout.{level_at, rtr_place}
use Rattle.can_code.specs.Sending.{sent_level}
use Rattle.can_code.specs.Front.{first_front}
use Rattle.can_code.proofs.WireFronts.{front_at, front_at-heard, front_at-same, sent_next, sent_bit}
use Rattle.can_code.proofs.WireOrder.{FirstDifference, first_difference}
use Rattle.can_mac.specs.declared.phase.Role.{Role}
use Rattle.can_mac.specs.declared.phase.Role.TheVariants.{Receiver, Sender}
use Rattle.can_mac.specs.State.{IsFrameOrNone}
use Rattle.can_mac.specs.Machine.{part_drives}
use Rattle.can_mac.specs.Moves.{in_arbitration}
use Rattle.can_mac.specs.Frames.{with_intermission, role_at, GoesBehind, PartsAt}
use Rattle.can_mac.proofs.FrameEnds.{end_levels}
use Rattle.can_mac.proofs.FrameParts.{Takes, line-parts, line-early}
use Rattle.can_frame.proofs.LevelTests.{same-Decides}

-- a transmitter of g loses arbitration against f with the level after the first o
pub record Loses (f g : Parts) (o : ℕ) : Type 0 where
  pub low : level_at (stuffed_part f) o ≡ Dominant
  pub free : (front_at f o).run ≢ 5
  pub sent : sent_level g (length (front_at f o).unstuffed) ≡ Recessive
  pub within : length (front_at f o).unstuffed ≤ rtr_place g.id.extended
  pub was : role_at f (Some g) o ≡ Sender g
  pub is : role_at f (Some g) (o + 1) ≡ Receiver

module _ (f g : Parts) (o : ℕ) where
  role-alike : take o (with_intermission g) ≡ take o (with_intermission f) → role_at f (Some g) o ≡ Sender g
  role-alike alike = cond-true (pointwise same (take o (with_intermission g)) (take o (with_intermission f))) (Sender g) Receiver ((pointwise_decides same-Decides (take o (with_intermission g)) (take o (with_intermission f))).1 alike)

  role-apart : take o (with_intermission g) ≢ take o (with_intermission f) → role_at f (Some g) o ≡ Receiver
  role-apart apart =
      cond-false (pointwise same (take o (with_intermission g)) (take o (with_intermission f))) (Sender g) Receiver
      (false_from_ne_true _ (λ e. apart ((pointwise_decides same-Decides (take o (with_intermission g)) (take o (with_intermission f))).0 e)))

-- the transmitter of f
pub role-own : (f : Parts) (o : ℕ) → role_at f (Some f) o ≡ Sender f
role-own f o = role-alike f f o refl

-- f and g part at this place
module _ (f g : Parts) (place : ℕ) (parts : PartsAt f g place) where
  -- up to there g is sent
  pub role-together : (o : ℕ) → o ≤ place → role_at f (Some g) o ≡ Sender g
  role-together o within =
      role-alike f g o (sym (take-take o place (with_intermission g) within) ∙ ap (take o) parts.alike ∙ take-take o place (with_intermission f) within)

  pub level-together : (o : ℕ) → o < place → level_at (with_intermission g) o ≡ level_at (with_intermission f) o
  level-together o within =
      sym (get_or-take place (with_intermission g) o Dominant within) ∙ ap (λ l. level_at l o) parts.alike ∙ get_or-take place (with_intermission f) o Dominant within

  -- afterwards g is not sent
  pub role-parted : (o : ℕ) → place < o → role_at f (Some g) o ≡ Receiver
  role-parted o past = role-apart f g o (λ one.
      let low = parts.low in
      let high = parts.high in
      let both = sym (get_or-take o (with_intermission g) place Dominant past) ∙ ap (λ l. level_at l place) one ∙ get_or-take o (with_intermission f) place Dominant past in
      cc)

-- f and g differ after their first d levels
module _ (f g : Parts) (f_is : IsFrame f) (g_is : IsFrame g) (d : ℕ) (parts : FirstDifference f g d) where
  beginning : (h : Parts) → d < length (stuffed_part h) → take d (with_intermission h) ≡ take d (stuffed_part h)
  beginning h more = ap (take d) (line-parts h) ∙ take-append-le d (stuffed_part h) end_levels (omega arith)

  pub parts_at : PartsAt f g d
  parts_at =
      let more_f = parts.more_f in
      let within = parts.wins.within in
      record {
        alike = beginning g parts.more_g ∙ sym parts.same ∙ sym (beginning f more_f);
        low = line-early f d more_f ∙ parts.wins.low;
        high = line-early g d parts.more_g ∙ parts.wins.high;
        within = more_f;
        within_sent = parts.more_g;
        arbitration =
            ap (λ v. in_arbitration g (unwrap_or v first_front).unstuffed) (front_at-heard f f_is d parts.some (omega arith))
            ∙ le-leb (length (front_at f d).unstuffed) (rtr_place g.id.extended) within;
      }

  pub contender-early : (o : ℕ) → o ≤ d → role_at f (Some g) o ≡ Sender g
  contender-early o within = role-together f g d parts_at o within

  pub contender-late : (o : ℕ) → d < o → role_at f (Some g) o ≡ Receiver
  contender-late o past = role-parted f g d parts_at o past

  -- up to there they make one front
  pub contender-one : (o : ℕ) → o ≤ d → front_at f o ≡ front_at g o
  contender-one o within =
      front_at-same f g o (sym (take-take o d (stuffed_part f) within) ∙ ap (take o) parts.same ∙ take-take o d (stuffed_part g) within)

  -- before it the contender drives what the bus has
  pub contender-takes : (o : ℕ) → 0 < o → o < d → Takes (Sender g) (front_at f o) (level_at (stuffed_part f) o)
  contender-takes o some within =
      let more_g = parts.more_g in
      let same_level : level_at (stuffed_part g) o ≡ level_at (stuffed_part f) o =
      sym (get_or-take d (stuffed_part g) o Dominant within) ∙ ap (λ l. level_at l o) (sym parts.same) ∙ get_or-take d (stuffed_part f) o Dominant within in
      subst (λ v. Takes (Sender g) v (level_at (stuffed_part f) o)) (sym (contender-one o (omega arith))) (sym (sent_next g g_is o some (omega arith)) ∙ same_level)

  -- there it loses
  pub contender-loses : Loses f g d
  contender-loses =
      let one = contender-one d (omega arith) in
      let other : (front_at g d).run ≢ 5 = λ five. parts.wins.free (ap (λ v. v.run) one ∙ five) in
      record {
        low = parts.wins.low;
        free = parts.wins.free;
        sent = ap (λ v. sent_level g (length v.unstuffed)) one ∙ sym (sent_bit g g_is d parts.some parts.more_g other) ∙ parts.wins.high;
        within = parts.wins.within;
        was = contender-early d (omega arith);
        is = contender-late (d + 1) (omega arith);
      }

-- of two frames one of which is before the other there is such a place
pub parting : (f g : Parts) → IsFrame f → IsFrame g → Before (arbitration_field f) (arbitration_field g) → (place : ℕ) × PartsAt f g place
parting f g f_is g_is before =
    let first = first_difference f g f_is g_is before in
    (first.0, parts_at f g f_is g_is first.0 first.1)

-- what a controller is to the next level of the stuffed part of f: it stays what it is and takes the level, or it loses arbitration
pub data Standing (f : Parts) (waiting : Option Parts) (o : ℕ) : Type 0 where
  stays : role_at f waiting o ≡ role_at f waiting (o + 1) → Takes (role_at f waiting o) (front_at f o) (level_at (stuffed_part f) o) → Standing f waiting o
  loses : (g : Parts) → waiting ≡ Some g → Loses f g o → Standing f waiting o

stays-as : (f : Parts) (waiting : Option Parts) (o : ℕ) (role : Role) → role_at f waiting o ≡ role → role_at f waiting (o + 1) ≡ role
    → Takes role (front_at f o) (level_at (stuffed_part f) o) → Standing f waiting o
stays-as f waiting o role was is takes = stays (was ∙ sym is) (subst (λ r. Takes r (front_at f o) (level_at (stuffed_part f) o)) (sym was) takes)

own-standing : (f : Parts) → IsFrame f → (o : ℕ) → 0 < o → o < length (stuffed_part f) → Standing f (Some f) o
own-standing f is o some more = stays-as f (Some f) o (Sender f) (role-own f o) (role-own f (o + 1)) (sym (sent_next f is o some more))

pub standing : (f : Parts) (waiting : Option Parts) → IsFrame f → IsFrameOrNone waiting → GoesBehind f waiting → (o : ℕ) → 0 < o → o < length (stuffed_part f) → Standing f waiting o
standing f None f_is is behind o some more = stays refl tt
standing f (Some g) f_is is (inl own) o some more = subst (λ h. Standing f (Some h) o) (sym own) (own-standing f f_is o some more)
standing f (Some g) f_is g_is (inr before) o some more =
    let first = first_difference f g f_is g_is before in
    let d = first.0 in
    let parts = first.1 in
    elim (cases_lt o d) [
      | inl early ↦
          stays-as f (Some g) o (Sender g) (contender-early f g f_is g_is d parts o (omega (arith, early))) (contender-early f g f_is g_is d parts (o + 1) (omega (arith, early)))
          (contender-takes f g f_is g_is d parts o some early)
      | inr rest ↦ elim (cases_eq o d) [
        | inl here ↦ loses g refl (subst (Loses f g) (sym here) (contender-loses f g f_is g_is d parts))
        | inr later ↦
            let past : d < o = omega (arith, rest, later) in
            stays-as f (Some g) o Receiver (contender-late f g f_is g_is d parts o past) (contender-late f g f_is g_is d parts (o + 1) (omega arith)) tt
      ]
    ]

-- after the stuffed part only the transmitter of f is one
pub data Ending (f : Parts) (waiting : Option Parts) : Type 0 where
  receives : ((o : ℕ) → length (stuffed_part f) ≤ o → role_at f waiting o ≡ Receiver) → Ending f waiting
  sends : ((o : ℕ) → role_at f waiting o ≡ Sender f) → Ending f waiting

pub ending : (f : Parts) (waiting : Option Parts) → IsFrame f → IsFrameOrNone waiting → GoesBehind f waiting → Ending f waiting
ending f None f_is is behind = receives (λ o past. refl)
ending f (Some g) f_is is (inl own) = sends (λ o. subst (λ h. role_at f (Some h) o ≡ Sender f) (sym own) (role-own f o))
ending f (Some g) f_is g_is (inr before) =
    let first = first_difference f g f_is g_is before in
    let more = first.1.more_f in
    receives (λ o past. contender-late f g f_is g_is first.0 first.1 o (omega arith))

-- what a controller drives next of the stuffed part: it receives, or it sends a frame that has made the same front
pub data Driving (f : Parts) (waiting : Option Parts) (o : ℕ) : Type 0 where
  listens : role_at f waiting o ≡ Receiver → Driving f waiting o
  drives : (g : Parts) → role_at f waiting o ≡ Sender g → part_drives (Sender g) (front_at f o) ≡ level_at (stuffed_part g) o → o < length (stuffed_part g) → Driving f waiting o

own-driving : (f : Parts) → IsFrame f → (o : ℕ) → 0 < o → o < length (stuffed_part f) → Driving f (Some f) o
own-driving f is o some more = drives f (role-own f o) (sym (sent_next f is o some more)) more

pub driving : (f : Parts) (waiting : Option Parts) → IsFrame f → IsFrameOrNone waiting → GoesBehind f waiting → (o : ℕ) → 0 < o → o < length (stuffed_part f) → Driving f waiting o
driving f None f_is is behind o some more = listens refl
driving f (Some g) f_is is (inl own) o some more = subst (λ h. Driving f (Some h) o) (sym own) (own-driving f f_is o some more)
driving f (Some g) f_is g_is (inr before) o some more =
    let first = first_difference f g f_is g_is before in
    let d = first.0 in
    let parts = first.1 in
    let more_g = parts.more_g in
    elim (cases_lt d o) [
      | inl past ↦ listens (contender-late f g f_is g_is d parts o past)
      | inr within ↦
          let one = contender-one f g f_is g_is d parts o within in
          let more_here : o < length (stuffed_part g) = omega (arith, within, more_g) in
          drives g (contender-early f g f_is g_is d parts o within) (ap (part_drives (Sender g)) one ∙ sym (sent_next g g_is o some more_here)) more_here
    ]

line-first : (f : Parts) → take 1 (with_intermission f) ≡ Dominant ∷ []
unfolding stuffed_part unstuffed stuffed head
line-first f = refl

-- all transmitters start alike
pub role-start : (f g : Parts) → role_at f (Some g) 1 ≡ Sender g
role-start f g = role-alike f g 1 (line-first g ∙ sym (line-first f))

pub line-start : (f : Parts) → level_at (with_intermission f) 0 ≡ Dominant
unfolding stuffed_part unstuffed stuffed head
line-start f = refl
