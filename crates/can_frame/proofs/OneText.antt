-- Two frames with one text are equal.
use Rattle.std.proofs.Common.{◌≡◌, ℕ, Bool, true, false, List, [], ◌++◌, length, ◌≤◌, Result, Ok, refl, sym, ◌∙◌, ap, subst}
use Rattle.std.proofs.lemmas.List.{append_cancel_left, append-nil, nil_from_length}
use Rattle.can_frame.specs.Ident.{Ident}
use Rattle.can_frame.specs.Parts.{Parts, IsFrame, byte_count}
use Rattle.can_frame.specs.Text.{frame_text, letter_part, identifier_part, direction_part, dlc_part, data_part}
use Rattle.can_frame.specs.TextParts.{letter_spelling, identifier_spelling, dlc_spelling}
use Rattle.can_frame.specs.declared.text.TextFault.{TextFault}
use Rattle.can_frame.proofs.PartsTold.{letter_part_is, letter_part_told, identifier_part_told, direction_part_is, direction_part_told, dlc_part_is, decimal_told, dlc_told, data_told}
use Rattle.can_frame.proofs.TextStages.{after_letter, after_identifier, after_direction}
use Rattle.can_frame.proofs.TextEnds.{Ended, remote_end, remote_has_none, text_whole}

-- what follows equal fronts of equal lists
after_same : (v w x y : List ℕ) → v ≡ w → v ++ x ≡ w ++ y → x ≡ y
after_same v w x y e h = append_cancel_left w x y (ap (λ t. t ++ x) (sym e) ∙ h)

module _ (f g : Parts) (hf : IsFrame f) (hg : IsFrame g) where
  same_identifier : letter_part f ++ after_letter f ≡ letter_part g ++ after_letter g
      → (f.id ≡ g.id) × (after_identifier f ≡ after_identifier g)
  same_identifier e =
      let kind = letter_part_told f g.id.extended (after_letter f) (after_letter g) (e
      ∙ ap (λ t. t ++ after_letter g) (letter_part_is g)) in
      let letters : letter_part f ≡ letter_part g = letter_part_is f ∙ ap (letter_spelling 83 69) kind
      ∙ sym (letter_part_is g) in
      let after = after_same (letter_part f) (letter_part g) (after_letter f) (after_letter g) letters e in
      let id = identifier_part_told f g.id.extended g.id.raw (after_identifier f) (after_identifier g) hf.id hg.id kind after in
      let parts : identifier_part f ≡ identifier_part g = ap (λ (i : Ident). identifier_spelling i.extended i.raw) id in
      (id, after_same (identifier_part f) (identifier_part g) (after_identifier f) (after_identifier g) parts after)

  same_direction : after_identifier f ≡ after_identifier g → (f.remote ≡ g.remote) × (after_direction f ≡ after_direction g)
  same_direction e =
      let remote = direction_part_told f g.remote (after_direction f) (after_direction g) (e
      ∙ ap (λ t. t ++ after_direction g) (direction_part_is g)) in
      let letters : direction_part f ≡ direction_part g = direction_part_is f ∙ ap (letter_spelling 68 82) remote
      ∙ sym (direction_part_is g) in
      (remote, after_same (direction_part f) (direction_part g) (after_direction f) (after_direction g) letters e)

  same_end : (r : Bool) → f.remote ≡ r → g.remote ≡ r → after_direction f ≡ after_direction g
      → (f.dlc ≡ g.dlc) × (f.bytes ≡ g.bytes)
  same_end true rf rg e = (
    decimal_told f.dlc g.dlc hf.dlc hg.dlc (sym (remote_end f hf rf) ∙ e ∙ remote_end g hg rg),
    nil_from_length f.bytes (remote_has_none f hf rf) ∙ sym (nil_from_length g.bytes (remote_has_none g hg rg)),
  )
  same_end false rf rg e =
      let part_f : dlc_part f ≡ dlc_spelling false f.dlc = dlc_part_is f hf ∙ ap (λ c. dlc_spelling c f.dlc) rf in
      let part_g : dlc_part g ≡ dlc_spelling false g.dlc = dlc_part_is g hg ∙ ap (λ c. dlc_spelling c g.dlc) rg in
      let dlc = dlc_told f.dlc g.dlc (data_part f) (data_part g) hf.dlc hg.dlc (ap (λ t. t ++ data_part f) (sym part_f)
      ∙ e ∙ ap (λ t. t ++ data_part g) part_g) in
      let after = after_same (dlc_part f) (dlc_part g) (data_part f) (data_part g) (part_f ∙ ap (dlc_spelling false) dlc
      ∙ sym part_g) e in
      let size : length f.bytes ≡ length g.bytes =
      hf.count ∙ ap (λ c. byte_count c f.dlc) (rf ∙ sym rg) ∙ ap (byte_count g.remote) dlc ∙ sym hg.count in (
        dlc,
        data_told f.bytes g.bytes [] [] hf.small hg.small size (append-nil (data_part f) ∙ after
            ∙ sym (append-nil (data_part g))),
      )

  pub same_frame : frame_text f ≡ frame_text g → f ≡ g
  unfolding frame_text
  same_frame e =
      let id = same_identifier e in
      let remote = same_direction id.1 in
      let rest = same_end g.remote remote.0 refl remote.1 in
      λ i. record { id = id.0 i; remote = remote.0 i; dlc = rest.0 i; bytes = rest.1 i }

-- a result that accepts a whole text meets the contract
pub accepted : (text : List ℕ) (end : ℕ) (f : Parts) → Ended text end f → length text ≤ end → (given : Parts) → given ≡ f
    → record {
      found : IsFrame given × (frame_text given ≡ text);
      only : (g : Parts) → IsFrame g → frame_text g ≡ text
          → ◌≡◌ {A = Result Parts TextFault} (Ok given) (Ok g);
      fault : Unit {0};
    }
accepted text end f e none given same =
    let whole = text_whole text end f e none in
    record {
      found = (subst IsFrame (sym same) e.frame, ap frame_text same ∙ whole);
      only = λ g h it. ap Ok (same ∙ same_frame f g e.frame h (whole ∙ sym it));
      fault = tt;
    }
