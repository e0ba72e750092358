-- Offers and hits as plain fields for C. (docs/BUS.md, "Disturbances" and "Frames offered while the bus runs")
use Rattle.std.specs.Prelude.{◌==◌, nat_lt, if◌then◌else◌, List, [], ◌∷◌, map, Option, Some, None}
use Rattle.std.specs.Option.{option_or}
use Rattle.can_terms.specs.declared.hit.Hit.{Hit}
use Rattle.can_terms.specs.declared.hit.Hit.TheVariants.{At, In, View}
use Rattle.can_bus.specs.declared.offer.Offer.{Offer}
use Rattle.can_c.specs.declared.inputs.PlainHit.{PlainHit}
use Rattle.can_c.specs.declared.inputs.PlainOffer.{PlainOffer}
use Rattle.can_c.specs.declared.status.Status.{Status}
use Rattle.can_c.specs.declared.status.Status.TheVariants.{BadKind}
use Rattle.can_c.specs.PlainFrames.{frame_of_plain, refusal}

-- the offer of plain fields
abbrev pub offer_of_plain : PlainOffer → Offer
offer_of_plain o = record { time = o.time; node = o.port; frame = frame_of_plain o.frame }

-- the offers of several
abbrev pub offers_of_plain : List PlainOffer → List Offer
offers_of_plain offers = map offer_of_plain offers

-- the hit of plain fields: its kind decides which fields are read
abbrev pub hit_of_plain : PlainHit → Hit
hit_of_plain h = if h.kind == 0 then At h.time else if h.kind == 1 then In h.attempt h.offset else View h.time h.port

-- the hits of several
abbrev pub hits_of_plain : List PlainHit → List Hit
hits_of_plain hits = map hit_of_plain hits

-- why plain fields are no hit: there are three kinds
abbrev pub kind_refusal : PlainHit → Option Status
kind_refusal h = if nat_lt 2 h.kind then Some BadKind else None

-- the first reason in a list
abbrev pub first_reason : {A : Type 0} → (A → Option Status) → List A → Option Status
first_reason why [] = None
first_reason why (x ∷ xs) = option_or (why x) (first_reason why xs)

-- why one of these frames is no frame, the first reason
abbrev pub offers_refusal : List PlainOffer → Option Status
offers_refusal offers = first_reason (λ (o : PlainOffer). refusal o.frame) offers

-- why one of these is no hit, the first reason
abbrev pub hits_refusal : List PlainHit → Option Status
hits_refusal hits = first_reason kind_refusal hits
