-- Hand-computed test vectors for the times of a worst case's offers.
use Rattle.std.proofs.Common.{◌≡◌, ℕ, [], ◌∷◌, refl}
use Rattle.can_plan.specs.declared.message.Message.{Message}
use Rattle.can_plan_text.specs.Worst.{offer_times}

-- of each message its period and its jitter
abbrev message-of : ℕ → ℕ → Message
message-of period jitter = record { field = []; longest = 1000; period = period; jitter = jitter }

-- within 7000 bit times there are three periods of 2500, and two of 3500
three-periods : offer_times 7000 (message-of 2500 0) ≡ 1 ∷ 2501 ∷ 5001 ∷ []
three-periods = refl

two-periods : offer_times 7000 (message-of 3500 0) ≡ 1 ∷ 3501 ∷ []
two-periods = refl

-- within 7001 there are three
one-more : offer_times 7001 (message-of 3500 0) ≡ 1 ∷ 3501 ∷ 7001 ∷ []
one-more = refl

-- the second frame is offered when it is released, the first was offered with jitter: 50 bit times lie between them
late-first : offer_times 259 (message-of 1000 950) ≡ 1 ∷ 51 ∷ []
late-first = refl

-- with a jitter above two periods three frames are offered together
together : offer_times 100 (message-of 1000 2300) ≡ 1 ∷ 1 ∷ 1 ∷ []
together = refl
