-- Hand-computed test vectors.
use Rattle.std.proofs.Common.{◌≡◌, ℕ, List, [], ◌∷◌, map, refl}
use Rattle.std.specs.Prelude.{count_by, not}
use Rattle.std.specs.List.{range_with_len}
use Rattle.can_terms.specs.declared.transcript.Transcript.{Transcript}
use Rattle.kit_documents.specs.declared.transcripts.told.Told.{Told}
use Rattle.canhold_commands.specs.Judgements.{has_one}

-- this transcript for the case at each of these places
abbrev all_told : Transcript → List ℕ → List Told
all_told transcript places = map (λ place. record { case = place; transcript = transcript }) places

-- the number of cases without a transcript then
abbrev without : Transcript → List ℕ → ℕ → ℕ
without transcript places cases = count_by (λ place. not (has_one (all_told transcript places) place)) (range_with_len 0 cases)

-- of four cases the third and the first have one, in this order
two_of_four : (transcript : Transcript) → without transcript (2 ∷ 0 ∷ []) 4 ≡ 2
two_of_four transcript = refl

-- each has one
none_of_three : (transcript : Transcript) → without transcript (0 ∷ 1 ∷ 2 ∷ []) 3 ≡ 0
none_of_three transcript = refl

-- none has
all_of_three : (transcript : Transcript) → without transcript [] 3 ≡ 3
all_of_three transcript = refl

-- there is no case
no_case : (transcript : Transcript) → without transcript [] 0 ≡ 0
no_case transcript = refl
