-- The definitions, computed on numbers worked out by hand.
use Rattle.std.proofs.Common.{◌≡◌, ℕ, [], ◌∷◌, map, refl, arith}
use Rattle.can_plan.specs.declared.message.Message.{Message}
use Rattle.can_plan.specs.Analysis.{Ranking, delayed}
use Rattle.can_plan.specs.Latest.{end_of, sum_of_parts}
use Rattle.can_plan.specs.Margins.{shorter}

-- ---- The third message of examples/networks/davis.toml: 122 bit times in every 427, below one of 122 in every 303 and one of 121 in
-- every 427. Nothing blocks it, and there are no hits.

abbrev message-of : ℕ → ℕ → Message
message-of longest period = record { field = []; longest = longest; period = period; jitter = 0 }

abbrev third : Ranking
third = record { higher = message-of 122 303 ∷ message-of 121 427 ∷ []; message = message-of 122 427; lower = [] }

-- its first frame waits for one frame of each: 122 + 121; and ends 119 later
first-delay : delayed (λ long. 0) third 0 243 ≡ 243
first-delay = refl

first-end : end_of third.message 0 243 ≡ 362
first-end = refl

-- the second waits for the first, for three of the first message and two of the second: 122 + 366 + 242, and for no less
second-delay : delayed (λ long. 0) third 1 730 ≡ 730
second-delay = refl

second-no-sooner : delayed (λ long. 0) third 1 729 ≡ 730
second-no-sooner = refl

-- it is released 427 after the first, so it ends 730 + 119 - 427 after its release
second-end : end_of third.message 1 730 ≡ 422
second-end = refl

-- 122 of its own, 366 + 242 of the others, and its wire of 119; less 427
second-parts : sum_of_parts third (record { number = 1; delay = 730; end = 422; earlier = 122; later = 427; hits = 0; hits_cost = 0; short = omega arith }) ≡ 422
second-parts = refl

-- ---- Periods that are shorter by 2 per cent: 303 · 98 / 100 = 296.94, and 427 · 98 / 100 = 418.46

-- 99 per cent of 50 bit times leave half a one: a whole one
shorter-most : (shorter 99 (message-of 122 50)).period ≡ 1
shorter-most = refl

abbrev sooner : Ranking
sooner = record { higher = map (shorter 2) third.higher; message = shorter 2 third.message; lower = [] }

-- the second frame of the third message waits equally long, and is released 418 after the first: it ends 431 after its release, and
-- misses a deadline of 427
sooner-delay : delayed (λ long. 0) sooner 1 730 ≡ 730
sooner-delay = refl

sooner-end : end_of sooner.message 1 730 ≡ 431
sooner-end = refl
