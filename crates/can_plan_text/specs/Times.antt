-- Times of a document as whole bit times: they are microseconds if there is a bit rate, in bits a second, otherwise bit times.
-- (docs/PLANNING.md, "`canplan`")
use Rattle.std.specs.Prelude.{ℕ, ◌+◌, ◌-◌, ◌*◌, ◌/◌, ◌==◌, if◌then◌else◌}

-- rounded down: periods, deadlines and the spacing of hits
abbrev pub bits_down : ℕ → ℕ → ℕ
bits_down rate time = if rate == 0 then time else time * rate / 1000000

-- rounded up: jitter
abbrev pub bits_up : ℕ → ℕ → ℕ
bits_up rate time = if rate == 0 then time else (time * rate + 999999) / 1000000

-- bit times as microseconds, if there is a bit rate, rounded down: slack and deadlines
abbrev pub time_down : ℕ → ℕ → ℕ
time_down rate bits = bits * 1000000 / rate

-- rounded up: bounds
abbrev pub time_up : ℕ → ℕ → ℕ
time_up rate bits = (bits * 1000000 + rate - 1) / rate
