-- How a number is drawn.
use Rattle.std.specs.Prelude.{ℕ, ◌+◌, ◌*◌, ◌/◌, ◌%◌, ◌^◌, if◌then◌else◌, ◌==◌}

-- the state after a draw
abbrev pub next_state : ℕ → ℕ
next_state s = (s * 1664525 % 2 ^ 32 + 1013904223) % 2 ^ 32

-- the number below a limit that a state shows; 0 below 0
abbrev pub drawn : ℕ → ℕ → ℕ
drawn limit s = if limit == 0 then 0 else (s / 2 ^ 8) % limit
