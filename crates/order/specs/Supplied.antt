-- The two orders that are supplied.
use Rattle.std.specs.Prelude.{ℕ, ◌+◌, Bool, true, ◌&&◌, ◌||◌, ◌==◌, nat_lt}
use Rattle.order.specs.Urgency.{Urgency}

-- the smaller mark first, equal marks to the lower task
abbrev pub earlier : ℕ → ℕ → ℕ → ℕ → Bool
earlier a t b u = nat_lt a b || (a == b && nat_lt t u)

-- the larger mark first, equal marks to the lower task
abbrev pub higher : ℕ → ℕ → ℕ → ℕ → Bool
higher a t b u = nat_lt b a || (a == b && nat_lt t u)

-- the parameter is the time from a release to its deadline, and the earliest deadline goes first
abbrev pub earliest_deadline : Urgency ℕ
earliest_deadline = record { fits = λ _. true; mark = λ parameter instant. instant + parameter; before = earlier }

-- the parameter is a level below 256, and the highest goes first
abbrev pub level : Urgency ℕ
level = record { fits = λ parameter. nat_lt parameter 256; mark = λ parameter _. parameter; before = higher }
