-- Which indices an index and a slice select in an array of a given length (RFC 9535, 2.3.3 and 2.3.4).
use Rattle.std.specs.Prelude.{ℕ, suc, ◌-◌, ◌%◌, ◌==◌, ◌&&◌, nat_le, nat_lt, min, ℤ, pos, negsuc, Bool, Option, Some, None, cond}

-- an index below zero counts from the end
abbrev pub place_of : ℤ → ℕ → Option ℕ
place_of (pos n) len = Some n
place_of (negsuc n) len = cond (nat_lt n len) (Some (len - suc n)) None

-- the bound, counted from the end if it is below zero, clamped to 0 and the length
abbrev pub clamped : ℤ → ℕ → ℕ
clamped (pos n) len = min n len
clamped (negsuc n) len = len - suc n

-- one more than the bound, which is clamped to -1 and the last index
abbrev pub clamped_after : ℤ → ℕ → ℕ
clamped_after (pos n) len = min (suc n) len
clamped_after (negsuc n) len = len - n

abbrev pub bound_or : (ℤ → ℕ → ℕ) → Option ℤ → ℕ → ℕ → ℕ
bound_or f (Some z) len d = f z len
bound_or f None len d = d

-- from the lower bound on, each index in steps, below the upper bound
abbrev pub is_up : ℕ → ℕ → ℕ → ℕ → Bool
is_up low high step i = nat_le low i && (nat_lt i high && (nat_lt 0 step && ((i - low) % step == 0)))

-- from the last index below the upper bound, each index in steps down to the lower bound
abbrev pub is_down : ℕ → ℕ → ℕ → ℕ → Bool
is_down low high step i = nat_le low i && (nat_lt i high && (nat_lt 0 step && (((high - 1) - i) % step == 0)))
