-- Which lengths may be the capacity of a store or a waiting line.
use Rattle.std.specs.Prelude.{ℕ, cond, ◌&&◌, Ok, Err, Result, nat_le}
use Rattle.orders.specs.declared.refusal.Refusal.{Refusal}
use Rattle.orders.specs.declared.refusal.Refusal.TheVariants.{Capacity}

-- 1 to 256 is a capacity
abbrev pub capacity_answer : ℕ → Result (Unit {0}) Refusal
capacity_answer n = cond (nat_le 1 n && nat_le n 256) (Ok tt) (Err Capacity)
