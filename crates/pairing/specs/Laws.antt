-- What holds of the queues and the fills of every book.
use Rattle.std.specs.Prelude.{◌≡◌, ℕ, ◌≤◌, Bool, true, ◌⊎◌, List, [], ◌∷◌, ◌++◌, length, sum_by}
use Rattle.std.specs.List.{AllByRecursion}
use Rattle.std.specs.List.Sorted.{IsPermutation}
use Rattle.orders.specs.declared.terms.Side.{Side}
use Rattle.orders.specs.declared.terms.Terms.{Terms}
use Rattle.book.specs.Figures.{open_of}
use Rattle.pricing.specs.Depth.{shares_at}
use Rattle.pricing.specs.declared.quote.Quote.{Quote}
use Rattle.settling.specs.Fills.{traded_of}
use Rattle.settling.specs.declared.fill.Fill.{Fill}
use Rattle.pairing.specs.Pairs.{fills_at}
use Rattle.pairing.specs.Priority.{ahead}
use Rattle.pairing.specs.Queues.{trading_at, queue_at}
use Rattle.pairing.specs.declared.placed.Placed.{Placed}

-- each order is ahead of all behind it
abbrev pub InOrder : (Placed → Placed → Bool) → List Placed → Type 0
InOrder before [] = Unit {0}
InOrder before (a ∷ q) = AllByRecursion (λ b. before a b ≡ true) q × InOrder before q

-- of a queue in two parts, either nobody behind trades, or all in front are filled
abbrev pub InTurn : List Fill → List Placed → Type 0
InTurn fs q = (front behind : List Placed) → q ≡ front ++ behind → AllByRecursion (λ b. traded_of b.terms.number fs ≡ 0) behind ⊎ AllByRecursion (λ a. traded_of a.terms.number fs ≡ a.terms.quantity) front

-- a queue stands in the order of priority, holds just the orders that trade on the side at the price, and is served from the front
pub record ByPriority (q : Quote) (ts : List Terms) (p : ℕ) (side : Side) : Type 0 where
  pub in_order : InOrder (ahead side) (queue_at side p ts)
  pub just : IsPermutation (trading_at side p ts) (queue_at side p ts)
  pub in_turn : InTurn (fills_at q ts p) (queue_at side p ts)

abbrev pub shares_of : Fill → ℕ
shares_of f = f.quantity

-- the fills have the auction's shares in all, are no more than the orders, and trade no more for an order than it has open
pub record FillsAddUp (q : Quote) (ts : List Terms) (p : ℕ) : Type 0 where
  pub shares : sum_by shares_of (fills_at q ts p) ≡ shares_at q ts p
  pub few : length (fills_at q ts p) ≤ length ts
  pub each : (n : ℕ) → 1 ≤ n → traded_of n (fills_at q ts p) ≤ open_of n ts
