-- The law of the price, over whole prices, on the tick or not.
use Rattle.std.specs.Prelude.{◌≡◌, ℕ, ◌≤◌, List, ℤ}
use Rattle.orders.specs.declared.terms.Terms.{Terms}
use Rattle.pricing.specs.Answers.{surplus_at}
use Rattle.pricing.specs.Depth.{shares_at}
use Rattle.pricing.specs.declared.quote.Quote.{Quote}
use Rattle.pricing.specs.declared.trial.TrialPrice.{TrialPrice}
use Rattle.pricing.specs.declared.trial.TrialPrice.TheVariants.{Priced, Unpriced}

-- x is from bid to ask
abbrev pub Between : Quote → ℕ → Type 0
Between q x = (q.bid ≤ x) × (x ≤ q.ask)

-- some price from bid to ask trades at least one share
abbrev pub SomeTrades : Quote → List Terms → Type 0
SomeTrades q ts = (x : ℕ) × Between q x × (1 ≤ shares_at q ts x)

-- no price from bid to ask trades more shares than p
abbrev pub NoneMore : Quote → List Terms → ℕ → Type 0
NoneMore q ts p = (x : ℕ) → Between q x → shares_at q ts x ≤ shares_at q ts p

-- the price p, told with n shares and the surplus z
pub record FairPrice (q : Quote) (ts : List Terms) (p n : ℕ) (z : ℤ) : Type 0 where
  pub trades : SomeTrades q ts
  pub between : Between q p
  pub most : NoneMore q ts p
  pub shares : n ≡ shares_at q ts p
  pub surplus : z ≡ surplus_at q ts p

-- a price is given exactly when some price trades, and none trades more than the price given
abbrev pub Fair : Quote → List Terms → TrialPrice → Type 0
Fair q ts (Priced p n z stops) = FairPrice q ts p n z
Fair q ts (Unpriced stops) = SomeTrades q ts → ⊥
