-- The fills: the first unfilled buy with the first unfilled sell, each pair by the smaller rest.
use Rattle.std.specs.Prelude.{ℕ, ◌-◌, cond, List, [], ◌∷◌, ◌++◌, ◌==◌, nat_le}
use Rattle.orders.specs.declared.terms.Side.TheVariants.{Buy, Sell}
use Rattle.orders.specs.declared.terms.Terms.{Terms}
use Rattle.pricing.specs.declared.quote.Quote.{Quote}
use Rattle.settling.specs.declared.fill.Fill.{Fill}
use Rattle.pairing.specs.Queues.{interests_at}
use Rattle.pairing.specs.declared.interest.Interest.{Interest}

-- the fills of one buyer, and the sells that are left
pub record Served : Type 0 where
  pub fills : List Fill
  pub left : List Interest

abbrev pub a_fill : ℕ → ℕ → ℕ → ℕ → Fill
a_fill price buyer seller quantity = record { buyer = buyer; seller = seller; price = price; quantity = quantity }

-- a buyer who wants r more shares is paired with one sell after the other
abbrev pub served : ℕ → ℕ → ℕ → List Interest → Served
served p buyer r [] = record { fills = []; left = [] }
served p buyer r (s ∷ ss) =
    cond (r == 0) (record { fills = []; left = s ∷ ss })
    (cond (nat_le s.quantity r)
    (record {
      fills = a_fill p buyer s.number s.quantity ∷ (served p buyer (r - s.quantity) ss).fills;
      left = (served p buyer (r - s.quantity) ss).left;
    })
    (record {
      fills = a_fill p buyer s.number r ∷ [];
      left = record { number = s.number; quantity = s.quantity - r } ∷ ss;
    }))

-- the fills of all buyers at a price
abbrev pub paired : ℕ → List Interest → List Interest → List Fill
paired p [] ss = []
paired p (b ∷ bs) ss = (served p b.number b.quantity ss).fills ++ paired p bs (served p b.number b.quantity ss).left

-- the fills of an auction at a price
abbrev pub fills_at : Quote → List Terms → ℕ → List Fill
fills_at q ts p = paired p (interests_at q ts Buy p) (interests_at q ts Sell p)
