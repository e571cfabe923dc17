-- What an auction keeps, number by number.
use Rattle.std.proofs.Common.{◌≡◌, ℕ, ◌+◌, ◌<◌, ◌≤◌, true, List, length, sum_by, sym, refl, ◌∙◌, arith}
use Rattle.orders.specs.declared.terms.Terms.{Terms}
use Rattle.book.specs.Figures.{open_of}
use Rattle.book.specs.Lists.{distinct}
use Rattle.pricing.specs.Answers.{trial_of}
use Rattle.pricing.specs.Law.{Fair}
use Rattle.pricing.specs.Stops.{after_stops}
use Rattle.pricing.specs.declared.quote.Quote.{Quote}
use Rattle.pricing.specs.declared.trial.TrialPrice.{TrialPrice}
use Rattle.pricing.specs.declared.trial.TrialPrice.TheVariants.{Priced, Unpriced}
use Rattle.settling.proofs.Keeping.{length_after_stops, open_after_stops, distinct_after_stops, fills_conserve, distinct_after_fills}
use Rattle.settling.specs.Fills.{traded_of}
use Rattle.pairing.proofs.Adding.{fills_sum, fills_few, traded_most}
use Rattle.pairing.specs.Laws.{shares_of}
use Rattle.auction.specs.Auctions.{fills_found, auction_under}
use Rattle.auction.specs.Laws.{shares_found, LawfulAuction}

-- no order trades more than it has open
found_most : (q : Quote) (ts : List Terms) (found : TrialPrice) → distinct ts ≡ true → (n : ℕ) → 1 ≤ n → traded_of n (fills_found q ts found) ≤ open_of n ts
found_most q ts (Priced p k z stops) d n h = traded_most q ts p d n h
found_most q ts (Unpriced stops) d n h = omega arith

pub auction_balance : (n : ℕ) → 1 ≤ n → (tick : ℕ) (q : Quote) (ts : List Terms) → distinct ts ≡ true → open_of n ts ≡ traded_of n (auction_under tick q ts).fills + open_of n (auction_under tick q ts).book
auction_balance n h tick q ts d =
    let us = after_stops q ts in
    let fs = fills_found q us (trial_of tick q ts) in
    let apart = distinct_after_stops q ts d in
    sym (open_after_stops q ts n d) ∙ (fills_conserve fs us apart).equal n (found_most q us (trial_of tick q ts) apart n h)

pub auction_distinct : (tick : ℕ) (q : Quote) (ts : List Terms) → distinct ts ≡ true → distinct (auction_under tick q ts).book ≡ true
auction_distinct tick q ts d = distinct_after_fills (fills_found q (after_stops q ts) (trial_of tick q ts)) (after_stops q ts) (distinct_after_stops q ts d)

-- the fills have the shares that were found, and are no more than the orders
found_sum : (q : Quote) (ts : List Terms) (found : TrialPrice) → Fair q ts found → sum_by shares_of (fills_found q ts found) ≡ shares_found found
found_sum q ts (Priced p n z stops) f = fills_sum q ts p ∙ sym f.shares
found_sum q ts (Unpriced stops) f = refl

pub found_few : (q : Quote) (ts : List Terms) (found : TrialPrice) → q.bid < q.ask → length (fills_found q ts found) ≤ length ts
found_few q ts (Priced p n z stops) h = fills_few q ts p h
found_few q ts (Unpriced stops) h = omega arith

pub lawful : (tick : ℕ) (q : Quote) (ts : List Terms) → q.bid < q.ask → distinct ts ≡ true → Fair q (after_stops q ts) (trial_of tick q ts) → LawfulAuction q ts (auction_under tick q ts)
lawful tick q ts h d f =
    record {
      fair = f;
      shares = found_sum q (after_stops q ts) (trial_of tick q ts) f;
      few = omega (arith, found_few q (after_stops q ts) (trial_of tick q ts) h, length_after_stops q ts);
      each = λ n some. auction_balance n some tick q ts d;
    }
