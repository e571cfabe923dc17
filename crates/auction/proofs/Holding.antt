-- The steps of an auction, put together.
use Rattle.std.proofs.Common.{◌≡◌, ℕ, ◌-◌, ◌<◌, true, List, length, take, drop, ap, ◌∙◌, subst, arith}
use Rattle.std.proofs.lemmas.List.{take_at}
use Rattle.orders.specs.declared.terms.Terms.{Terms}
use Rattle.book.specs.Lists.{distinct}
use Rattle.pricing.specs.Answers.{trial_of}
use Rattle.pricing.specs.Law.{Fair}
use Rattle.pricing.specs.Stops.{after_stops}
use Rattle.pricing.specs.declared.quote.Quote.{Quote}
use Rattle.pricing.specs.declared.trial.TrialPrice.{TrialPrice}
use Rattle.settling.specs.Fills.{after_fills}
use Rattle.settling.specs.declared.fill.Fill.{Fill}
use Rattle.pairing.specs.Answers.{in_front}
use Rattle.auction.proofs.Balancing.{lawful}
use Rattle.auction.specs.Auctions.{fills_found, auction_under}
use Rattle.auction.specs.Steps.{FilledAt, Ran}

-- the fills in front of an array
front : (fs gs entries : List Fill) (n : ℕ) → n ≡ length fs → gs ≡ in_front fs entries → take (n - 0) gs ≡ fs
front fs gs entries n e h = let k : length fs ≡ n - 0 = omega arith in ap (take (n - 0)) h ∙ take_at fs (drop (length fs) entries) (n - 0) k

pub ran : (tick : ℕ) (q r : Quote) {room room₁ room₂ : ℕ} (ts : List Terms) {us vs : List Terms} {found : TrialPrice} {entries gs : List Fill} {n : ℕ} →
    q.bid < q.ask → distinct ts ≡ true →
    found ≡ trial_of tick q ts → Fair q (after_stops q ts) found →
    r ≡ q → us ≡ after_stops r ts → room₁ ≡ room →
    FilledAt q us found entries n gs →
    vs ≡ after_fills (take (n - 0) gs) us → room₂ ≡ room₁ →
    Ran tick q room ts entries (record { found = found; fills = n }) room₂ vs gs
ran tick q r {room} {room₁} {room₂} ts {us} {vs} {found} {entries} {gs} {n} h d e f same moved s₁ filled settled s₂ =
    let u : us ≡ after_stops q ts = moved ∙ ap (λ x. after_stops x ts) same in
    let a = auction_under tick q ts in
    let fs : fills_found q us found ≡ a.fills = (λ i. fills_found q (u i) (e i)) in
    let g : gs ≡ in_front a.fills entries = filled.fills ∙ ap (λ l. in_front l entries) fs in
    let k : n ≡ length a.fills = filled.value ∙ ap length fs in
    record {
      value = (λ i. record { found = e i; fills = k i });
      book = settled ∙ (λ i. after_fills (front a.fills gs entries n k g i) (u i));
      fills = g;
      same = s₂ ∙ s₁;
      lawful = lawful tick q ts h d (subst (Fair q (after_stops q ts)) e f);
    }
