-- The laws of the rounding: it keeps the order and the sign, and is the one whole number within half a step of p / 2^15 that is even at a tie.
-- Nothing above looks further into it. Assumes nothing.
use Rattle.std.specs.Prelude.{◌≡◌, ◌*◌, ◌%◌, ◌^◌, ◌≤◌, ℤ, pos, neg_ℤ, nat_abs, ◌-ℤ◌, ◌*ℤ◌, ◌≤ℤ◌}
use Rattle.filter.specs.Meaning.{rounded}
use Rattle.filter.specs.Rounding.{near-turned, rounded-is, near-mono, near-unique, near-gap, near-tie, gap-near}

pub rounded-mono : {a b : ℤ} → a ≤ℤ b → rounded a ≤ℤ rounded b
rounded-mono {a} {b} h = near-mono (rounded-is a) (rounded-is b) h

pub rounded-neg : (p : ℤ) → rounded (neg_ℤ p) ≡ neg_ℤ (rounded p)
rounded-neg p = near-unique (rounded-is (neg_ℤ p)) (near-turned p (rounded p) (rounded-is p))

pub rounded-near : (p : ℤ) → nat_abs (p -ℤ rounded p *ℤ pos (2 ^ 15)) * 2 ≤ 2 ^ 15
rounded-near p = near-gap p (rounded p) (rounded-is p)

pub rounded-tie : (p : ℤ) → nat_abs (p -ℤ rounded p *ℤ pos (2 ^ 15)) * 2 ≡ 2 ^ 15 → nat_abs (rounded p) % 2 ≡ 0
rounded-tie p t = near-tie p (rounded p) (rounded-is p) t

pub rounded-only : (p q : ℤ) → nat_abs (p -ℤ q *ℤ pos (2 ^ 15)) * 2 ≤ 2 ^ 15 → (nat_abs (p -ℤ q *ℤ pos (2 ^ 15)) * 2 ≡ 2 ^ 15 → nat_abs q % 2 ≡ 0)
    → q ≡ rounded p
rounded-only p q h t = near-unique (gap-near p q h t) (rounded-is p)
