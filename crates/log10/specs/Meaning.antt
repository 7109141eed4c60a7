-- The logarithm of document 01, module 3: "The greatest k with 10^k <= value", of the value raw / 2^F.
-- Assumes nothing.
use Rattle.std.specs.Prelude.{Bool, false, cond, ℕ, zero, suc, ◌*◌, ◌^◌, leb, ℤ, pos, negsuc}
use Rattle.std.proofs.Math.IntN.{pred_ℤ}
use Rattle.format.specs.Meaning.{Outcome, done, refused, unless, fault_of}

-- 10^k <= raw / 2^F, both sides as whole numbers: for k below 0 (`negsuc n` is -(n + 1)) the power stands with the raw
unfoldable pub reaches : ℕ → ℕ → ℤ → Bool
reaches raw f (pos n) = leb (10 ^ n * 2 ^ f) raw
reaches raw f (negsuc n) = leb (2 ^ f) (raw * 10 ^ suc n)

-- the first k that is reached, going down by one, n steps at most
unfoldable pub down_from : ℕ → ℕ → ℤ → ℕ → ℤ
down_from raw f k zero = k
down_from raw f k (suc n) = cond (reaches raw f k) k (down_from raw f (pred_ℤ k) n)

-- "The greatest k with 10^k <= value": from 19 down to -20, since no raw of
-- 64 bits reaches 10^20, and 2^-64 reaches 10^-20
unfoldable pub log10_of : ℕ → ℕ → ℤ
log10_of raw f = down_from raw f (pos 19) 39

-- "32: logarithm of zero or of a negative number"
unfoldable pub positive_only : ℤ → ℕ → Outcome
positive_only (pos zero) f = refused 32
positive_only (pos (suc n)) f = done (log10_of (suc n) f) false
positive_only (negsuc n) f = refused 32

-- the whole answer: "1, 2, .. in this order, .. then 30, 31, 32"
unfoldable pub log10_outcome : ℤ → ℕ → ℕ → Outcome
log10_outcome raw w f = unless (fault_of w f) (positive_only raw f)
