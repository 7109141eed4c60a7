-- The bytes of a number: the next one, behind or before those that are there, and the bytes in the other order. Assumes nothing.
use Rattle.std.specs.Prelude.{◌≡◌, take}
use Rattle.std.proofs.Math.Path.{refl, sym, ap, ap₂}
use Rattle.std.proofs.Common.{◌∙◌, mod-lt, lit<, pow-add, arith}
use mathlib.Core.List.{List, [], ◌∷◌, ◌++◌, reverse, reverse_aux}
use Prim.Native.Nat.{ℕ, zero, suc, ◌+◌, ◌*◌, ◌/◌, ◌%◌, ◌^◌, ◌≤◌, ◌<◌}
use Rattle.std.proofs.Math.Arith.{digits_div, digits_mod}
use Rattle.std.proofs.Math.Nat.{div-div-eq-div-mul, div-one, pow-succ'}
use Rattle.byte_order.specs.Meaning.{le_bytes, from_be}

-- i bytes make a number below 2^(8 i)
pub below_next : (r i b : ℕ) → r < 2 ^ (8 * i) → b < 256 → r * 256 + b < 2 ^ (8 * (i + 1))
below_next r i b h k =
    let s : 8 * (i + 1) ≡ 8 * i + 8 = omega arith in
    let e : 2 ^ (8 * (i + 1)) ≡ 2 ^ (8 * i) * 256 = ap (λ (j : ℕ). 2 ^ j) s ∙ pow-add 2 (8 * i) 8 in
    omega arith

-- past n bytes lies the number over 256^n
pub bytes_past : (n x : ℕ) → x / 256 / 256 ^ n ≡ x / 256 ^ suc n
bytes_past n x = div-div-eq-div-mul x 256 (256 ^ n) ∙ ap (λ (p : ℕ). x / p) (sym (pow-succ' 256 n))

-- one byte more, behind those that are there
pub le-last : (n x : ℕ) → le_bytes (suc n) x ≡ le_bytes n x ++ (x / 256 ^ n % 256 ∷ [])
unfolding le_bytes
le-last zero x = ap (λ (q : ℕ). q % 256 ∷ []) (sym (div-one x))
le-last (suc n) x =
    ap (λ (l : List ℕ). x % 256 ∷ l) (le-last n (x / 256) ∙ ap (λ (q : ℕ). le_bytes n (x / 256) ++ (q % 256 ∷ [])) (bytes_past n x))

pub be-last : (h b : ℕ) (l : List ℕ) → from_be h (l ++ (b ∷ [])) ≡ from_be h l * 256 + b
unfolding from_be
be-last h b [] = refl
be-last h b (c ∷ t) = be-last (h * 256 + c) b t

-- the first n of more bytes
pub le-front : (n k x : ℕ) → n ≤ k → take n (le_bytes k x) ≡ le_bytes n x
unfolding le_bytes
le-front zero k x h = refl
le-front (suc n) zero x h = absurd (omega arith)
le-front (suc n) (suc k) x h = ap (λ (l : List ℕ). x % 256 ∷ l) (le-front n k (x / 256) (omega arith))

-- of n + k bytes in the other order, the n low ones stand k bytes up
pub swapped-front : (n k x : ℕ) → from_be 0 (le_bytes (n + k) x) / 256 ^ k ≡ from_be 0 (le_bytes n x)
swapped-front n zero x = let s : n + 0 ≡ n = omega arith in ap (λ (j : ℕ). from_be 0 (le_bytes j x) / 1) s ∙ div-one (from_be 0 (le_bytes n x))
swapped-front n (suc k) x =
    let s : n + suc k ≡ suc (n + k) = omega arith in
    let b = x / 256 ^ (n + k) % 256 in
    let low : b < 256 = mod-lt (x / 256 ^ (n + k)) (lit< tt) in
    let all = from_be 0 (le_bytes (n + k) x) in
    ap (λ (j : ℕ). from_be 0 (le_bytes j x) / 256 ^ suc k) s
    ∙ ap (λ (l : List ℕ). from_be 0 l / 256 ^ suc k) (le-last (n + k) x)
    ∙ ap (λ (v : ℕ). v / 256 ^ suc k) (be-last 0 b (le_bytes (n + k) x))
    ∙ sym (bytes_past k (all * 256 + b))
    ∙ ap (λ (v : ℕ). v / 256 ^ k) (digits_div all {m = 256} low)
    ∙ swapped-front n k x

-- The bytes of the swapped number are the bytes in the other order: behind the bytes of a, those of x are turned one by one.
pub swapped-bytes : (n x k a : ℕ) → le_bytes (n + k) (from_be a (le_bytes n x)) ≡ reverse_aux (le_bytes n x) (le_bytes k a)
unfolding le_bytes from_be
swapped-bytes zero x k a = let s : 0 + k ≡ k = omega arith in ap (λ (j : ℕ). le_bytes j a) s
swapped-bytes (suc n) x k a =
    let b = x % 256 in
    let low : b < 256 = mod-lt x (lit< tt) in
    let s : suc n + k ≡ n + suc k = omega arith in
    let next = le_bytes n (x / 256) in
    ap (λ (j : ℕ). le_bytes j (from_be (a * 256 + b) next)) s
    ∙ swapped-bytes n (x / 256) (suc k) (a * 256 + b)
    ∙ ap₂ (λ (d m : ℕ). reverse_aux next (d ∷ le_bytes k m)) (digits_mod a {m = 256} low) (digits_div a {m = 256} low)

pub swapped-reversed : (n x : ℕ) → le_bytes n (from_be 0 (le_bytes n x)) ≡ reverse (le_bytes n x)
unfolding le_bytes
swapped-reversed n x = let s : n ≡ n + 0 = omega arith in ap (λ (j : ℕ). le_bytes j (from_be 0 (le_bytes n x))) s ∙ swapped-bytes n x 0 0
