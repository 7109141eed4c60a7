-- What moving the point does to the number: in any radix r, with any values of the digits where `0` is 0, an exponent scales it by a power of the radix, and
-- the zeros that are dropped change nothing. Digits i before the point and f after it write num_of (i ++ f) / r ^ length f. Assumes nothing.
use Rattle.std.specs.Prelude.{◌≡◌, length, pos, negsuc}
use Rattle.std.proofs.Math.Path.{refl, sym, ap}
use Rattle.std.proofs.Common.{◌∙◌, arith, length-append, pow-add}
use mathlib.Core.List.{List, [], ◌∷◌, ◌++◌, append_assoc}
use Prim.Native.Nat.{ℕ, zero, suc, ◌+◌, ◌*◌, ◌^◌}
use Rattle.std.proofs.Math.Nat.{add-zero, zero-mul, mul-one, mul_assoc, pow-zero, pow-succ'}
use Rattle.laws.specs.Text.{zeros}
use Rattle.digits.specs.Meaning.{is_zero, drop_while, drop_back, leading_zeros, trailing_zeros}
use Rattle.digits_exp.specs.Meaning.{moved_int, moved_frac}
use Rattle.digits_exp.specs.Zeros.{zeros-length}
use Rattle.digits.specs.Theorems.{leading-whole, trailing-whole}
use Rattle.digits_exp.specs.Theorems.{right-whole, left-whole, right-point, left-point}

module _ (r : ℕ) (v : ℕ → ℕ) where
  -- more digits after the number a
  unfoldable pub num_from : List ℕ → ℕ → ℕ
  num_from [] a = a
  num_from (b ∷ d) a = num_from d (a * r + v b)

  unfoldable pub num_of : List ℕ → ℕ
  num_of d = num_from d 0

module _ (r : ℕ) (v : ℕ → ℕ) (nought : v 48 ≡ 0) where
  from-append : (s t : List ℕ) (a : ℕ) → num_from r v (s ++ t) a ≡ num_from r v t (num_from r v s a)
  unfolding num_from
  from-append [] t a = refl
  from-append (b ∷ s) t a = from-append s t (a * r + v b)

  -- zeros behind scale, zeros in front do nothing
  from-zeros : (n a : ℕ) → num_from r v (zeros n) a ≡ a * r ^ n
  unfolding num_from
  from-zeros zero a = sym (ap (λ (k : ℕ). a * k) (pow-zero r) ∙ mul-one a)
  from-zeros (suc n) a =
      from-zeros n (a * r + v 48)
      ∙ ap (λ (k : ℕ). k * r ^ n) (ap (λ (k : ℕ). a * r + k) nought ∙ add-zero (a * r))
      ∙ mul_assoc a r (r ^ n) ∙ ap (λ (k : ℕ). a * k) (sym (pow-succ' r n))

  zeros-behind : (l : List ℕ) (n : ℕ) → num_of r v (l ++ zeros n) ≡ num_of r v l * r ^ n
  unfolding num_of
  zeros-behind l n = from-append l (zeros n) 0 ∙ from-zeros n (num_from r v l 0)

  zeros-front : (n : ℕ) (l : List ℕ) → num_of r v (zeros n ++ l) ≡ num_of r v l
  unfolding num_of
  zeros-front n l = from-append (zeros n) l 0 ∙ ap (num_from r v l) (from-zeros n 0 ∙ zero-mul (r ^ n))

  -- so may zeros at the outer ends be dropped
  drop-front : (l t : List ℕ) → num_of r v (drop_while is_zero l ++ t) ≡ num_of r v (l ++ t)
  drop-front l t =
      let d = drop_while is_zero l in
      let z = zeros (leading_zeros l) in
      sym
      (ap (λ (k : List ℕ). num_of r v (k ++ t)) (sym (leading-whole l)) ∙ ap (num_of r v) (append_assoc z d t)
      ∙ zeros-front (leading_zeros l) (d ++ t))

  drop-behind : (s l : List ℕ) → num_of r v (s ++ drop_back is_zero l) * r ^ length l ≡ num_of r v (s ++ l) * r ^ length (drop_back is_zero l)
  drop-behind s l =
      let d = drop_back is_zero l in
      let k = trailing_zeros l in
      let n = num_of r v (s ++ d) in
      let e : length l ≡ k + length d = omega (arith, ap length (trailing-whole l), length-append d (zeros k), zeros-length k) in
      let w : num_of r v (s ++ l) ≡ n * r ^ k =
      ap (λ (q : List ℕ). num_of r v (s ++ q)) (sym (trailing-whole l)) ∙ ap (num_of r v) (sym (append_assoc s d (zeros k))) ∙ zeros-behind (s ++ d) k in
      ap (λ (q : ℕ). n * r ^ q) e ∙ ap (λ (q : ℕ). n * q) (pow-add r k (length d)) ∙ sym (mul_assoc n (r ^ k) (r ^ length d))
      ∙ ap (λ (q : ℕ). q * r ^ length d) (sym w)

  dropped : (i f : List ℕ) → num_of r v (drop_while is_zero i ++ drop_back is_zero f) * r ^ length f ≡ num_of r v (i ++ f) * r ^ length (drop_back is_zero f)
  dropped i f = drop-behind (drop_while is_zero i) f ∙ ap (λ (q : ℕ). q * r ^ length (drop_back is_zero f)) (drop-front i f)

  -- ---- n places to the right: the number times r ^ n
  pub scaled-up : (n : ℕ) (i f : List ℕ)
      → num_of r v (drop_while is_zero (moved_int (pos n) i f) ++ drop_back is_zero (moved_frac (pos n) i f)) * r ^ length f
      ≡ num_of r v (i ++ f) * r ^ n * r ^ length (drop_back is_zero (moved_frac (pos n) i f))
  scaled-up n i f =
      let x = moved_int (pos n) i f in
      let y = moved_frac (pos n) i f in
      let e : length f ≡ length y =
      omega (
        arith,
        right-point n i f,
        ap length (right-whole n i f),
        length-append x y,
        length-append i (f ++ zeros n),
        length-append f (zeros n),
        zeros-length n,
      ) in
      ap (λ (q : ℕ). num_of r v (drop_while is_zero x ++ drop_back is_zero y) * r ^ q) e ∙ dropped x y
      ∙ ap (λ (q : ℕ). q * r ^ length (drop_back is_zero y))
      (ap (num_of r v) (right-whole n i f ∙ sym (append_assoc i f (zeros n))) ∙ zeros-behind (i ++ f) n)

  -- ---- m + 1 places to the left: r ^ (m + 1) times that is the number
  pub scaled-down : (m : ℕ) (i f : List ℕ)
      → num_of r v (drop_while is_zero (moved_int (negsuc m) i f) ++ drop_back is_zero (moved_frac (negsuc m) i f)) * (r ^ length f * r ^ suc m)
      ≡ num_of r v (i ++ f) * r ^ length (drop_back is_zero (moved_frac (negsuc m) i f))
  scaled-down m i f =
      let x = moved_int (negsuc m) i f in
      let y = moved_frac (negsuc m) i f in
      let e : length f + suc m ≡ length y =
      omega (arith, left-point m i f, ap length (left-whole m i f), length-append x y, length-append (zeros (suc m) ++ i) f) in
      ap (λ (q : ℕ). num_of r v (drop_while is_zero x ++ drop_back is_zero y) * q) (sym (pow-add r (length f) (suc m)) ∙ ap (λ (q : ℕ). r ^ q) e) ∙ dropped x y
      ∙ ap (λ (q : ℕ). q * r ^ length (drop_back is_zero y))
      (ap (num_of r v) (left-whole m i f ∙ append_assoc (zeros (suc m)) i f) ∙ zeros-front (suc m) (i ++ f))
