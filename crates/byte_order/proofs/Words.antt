-- std's words for the eight bytes of a word are the meaning's: of the bytes of a number, and of a word with its bytes swapped; and the bytes of the number
-- that bytes are. Assumes nothing.
use Rattle.std.specs.Prelude.{◌≡◌, ℕ, zero, suc, ◌+◌, ◌-◌, ◌*◌, ◌/◌, ◌%◌, ◌^◌, ◌≤◌, ◌<◌, get_or, List, [], ◌∷◌, reverse, length, take, drop}
use Rattle.std.specs.Int.{w64, byte_at, bytes_low_first, bytes_high_first, to_le_bytes, to_be_bytes, from_be_bytes, swap_bytes}
use Rattle.std.proofs.Math.Path.{refl, sym, ap, ap₂}
use Rattle.std.proofs.Math.Arith.{digits_div, digits_mod}
use Rattle.std.proofs.Common.{◌∙◌, arith, inl, inr}
use Rattle.std.proofs.Math.Nat.{div-one, div-div-eq-div-mul, pow-suc}
use Rattle.std.proofs.lemmas.Nat.{pow-add}
use Rattle.std.proofs.lemmas.List.{reverse-append, length-reverse, take_all}
use Rattle.std.proofs.lemmas.Bool.{cases_lt}
use Rattle.byte_order.specs.Meaning.{le_bytes, from_le, from_be}
use Rattle.byte_order.specs.Bytes.{le-last, le-front, swapped-front}
use Rattle.byte_order.specs.Theorems.{bytes-length}

byte-is : (i x : ℕ) → byte_at i x ≡ x / 256 ^ i % 256
byte-is zero x = ap (λ (q : ℕ). q % 256) (sym (div-one x))
byte-is (suc i) x = refl

-- the bytes of a number
low-first : (i n x : ℕ) → bytes_low_first i n x ≡ le_bytes n (x / 256 ^ i)
unfolding le_bytes
low-first i zero x = refl
low-first i (suc n) x =
    let past : x / 256 ^ suc i ≡ x / 256 ^ i / 256 = ap (λ (p : ℕ). x / p) (pow-suc 256 i) ∙ sym (div-div-eq-div-mul x (256 ^ i) 256) in
    ap₂ (λ (b : ℕ) (l : List ℕ). b ∷ l) (byte-is i x) (low-first (suc i) n x ∙ ap (le_bytes n) past)

high-first : (n x : ℕ) → bytes_high_first n x ≡ reverse (le_bytes n x)
unfolding le_bytes
high-first zero x = refl
high-first (suc n) x =
    let b = x / 256 ^ n % 256 in
    ap₂ (λ (d : ℕ) (l : List ℕ). d ∷ l) (byte-is n x) (high-first n x)
    ∙ sym (reverse-append (le_bytes n x) (b ∷ []))
    ∙ ap reverse (sym (le-last n x))

low-word : (x : ℕ) → to_le_bytes w64 x ≡ le_bytes 8 x
low-word x = low-first 0 8 x ∙ ap (le_bytes 8) (div-one x)

high-end : (k n x : ℕ) → n ≤ k → drop (k - n) (bytes_high_first k x) ≡ bytes_high_first n x
high-end zero n x h = let e : n ≡ 0 = omega arith in rw e refl
high-end (suc k) n x h = elim (cases_lt k n) [
  | inl top ↦
      let e : n ≡ suc k = omega arith in
      let z : suc k - n ≡ 0 = omega arith in
      rw (z, e) refl
  | inr lower ↦
      let e : suc k - n ≡ suc (k - n) = omega arith in
      rw e (high-end k n x lower)
]

-- as they are cut from a word's
pub low-cut : (n x : ℕ) → n ≤ 8 → take n (to_le_bytes w64 x) ≡ le_bytes n x
low-cut n x h = ap (take n) (low-word x) ∙ le-front n 8 x h

pub high-cut : (n x : ℕ) → n ≤ 8 → take (8 - (8 - n)) (drop (8 - n) (to_be_bytes w64 x)) ≡ reverse (le_bytes n x)
high-cut n x h =
    let s : 8 - (8 - n) ≡ n = omega arith in
    let size : length (reverse (le_bytes n x)) ≤ n = omega (arith, length-reverse (le_bytes n x), bytes-length n x) in
    ap₂ (λ (k : ℕ) (l : List ℕ). take k l) s (high-end 8 n x h ∙ high-first n x) ∙ take_all n (reverse (le_bytes n x)) size

pub high-size : (n x : ℕ) → n ≤ 8 → length (take (8 - (8 - n)) (drop (8 - n) (to_be_bytes w64 x))) ≡ n
high-size n x h = ap length (high-cut n x h) ∙ length-reverse (le_bytes n x) ∙ bytes-length n x

-- the number of eight bytes
eight : (P : List ℕ → Type 0) → ((a b c d e f g h : ℕ) → P (a ∷ b ∷ c ∷ d ∷ e ∷ f ∷ g ∷ h ∷ [])) → (l : List ℕ) → length l ≡ 8 → P l
eight P p [] e = absurd (omega arith)
eight P p (a ∷ []) e = absurd (omega arith)
eight P p (a ∷ b ∷ []) e = absurd (omega arith)
eight P p (a ∷ b ∷ c ∷ []) e = absurd (omega arith)
eight P p (a ∷ b ∷ c ∷ d ∷ []) e = absurd (omega arith)
eight P p (a ∷ b ∷ c ∷ d ∷ x ∷ []) e = absurd (omega arith)
eight P p (a ∷ b ∷ c ∷ d ∷ x ∷ f ∷ []) e = absurd (omega arith)
eight P p (a ∷ b ∷ c ∷ d ∷ x ∷ f ∷ g ∷ []) e = absurd (omega arith)
eight P p (a ∷ b ∷ c ∷ d ∷ x ∷ f ∷ g ∷ h ∷ []) e = p a b c d x f g h
eight P p (a ∷ b ∷ c ∷ d ∷ x ∷ f ∷ g ∷ h ∷ y ∷ t) e = absurd (omega arith)

word-be : (l : List ℕ) → length l ≡ 8 → from_be_bytes w64 l ≡ from_be 0 l
unfolding from_be
word-be = eight (λ (l : List ℕ). from_be_bytes w64 l ≡ from_be 0 l) (λ a b c d e f g h. omega arith)

-- the number of bytes has these bytes
pub bytes-again : (l : List ℕ) → ((i : ℕ) → get_or l i 0 < 256) → le_bytes (length l) (from_le l) ≡ l
unfolding le_bytes from_le
bytes-again [] h = refl
bytes-again (b ∷ t) h =
    ap₂ (λ (d : ℕ) (r : List ℕ). d ∷ r) (digits_mod (from_le t) {m = 256} (h 0))
    (ap (le_bytes (length t)) (digits_div (from_le t) {m = 256} (h 0)) ∙ bytes-again t (λ i. h (suc i)))

-- the low bytes of a swapped word, where its high ones were
powers : (n : ℕ) → 2 ^ (8 * n) ≡ 256 ^ n
powers zero = refl
powers (suc n) =
    let s : 8 * suc n ≡ 8 * n + 8 = omega arith in
    ap (λ (j : ℕ). 2 ^ j) s ∙ pow-add 2 (8 * n) 8 ∙ ap (λ (p : ℕ). p * 256) (powers n) ∙ sym (pow-suc 256 n)

pub swap-word : (w x : ℕ) → w ≡ 8 * (w / 8) → w ≤ 64 → swap_bytes w64 x / 2 ^ (64 - w) ≡ from_be 0 (le_bytes (w / 8) x)
swap-word w x e h =
    let n = w / 8 in
    let k : 64 - w ≡ 8 * (8 - n) = omega arith in
    let all : 8 ≡ n + (8 - n) = omega arith in
    ap (λ (j : ℕ). swap_bytes w64 x / 2 ^ j) k
    ∙ ap (λ (p : ℕ). swap_bytes w64 x / p) (powers (8 - n))
    ∙ ap (λ (v : ℕ). v / 256 ^ (8 - n)) (word-be (to_le_bytes w64 x) refl ∙ ap (from_be 0) (low-word x) ∙ ap (λ (j : ℕ). from_be 0 (le_bytes j x)) all)
    ∙ swapped-front n (8 - n) x
