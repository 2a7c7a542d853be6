-- Numbers put beside each other into a word.
use Rattle.std.proofs.Common.{◌≡◌, ℕ, zero, ◌+◌, ◌-◌, ◌*◌, ◌/◌, ◌%◌, ◌^◌, ◌<◌, ◌≤◌, bit_and, ap, sym, ◌∙◌, subst, arith}
use Rattle.std.proofs.Math.Nat.{add-mul-div_right, add-mul-mod_self_right, mul-le-mul_right, mul_assoc, mul_comm, div-eq_of_lt, mod-eq_of_lt, pow-le-pow_right}
use Rattle.std.proofs.lemmas.Nat.{pow-add, pow_pos, and_mask}
use Rattle.std.proofs.Math.Pow.{pow-lt}

scaled_below : (x v p q : ℕ) → x < p → v < q → x + v * p < p * q
scaled_below x v p q x_small v_small =
    let next : v + 1 ≤ q = omega arith in
    let scaled : (v + 1) * p ≤ q * p = mul-le-mul_right p next in
    let split : (v + 1) * p ≡ v * p + p = omega arith in
    let turned : q * p ≡ p * q = mul_comm q p in
    omega (arith, scaled, split, turned)

-- a word ends where the value put into it ends
pub put_below : (x v s b : ℕ) → x < 2 ^ s → v < 2 ^ b → x + v * 2 ^ s < 2 ^ (s + b)
put_below x v s b x_small v_small = subst (λ n. x + v * 2 ^ s < n) (sym (pow-add 2 s b)) (scaled_below x v (2 ^ s) (2 ^ b) x_small v_small)

split_power : (y s b t : ℕ) → s + b ≤ t → y * 2 ^ t ≡ ((y * 2 ^ (t - (s + b))) * 2 ^ b) * 2 ^ s
split_power y s b t le =
    let d = t - (s + b) in
    let sum : t ≡ (d + b) + s = omega arith in
    let power : 2 ^ t ≡ (2 ^ d * 2 ^ b) * 2 ^ s = ap (λ k. 2 ^ k) sum ∙ pow-add 2 (d + b) s ∙ ap (λ z. z * 2 ^ s) (pow-add 2 d b) in
    ap (λ z. y * z) power ∙ sym (mul_assoc y (2 ^ d * 2 ^ b) (2 ^ s)) ∙ ap (λ z. z * 2 ^ s) (sym (mul_assoc y (2 ^ d) (2 ^ b)))

-- what is put in later doesn't change what is read
pub kept : (x y s b t : ℕ) → s + b ≤ t → (x + y * 2 ^ t) / 2 ^ s % 2 ^ b ≡ x / 2 ^ s % 2 ^ b
kept x y s b t le =
    ap (λ z. (x + z) / 2 ^ s % 2 ^ b) (split_power y s b t le)
    ∙ ap (λ z. z % 2 ^ b) (add-mul-div_right x ((y * 2 ^ (t - (s + b))) * 2 ^ b) (pow_pos s))
    ∙ add-mul-mod_self_right (x / 2 ^ s) (y * 2 ^ (t - (s + b))) (2 ^ b)

-- what is put in is read
pub placed : (x v s b : ℕ) → x < 2 ^ s → v < 2 ^ b → (x + v * 2 ^ s) / 2 ^ s % 2 ^ b ≡ v
placed x v s b x_small v_small =
    ap (λ z. z % 2 ^ b) (add-mul-div_right x v (pow_pos s) ∙ ap (λ z. z + v) (div-eq_of_lt x_small))
    ∙ ap (λ z. z % 2 ^ b) (let none : zero + v ≡ v = omega arith in none)
    ∙ mod-eq_of_lt v_small

put_fits : (x v s b : ℕ) → x < 2 ^ s → v < 2 ^ b → s + b ≤ 64 → x + v * 2 ^ s < 2 ^ 64
put_fits x v s b x_small v_small fits =
    let below : x + v * 2 ^ s < 2 ^ (s + b) = put_below x v s b x_small v_small in
    let wider : 2 ^ (s + b) ≤ 2 ^ 64 = pow-le-pow_right {n = 2} (omega arith) fits in
    omega (arith, below, wider)

-- a shift loses no bit
pub no_wrap : (v s b : ℕ) → v < 2 ^ b → s + b ≤ 64 → v * 2 ^ s % 2 ^ 64 ≡ v * 2 ^ s
no_wrap v s b v_small fits =
    let all : 0 + v * 2 ^ s < 2 ^ 64 = put_fits 0 v s b (pow_pos s) v_small fits in
    let alone : v * 2 ^ s < 2 ^ 64 = omega (arith, all) in
    mod-eq_of_lt alone

-- and the sum fits a word
pub put_no_wrap : (x v s b : ℕ) → x < 2 ^ s → v < 2 ^ b → s + b ≤ 64 → x + v * 2 ^ s % 2 ^ 64 < 2 ^ 64
put_no_wrap x v s b x_small v_small fits = subst (λ z. x + z < 2 ^ 64) (sym (no_wrap v s b v_small fits)) (put_fits x v s b x_small v_small fits)

pub mask_is : (x b : ℕ) → b ≤ 20 → bit_and x (1 * 2 ^ b % 2 ^ 64 - 1) ≡ x % 2 ^ b
mask_is x b few =
    let less : b < 64 = omega arith in
    let small : 2 ^ b < 2 ^ 64 = pow-lt less in
    let one_power : 1 * 2 ^ b ≡ 2 ^ b = omega arith in
    ap (λ k. bit_and x (k % 2 ^ 64 - 1)) one_power ∙ ap (λ k. bit_and x (k - 1)) (mod-eq_of_lt small) ∙ and_mask x b
