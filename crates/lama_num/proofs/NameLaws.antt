-- Two files of a run have two names.
use Rattle.std.proofs.Common.{◌≡◌, ◌≢◌, ℕ, ◌<◌, ◌≤◌, ◌^◌, List, [], ◌∷◌, ◌++◌, refl, sym, ap, subst, ◌∙◌, arith, append_assoc, append-nil}
use Rattle.std.specs.Prelude.{codes, decimal}
use Rattle.std.specs.Str.Parse.{AllDigits}
use Rattle.std.specs.Char.{digit_value}
use Rattle.std.proofs.lemmas.List.{append_cancel_left}
use Rattle.std.proofs.lemmas.Fmt.{decimal_is_IsNumeral, decimal_injective}
use Rattle.lama_num.specs.Names.{numbered_name, part_name, child_name, RunFile, Single, Part, Numbered, ChildSingle, ChildNumbered, name_of, HasSmallNumbers, NamesOnly}

same_heads : (x y : ℕ) (xs ys : List ℕ) → x ∷ xs ≡ y ∷ ys → x ≡ y
same_heads x y xs ys same = cc

same_rests : (x y : ℕ) (xs ys : List ℕ) → x ∷ xs ≡ y ∷ ys → xs ≡ ys
same_rests x y xs ys same = cc

same_cons : (x y : ℕ) (xs ys : List ℕ) → x ≡ y → xs ≡ ys → x ∷ xs ≡ y ∷ ys
same_cons x y xs ys e f = cc

nil_apart : (x : ℕ) (xs : List ℕ) → [] ≡ x ∷ xs → ⊥
nil_apart x xs same = cc

digits_of_decimal : (n : ℕ) → n < 2 ^ 64 → AllDigits 10 (decimal n)
digits_of_decimal n small = (decimal_is_IsNumeral n small).0.1

-- a byte that is no digit
abbrev Other : ℕ → Type 0
Other c = 10 ≤ digit_value c

digit_is_not : (c x : ℕ) → Other c → digit_value x < 10 → c ≡ x → ⊥
digit_is_not c x other digit same = let high : 10 ≤ digit_value x = subst (λ b. 10 ≤ digit_value b) same other in omega arith

-- digits don't begin with it
not_first : (c : ℕ) (ds rest : List ℕ) → Other c → AllDigits 10 ds → c ∷ rest ≡ ds → ⊥
not_first c [] rest other digits same = nil_apart c rest (sym same)
not_first c (d ∷ ds) rest other digits same = digit_is_not c d other digits.0 (same_heads c d rest ds same)

-- and don't have it within
not_within : (c : ℕ) (ds xs rest : List ℕ) → Other c → AllDigits 10 ds → xs ++ c ∷ rest ≡ ds → ⊥
not_within c ds [] rest other digits same = not_first c ds rest other digits same
not_within c [] (x ∷ xs) rest other digits same = nil_apart x (xs ++ c ∷ rest) (sym same)
not_within c (d ∷ ds) (x ∷ xs) rest other digits same = not_within c ds xs rest other digits.1 (same_rests x d (xs ++ c ∷ rest) ds same)

-- so the digits before it are the same in two equal texts
same_digits : (c : ℕ) (ds es s t : List ℕ) → Other c → AllDigits 10 ds → AllDigits 10 es → ds ++ c ∷ s ≡ es ++ c ∷ t → (ds ≡ es) × (s ≡ t)
same_digits c [] [] s t other dd de same = (refl, same_rests c c s t same)
same_digits c [] (e ∷ es) s t other dd de same = absurd (digit_is_not c e other de.0 (same_heads c e s (es ++ c ∷ t) same))
same_digits c (d ∷ ds) [] s t other dd de same = absurd (digit_is_not c d other dd.0 (sym (same_heads d c (ds ++ c ∷ s) t same)))
same_digits c (d ∷ ds) (e ∷ es) s t other dd de same =
    let both = same_digits c ds es s t other dd.1 de.1 (same_rests d e (ds ++ c ∷ s) (es ++ c ∷ t) same) in
    (same_cons d e ds es (same_heads d e (ds ++ c ∷ s) (es ++ c ∷ t) same) both.0, both.1)

-- what stands behind the base
abbrev suffix : RunFile → List ℕ
suffix Single = []
suffix Part = 46 ∷ 112 ∷ 97 ∷ 114 ∷ 116 ∷ []
suffix (Numbered n) = 46 ∷ decimal n
suffix (ChildSingle entry) = 46 ∷ 99 ∷ decimal entry
suffix (ChildNumbered entry n) = 46 ∷ 99 ∷ (decimal entry ++ 46 ∷ decimal n)

name_split : (base : List ℕ) (file : RunFile) → name_of base file ≡ base ++ suffix file
name_split base Single = sym (append-nil base)
name_split base Part = refl
name_split base (Numbered n) = append_assoc base (codes ".") (decimal n)
name_split base (ChildSingle entry) = append_assoc base (codes ".c") (decimal entry)
name_split base (ChildNumbered entry n) = simp append_assoc

dot : Other 46
dot = omega arith

letter_c : Other 99
letter_c = omega arith

letter_p : Other 112
letter_p = omega arith

p_is_c : ◌≡◌ {A = ℕ} 112 99 → ⊥
p_is_c same = omega arith

-- the suffixes of two files differ
pub suffix_same : (x y : RunFile) → HasSmallNumbers x → HasSmallNumbers y → suffix x ≡ suffix y → x ≡ y
suffix_same Single Single hx hy same = refl
suffix_same Single Part hx hy same = absurd (nil_apart _ _ same)
suffix_same Single (Numbered n) hx hy same = absurd (nil_apart _ _ same)
suffix_same Single (ChildSingle e) hx hy same = absurd (nil_apart _ _ same)
suffix_same Single (ChildNumbered e n) hx hy same = absurd (nil_apart _ _ same)
suffix_same Part Single hx hy same = absurd (nil_apart _ _ (sym same))
suffix_same Part Part hx hy same = refl
suffix_same Part (Numbered n) hx hy same = absurd (not_first _ _ _ letter_p (digits_of_decimal n hy) (same_rests _ _ _ _ same))
suffix_same Part (ChildSingle e) hx hy same = absurd (p_is_c (same_heads _ _ _ _ (same_rests _ _ _ _ same)))
suffix_same Part (ChildNumbered e n) hx hy same = absurd (p_is_c (same_heads _ _ _ _ (same_rests _ _ _ _ same)))
suffix_same (Numbered m) Single hx hy same = absurd (nil_apart _ _ (sym same))
suffix_same (Numbered m) Part hx hy same = absurd (not_first _ _ _ letter_p (digits_of_decimal m hx) (sym (same_rests _ _ _ _ same)))
suffix_same (Numbered m) (Numbered n) hx hy same = ap Numbered (decimal_injective m n hx hy (same_rests _ _ _ _ same))
suffix_same (Numbered m) (ChildSingle e) hx hy same = absurd (not_first _ _ _ letter_c (digits_of_decimal m hx) (sym (same_rests _ _ _ _ same)))
suffix_same (Numbered m) (ChildNumbered e n) hx hy same = absurd (not_first _ _ _ letter_c (digits_of_decimal m hx) (sym (same_rests _ _ _ _ same)))
suffix_same (ChildSingle d) Single hx hy same = absurd (nil_apart _ _ (sym same))
suffix_same (ChildSingle d) Part hx hy same = absurd (p_is_c (sym (same_heads _ _ _ _ (same_rests _ _ _ _ same))))
suffix_same (ChildSingle d) (Numbered n) hx hy same = absurd (not_first _ _ _ letter_c (digits_of_decimal n hy) (same_rests _ _ _ _ same))
suffix_same (ChildSingle d) (ChildSingle e) hx hy same = ap ChildSingle (decimal_injective d e hx hy (same_rests _ _ _ _ (same_rests _ _ _ _ same)))
suffix_same (ChildSingle d) (ChildNumbered e n) hx hy same = absurd (not_within _ _ _ _ dot (digits_of_decimal d hx) (sym (same_rests _ _ _ _ (same_rests _ _ _ _ same))))
suffix_same (ChildNumbered d m) Single hx hy same = absurd (nil_apart _ _ (sym same))
suffix_same (ChildNumbered d m) Part hx hy same = absurd (p_is_c (sym (same_heads _ _ _ _ (same_rests _ _ _ _ same))))
suffix_same (ChildNumbered d m) (Numbered n) hx hy same = absurd (not_first _ _ _ letter_c (digits_of_decimal n hy) (same_rests _ _ _ _ same))
suffix_same (ChildNumbered d m) (ChildSingle e) hx hy same = absurd (not_within _ _ _ _ dot (digits_of_decimal e hy) (same_rests _ _ _ _ (same_rests _ _ _ _ same)))
suffix_same (ChildNumbered d m) (ChildNumbered e n) hx hy same =
    let both = same_digits 46 (decimal d) (decimal e) (decimal m) (decimal n) dot (digits_of_decimal d hx.0) (digits_of_decimal e hy.0) (same_rests _ _ _ _ (same_rests _ _ _ _ same)) in
    let entries : d ≡ e = decimal_injective d e hx.0 hy.0 both.0 in
    let plans : m ≡ n = decimal_injective m n hx.1 hy.1 both.1 in
    ap (λ k. ChildNumbered k m) entries ∙ ap (ChildNumbered e) plans

-- so do their names
pub name_same : (base : List ℕ) (x y : RunFile) → HasSmallNumbers x → HasSmallNumbers y → name_of base x ≡ name_of base y → x ≡ y
name_same base x y hx hy same = suffix_same x y hx hy (append_cancel_left base (suffix x) (suffix y) (sym (name_split base x) ∙ same ∙ name_split base y))

pub names_only : (base name : List ℕ) (file : RunFile) → HasSmallNumbers file → name ≡ name_of base file → NamesOnly base name file
names_only base name file small is = record { only = λ other h same. name_same base other file h small (sym same ∙ is) }

-- the same, name by name
pub numbered_same : (base : List ℕ) (m n : ℕ) → m < 2 ^ 64 → n < 2 ^ 64 → numbered_name base m ≡ numbered_name base n → m ≡ n
numbered_same base m n hm hn same = let e : Numbered m ≡ Numbered n = name_same base (Numbered m) (Numbered n) hm hn same in cc

pub part≢base : (base : List ℕ) → part_name base ≢ base
part≢base base same = let k : Part ≡ Single = name_same base Part Single tt tt same in cc

pub numbered≢base : (base : List ℕ) (n : ℕ) → n < 2 ^ 64 → numbered_name base n ≢ base
numbered≢base base n small same = let k : Numbered n ≡ Single = name_same base (Numbered n) Single small tt same in cc

pub numbered≢part : (base : List ℕ) (n : ℕ) → n < 2 ^ 64 → numbered_name base n ≢ part_name base
numbered≢part base n small same = let k : Numbered n ≡ Part = name_same base (Numbered n) Part small tt same in cc

pub child≢base : (base : List ℕ) (e : ℕ) → e < 2 ^ 64 → child_name base e ≢ base
child≢base base e small same = let k : ChildSingle e ≡ Single = name_same base (ChildSingle e) Single small tt same in cc

pub child≢part : (base : List ℕ) (e : ℕ) → e < 2 ^ 64 → child_name base e ≢ part_name base
child≢part base e small same = let k : ChildSingle e ≡ Part = name_same base (ChildSingle e) Part small tt same in cc

pub child≢numbered : (base : List ℕ) (e n : ℕ) → e < 2 ^ 64 → n < 2 ^ 64 → child_name base e ≢ numbered_name base n
child≢numbered base e n he hn same = let k : ChildSingle e ≡ Numbered n = name_same base (ChildSingle e) (Numbered n) he hn same in cc

pub child_numbered≢base : (base : List ℕ) (e m : ℕ) → e < 2 ^ 64 → m < 2 ^ 64 → numbered_name (child_name base e) m ≢ base
child_numbered≢base base e m he hm same = let k : ChildNumbered e m ≡ Single = name_same base (ChildNumbered e m) Single (he, hm) tt same in cc

pub child_numbered≢part : (base : List ℕ) (e m : ℕ) → e < 2 ^ 64 → m < 2 ^ 64 → numbered_name (child_name base e) m ≢ part_name base
child_numbered≢part base e m he hm same = let k : ChildNumbered e m ≡ Part = name_same base (ChildNumbered e m) Part (he, hm) tt same in cc

pub child_numbered≢numbered : (base : List ℕ) (e m n : ℕ) → e < 2 ^ 64 → m < 2 ^ 64 → n < 2 ^ 64 → numbered_name (child_name base e) m ≢ numbered_name base n
child_numbered≢numbered base e m n he hm hn same = let k : ChildNumbered e m ≡ Numbered n = name_same base (ChildNumbered e m) (Numbered n) (he, hm) hn same in cc
