-- What holds of all that a format gives.
use Rattle.std.proofs.Common.{◌≡◌, ◌∙◌, ap, refl, subst, ℕ, zero, suc, List, length, Bool, true, Result, Ok, Err}
use Rattle.std.specs.List.{list_all}
use Rattle.lama_num.specs.Gives.{◌>>=◌}
use Rattle.sas_task.proofs.TestLaws.{and_true}
use Rattle.text_lines.specs.Lines.{Place}
use Rattle.sas_reader.specs.Formats.{Format, Done, Line, Kind, Value, value_of, times}
use Rattle.sas_reader.specs.Formats as formats
use Rattle.sas_reader.specs.Walks.{walk, next, next_by, first_line}

pub ok_same : {A F : Type 0} (x y : A) → ◌≡◌ {A = Result A F} (Ok x) (Ok y) → x ≡ y
ok_same x y e = cc

-- one reading after another
pub record Both {A B F : Type 0} (r : Result A F) (k : A → Result B F) (y : B) : Type 0 where
  pub value : A
  pub first : r ≡ Ok value
  pub later : k value ≡ Ok y

pub bind_ok : {A B F : Type 0} (r : Result A F) (k : A → Result B F) (y : B) → (r >>= k) ≡ Ok y → Both r k y
bind_ok (Ok x) k y is = record { value = x; first = refl; later = is }
bind_ok {A} {B} {F} (Err e) k y is = let c : ◌≡◌ {A = Result B F} (Err e) (Ok y) = is in cc

-- each value that a line of the kind gives leads to a format of which it holds
abbrev pub Only : {A : Type 0} → (A → Type 0) → Format A → Type 0
Only P (Done x) = P x
Only P (Line kind onward) = (n : ℕ) (text : List ℕ) (value : Value kind) → value_of kind n text ≡ Ok value → Only P (onward value)

pub only_bind : {A B : Type 0} (P : A → Type 0) (Q : B → Type 0) (format : Format A) (more : A → Format B) → Only P format → ((x : A) → P x → Only Q (more x)) → Only Q (formats.◌>>=◌ format more)
only_bind P Q (Done x) more all next = next x all
only_bind P Q (Line kind onward) more all next = λ n text value is. only_bind P Q (onward value) more (all n text value is) next

pub only_also : {A : Type 0} (P Q : A → Type 0) (format : Format A) → ((x : A) → P x → Q x) → Only P format → Only Q format
only_also P Q (Done x) also all = also x all
only_also P Q (Line kind onward) also all = λ n text value is. only_also P Q (onward value) also (all n text value is)

-- so many that each pass a test
pub record SoMany {A : Type 0} (test : A → Bool) (n : ℕ) (xs : List A) : Type 0 where
  pub all : list_all test xs ≡ true
  pub many : length xs ≡ n

pub only_times : {A : Type 0} (test : A → Bool) (format : Format A) (n : ℕ) → Only (λ x. test x ≡ true) format → Only (SoMany test n) (times n format)
unfolding times
only_times test format zero each = record { all = refl; many = refl }
only_times test format (suc n) each =
    only_bind (λ x. test x ≡ true) (SoMany test (suc n)) format _ each
    (λ x here. only_bind (SoMany test n) (SoMany test (suc n)) (times n format) _ (only_times test format n each)
    (λ xs rest. record { all = and_true (test x) (list_all test xs) here rest.all; many = ap suc rest.many }))

-- so it holds of what a walk gave
pub only_walk : {A : Type 0} (P : A → Type 0) (format : Format A) (place : Place) (r : A × Place) → Only P format → walk format place ≡ Ok r → P r.0
unfolding next_by
only_walk P (Done x) place r all is = subst P (ap (λ y. y.0) (ok_same _ r is)) all
only_walk P (Line kind onward) place r all is =
    let one = bind_ok (next kind place) (λ r. walk (onward r.0) r.1) r is in
    let line = bind_ok (first_line place) _ one.value one.first in
    let value = bind_ok (value_of kind place.line line.value.0) _ one.value line.later in
    let same : value.value ≡ one.value.0 = ap (λ x. x.0) (ok_same _ one.value value.later) in
    only_walk P (onward one.value.0) one.value.1 r (all place.line line.value.0 one.value.0 (value.first ∙ ap (λ v. Ok v) same)) one.later
