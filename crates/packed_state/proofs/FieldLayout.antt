-- Fields that are laid one behind the other.
use Rattle.std.proofs.Common.{◌≡◌, ℕ, zero, suc, ◌+◌, ◌^◌, ◌<◌, ◌≤◌, ◌⊎◌, List, [], ◌∷◌, ◌++◌, length, slice_get, Some, refl, ap, sym, ◌∙◌, subst, arith, inl, inr}
use Rattle.std.proofs.lemmas.Option.{slice_get_within}
use Rattle.sas_task.specs.WellFormed.{range_of}
use Rattle.sas_task.specs.declared.contents.Variable.{Variable}
use Rattle.packed_state.specs.Packing.{IsLaid}
use Rattle.packed_state.specs.declared.fields.Field.{Field}
use Rattle.lama_num.proofs.ListLaws.{get_push}

-- fields up to a place in a word
pub record LaidTo (fs : List Field) (word used : ℕ) : Type 0 where
  pub fits : (i : ℕ) (f : Field) → slice_get fs i ≡ Some f → (f.word ≤ word) × (f.shift < 64) × (f.shift + f.bits ≤ 64) × (f.bits ≤ 20)
  pub last : (i : ℕ) (f : Field) → slice_get fs i ≡ Some f → f.word ≡ word → f.shift + f.bits ≤ used
  pub apart : (i j : ℕ) (f g : Field) → i < j → slice_get fs i ≡ Some f → slice_get fs j ≡ Some g → f.word ≡ g.word → f.shift + f.bits ≤ g.shift

pub laid_none : LaidTo [] 0 0
laid_none = record { fits = λ i f at. absurd (cc); last = λ i f at same. absurd (cc); apart = λ i j f g lt at. absurd (cc) }

-- one field more
pub laid_more : (fs : List Field) (word used : ℕ) (f : Field) → LaidTo fs word used → word ≤ f.word → (f.word ≡ word → f.shift ≡ used) → f.shift < 64 → f.shift + f.bits ≤ 64 → f.bits ≤ 20 →
    LaidTo (fs ++ f ∷ []) f.word (f.shift + f.bits)
laid_more fs word used f laid low same inside fit few = record {
  fits = λ i g at. elim (get_push fs f i g at) [
    | inl before ↦ let old = laid.fits i g before in (let below : g.word ≤ word = old.0 in omega arith, old.1, old.2, old.3)
    | inr here ↦ subst (λ (k : Field). (k.word ≤ f.word) × (k.shift < 64) × (k.shift + k.bits ≤ 64) × (k.bits ≤ 20)) (sym here.1) (omega arith, inside, fit, few)
  ];
  last = λ i g at is. elim (get_push fs f i g at) [
    | inl before ↦
        let below : g.word ≤ word = (laid.fits i g before).0 in
        let there : f.word ≡ word = omega arith in
        let old : g.shift + g.bits ≤ used = laid.last i g before (omega arith) in
        let start : f.shift ≡ used = same there in
        omega arith
    | inr here ↦ subst (λ (k : Field). k.shift + k.bits ≤ f.shift + f.bits) (sym here.1) (omega arith)
  ];
  apart = λ i j a b lt at_a at_b is. elim (get_push fs f j b at_b) [
    | inl b_before ↦ elim (get_push fs f i a at_a) [
      | inl a_before ↦ laid.apart i j a b lt a_before b_before is
      | inr a_here ↦ let n : j < length fs = slice_get_within fs j b b_before in let m : i ≡ length fs = a_here.0 in absurd (omega arith)
    ]
    | inr b_here ↦ elim (get_push fs f i a at_a) [
      | inl a_before ↦
          let same_word : a.word ≡ f.word = is ∙ ap (λ (k : Field). k.word) b_here.1 in
          let below : a.word ≤ word = (laid.fits i a a_before).0 in
          let there : f.word ≡ word = omega arith in
          let old : a.shift + a.bits ≤ used = laid.last i a a_before (omega arith) in
          let start : f.shift ≡ used = same there in
          let begins : b.shift ≡ f.shift = ap (λ (k : Field). k.shift) b_here.1 in
          omega arith
      | inr a_here ↦ let n : i ≡ length fs = a_here.0 in let m : j ≡ length fs = b_here.0 in absurd (omega arith)
    ]
  ];
}

pub laid_in : (fs : List Field) (word used n : ℕ) → LaidTo fs word used → word < n → IsLaid n fs
laid_in fs word used n laid lt = record {
  within = λ i f at. let old = laid.fits i f at in (let below : f.word ≤ word = old.0 in omega arith, old.1, old.2, old.3);
  apart = laid.apart;
}

-- a field with room for the values of one variable more
pub room_more : (variables : List Variable) (fs : List Field) (f : Field) (v : Variable) (n : ℕ) → length fs ≡ n → slice_get variables n ≡ Some v → length v.values ≤ 2 ^ f.bits →
    ((var : ℕ) (g : Field) → slice_get fs var ≡ Some g → range_of variables var ≤ 2 ^ g.bits) → (var : ℕ) (g : Field) → slice_get (fs ++ f ∷ []) var ≡ Some g → range_of variables var ≤ 2 ^ g.bits
room_more variables fs f v n long at enough before var g there = elim (get_push fs f var g there) [
  | inl old ↦ before var g old
  | inr here ↦
      let place : var ≡ n = here.0 ∙ long in
      let at_var : slice_get variables var ≡ Some v = subst (λ k. slice_get variables k ≡ Some v) (sym place) at in
      rw (at_var, here.1) enough
]
