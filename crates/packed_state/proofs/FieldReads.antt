-- What is put into a field is read there, whatever is put into later fields.
use Rattle.std.proofs.Common.{◌≡◌, ◌≢◌, ℕ, zero, suc, ◌+◌, ◌*◌, ◌/◌, ◌%◌, ◌^◌, ◌<◌, ◌≤◌, List, [], ◌∷◌, length, set, drop, slice_get, slice_index, replicate, Some, refl, ap, sym, ◌∙◌, subst, arith, inl, inr}
use Rattle.std.proofs.Math.Nat.{pow-le-pow_right}
use Rattle.std.proofs.Math.Seq.{drop-cons}
use Rattle.std.proofs.lemmas.Nat.{pow_pos}
use Rattle.std.proofs.lemmas.List.{length-set, get_or-set_same, get_or-set_other, get_or-replicate, length-replicate}
use Rattle.std.proofs.lemmas.Bool.{cases_eq}
use Rattle.std.proofs.lemmas.Option.{slice_get_within, get_or_from_slice_get}
use Rattle.sas_task.specs.WellFormed.{range_of}
use Rattle.sas_task.specs.declared.contents.Parts.{Parts}
use Rattle.packed_state.specs.Packing.{Places, IsLaid, IsFor, CanHold, value_in, with_values, packed}
use Rattle.packed_state.specs.declared.fields.Field.{Field}
use Rattle.packed_state.proofs.Bits.{put_below, kept, placed}

-- a value for each field, for which it has room
pub record Fit (fields : List Field) (values : List ℕ) : Type 0 where
  pub long : length values ≡ length fields
  pub small : (var : ℕ) (field : Field) → slice_get fields var ≡ Some field → slice_index values var < 2 ^ field.bits

pub fit_of : (layout : Places) (state : List ℕ) → CanHold layout state → Fit layout.fields state
fit_of layout state can = record { long = can.long; small = can.room }

-- each word is 0 from the fields that are to come on
pub record IsFree (fields : List Field) (words : List ℕ) : Type 0 where
  pub free : (i : ℕ) (f : Field) → slice_get fields i ≡ Some f → slice_index words f.word < 2 ^ f.shift

-- the words with a value put into a field
abbrev pub put : List ℕ → Field → ℕ → List ℕ
put words f v = set words f.word (slice_index words f.word + v * 2 ^ f.shift)

laid_rest : (n : ℕ) (f : Field) (fs : List Field) → IsLaid n (f ∷ fs) → IsLaid n fs
laid_rest n f fs laid = record {
  within = λ i g at. laid.within (suc i) g at;
  apart = λ i j a b lt ata atb same. laid.apart (suc i) (suc j) a b (omega arith) ata atb same;
}

fit_rest : (f : Field) (fs : List Field) (v : ℕ) (vs : List ℕ) → Fit (f ∷ fs) (v ∷ vs) → Fit fs vs
fit_rest f fs v vs fit = record { long = omega (arith, fit.long); small = λ var g at. fit.small (suc var) g at }

length-put : (words : List ℕ) (f : Field) (v : ℕ) → length (put words f v) ≡ length words
length-put words f v = length-set words f.word (slice_index words f.word + v * 2 ^ f.shift)

put_same : (words : List ℕ) (f : Field) (v : ℕ) → f.word < length words → slice_index (put words f v) f.word ≡ slice_index words f.word + v * 2 ^ f.shift
put_same words f v there = get_or-set_same words f.word (slice_index words f.word + v * 2 ^ f.shift) 0 there

put_other : (words : List ℕ) (f : Field) (v k : ℕ) → k ≢ f.word → slice_index (put words f v) k ≡ slice_index words k
put_other words f v k other = get_or-set_other words f.word k (slice_index words f.word + v * 2 ^ f.shift) 0 other

-- one field less is laid in the words after a put
laid_put : (words : List ℕ) (f : Field) (fs : List Field) (v : ℕ) → IsLaid (length words) (f ∷ fs) → IsLaid (length (put words f v)) fs
laid_put words f fs v laid = subst (λ n. IsLaid n fs) (sym (length-put words f v)) (laid_rest (length words) f fs laid)

-- after a value is put into the first field, the later ones are still free
free_rest : (words : List ℕ) (f : Field) (fs : List Field) (v : ℕ) → IsLaid (length words) (f ∷ fs) → v < 2 ^ f.bits → IsFree (f ∷ fs) words → IsFree fs (put words f v)
free_rest words f fs v laid small free = record {
  free = λ i g at. elim (cases_eq g.word f.word) [
    | inl same ↦
        let there : f.word < length words = (laid.within zero f refl).0 in
        let below : slice_index words f.word + v * 2 ^ f.shift < 2 ^ (f.shift + f.bits) = put_below (slice_index words f.word) v f.shift f.bits (free.free zero f refl) small in
        let order : f.shift + f.bits ≤ g.shift = laid.apart zero (suc i) f g (omega arith) refl at (sym same) in
        let wider : 2 ^ (f.shift + f.bits) ≤ 2 ^ g.shift = pow-le-pow_right {n = 2} (omega arith) order in
        let is : slice_index (put words f v) g.word ≡ slice_index words f.word + v * 2 ^ f.shift = ap (λ k. slice_index (put words f v) k) same ∙ put_same words f v there in
        rw is (omega (arith, below, wider))
    | inr apart ↦ rw (put_other words f v g.word apart) (free.free (suc i) g at)
  ];
}

-- a field that all others of its word come after keeps what is read there
keeps : (fs : List Field) (vs words : List ℕ) (g : Field) → IsLaid (length words) fs → ((i : ℕ) (f : Field) → slice_get fs i ≡ Some f → g.word ≡ f.word → g.shift + g.bits ≤ f.shift) → value_in (with_values fs vs words) g ≡ value_in words g
keeps [] vs words g laid after = refl
keeps (f ∷ fs) [] words g laid after = refl
keeps (f ∷ fs) (v ∷ vs) words g laid after =
    keeps fs vs (put words f v) g (laid_put words f fs v laid) (λ i h at same. after (suc i) h at same)
    ∙ elim (cases_eq g.word f.word) [
      | inl same ↦
          let there : f.word < length words = (laid.within zero f refl).0 in
          let is : slice_index (put words f v) g.word ≡ slice_index words g.word + v * 2 ^ f.shift = ap (λ k. slice_index (put words f v) k) same ∙ put_same words f v there ∙ ap (λ k. slice_index words k + v * 2 ^ f.shift) (sym same) in
          ap (λ z. z / 2 ^ g.shift % 2 ^ g.bits) is ∙ kept (slice_index words g.word) v g.shift g.bits f.shift (after zero f refl same)
      | inr apart ↦ ap (λ z. z / 2 ^ g.shift % 2 ^ g.bits) (put_other words f v g.word apart)
    ]

reads_onto : (fs : List Field) (vs words : List ℕ) (var : ℕ) (g : Field) → IsLaid (length words) fs → Fit fs vs → IsFree fs words → slice_get fs var ≡ Some g → value_in (with_values fs vs words) g ≡ slice_index vs var
reads_onto [] vs words var g laid fit free at = absurd (cc)
reads_onto (f ∷ fs) [] words var g laid fit free at = absurd (omega (arith, fit.long))
reads_onto (f ∷ fs) (v ∷ vs) words zero g laid fit free at =
    let is : f ≡ g = cc in
    let there : f.word < length words = (laid.within zero f refl).0 in
    subst (λ h. value_in (with_values fs vs (put words f v)) h ≡ v) is
    (keeps fs vs (put words f v) f (laid_put words f fs v laid) (λ i h there same. laid.apart zero (suc i) f h (omega arith) refl there same)
    ∙ ap (λ z. z / 2 ^ f.shift % 2 ^ f.bits) (put_same words f v there)
    ∙ placed (slice_index words f.word) v f.shift f.bits (free.free zero f refl) (fit.small zero f refl))
reads_onto (f ∷ fs) (v ∷ vs) words (suc var) g laid fit free at =
    reads_onto fs vs (put words f v) var g (laid_put words f fs v laid) (fit_rest f fs v vs fit) (free_rest words f fs v laid (fit.small zero f refl) free) at

free_zeros : (n : ℕ) (fs : List Field) → IsLaid n fs → IsFree fs (replicate n 0)
free_zeros n fs laid = record {
  free = λ i f at.
      let there : f.word < n = (laid.within i f at).0 in
      subst (λ z. z < 2 ^ f.shift) (sym (get_or-replicate {A = ℕ} n f.word 0 0 there)) (pow_pos f.shift);
}

-- of a packed state, each field has the value of its variable
pub reads : (layout : Places) (state : List ℕ) (var : ℕ) (field : Field) → IsLaid layout.words layout.fields → CanHold layout state → slice_get layout.fields var ≡ Some field → value_in (packed layout state) field ≡ slice_index state var
reads layout state var field laid can at =
    reads_onto layout.fields state (replicate layout.words 0) var field (subst (λ k. IsLaid k layout.fields) (sym (length-replicate layout.words 0)) laid) (fit_of layout state can) (free_zeros layout.words layout.fields laid) at

-- the words after the values of the first variables are put
pub record PackedTo (layout : Places) (state : List ℕ) (i : ℕ) (out : List ℕ) : Type 0 where
  pub same : with_values (drop i layout.fields) (drop i state) out ≡ packed layout state
  pub free : IsFree (drop i layout.fields) out
  pub long : length out ≡ layout.words

pub packed_none : (layout : Places) (state out : List ℕ) → IsLaid layout.words layout.fields → out ≡ replicate layout.words 0 → PackedTo layout state 0 out
packed_none layout state out laid is = record {
  same = ap (λ words. with_values layout.fields state words) is;
  free = subst (λ words. IsFree layout.fields words) (sym is) (free_zeros layout.words layout.fields laid);
  long = ap length is ∙ length-replicate layout.words 0;
}

split_at : {A : Type 0} (i : ℕ) (xs : List A) (x : A) → slice_get xs i ≡ Some x → drop i xs ≡ x ∷ drop (suc i) xs
split_at i xs x at = drop-cons xs i x (slice_get_within xs i x at) ∙ ap (λ y. y ∷ drop (suc i) xs) (get_or_from_slice_get xs i x x at)

-- the next field is free
pub free_now : (layout : Places) (state out : List ℕ) (i : ℕ) (f : Field) → slice_get layout.fields i ≡ Some f → PackedTo layout state i out → slice_index out f.word < 2 ^ f.shift
free_now layout state out i f at packed_to = packed_to.free.free zero f (ap (λ fs. slice_get fs zero) (split_at i layout.fields f at))

laid_drop : (i n : ℕ) (fs : List Field) → IsLaid n fs → IsLaid n (drop i fs)
laid_drop zero n fs laid = laid
laid_drop (suc i) n [] laid = laid
laid_drop (suc i) n (f ∷ fs) laid = laid_drop i n fs (laid_rest n f fs laid)

-- one value more
pub packed_more : (layout : Places) (state out : List ℕ) (i : ℕ) (f : Field) → IsLaid layout.words layout.fields → CanHold layout state → slice_get layout.fields i ≡ Some f → PackedTo layout state i out →
    PackedTo layout state (i + 1) (put out f (slice_index state i))
packed_more layout state out i f laid can at packed_to =
    let n = layout.words in
    let fs = layout.fields in
    let v = slice_index state i in
    let lt : i < length fs = slice_get_within fs i f at in
    let cons : drop i fs ≡ f ∷ drop (suc i) fs = split_at i fs f at in
    let cons_v : drop i state ≡ v ∷ drop (suc i) state = drop-cons state i 0 (let long : length state ≡ length fs = can.long in omega arith) in
    let laid_i : IsLaid (length out) (f ∷ drop (suc i) fs) = subst (λ k. IsLaid k (f ∷ drop (suc i) fs)) (sym packed_to.long) (subst (λ gs. IsLaid n gs) cons (laid_drop i n fs laid)) in
    let free_i : IsFree (f ∷ drop (suc i) fs) out = subst (λ gs. IsFree gs out) cons packed_to.free in
    let next : suc i ≡ i + 1 = omega arith in
    subst (λ k. PackedTo layout state k (put out f v)) next (record {
      same = ap (λ gs. with_values gs (v ∷ drop (suc i) state) out) (sym cons) ∙ ap (λ vs. with_values (drop i fs) vs out) (sym cons_v) ∙ packed_to.same;
      free = free_rest out f (drop (suc i) fs) v laid_i (can.room i f at) free_i;
      long = length-put out f v ∙ packed_to.long;
    })

drop_past : {A : Type 0} (i : ℕ) (xs : List A) → length xs ≤ i → drop i xs ≡ []
drop_past zero [] le = refl
drop_past zero (x ∷ xs) le = absurd (omega arith)
drop_past (suc i) [] le = refl
drop_past (suc i) (x ∷ xs) le = drop_past i xs (omega arith)

-- all values
pub packed_all : (layout : Places) (state out : List ℕ) (i : ℕ) → length layout.fields ≤ i → PackedTo layout state i out → out ≡ packed layout state
packed_all layout state out i le packed_to = sym (ap (λ fs. with_values fs (drop i state) out) (drop_past i layout.fields le)) ∙ packed_to.same

pub same_list : (xs ys : List ℕ) → length xs ≡ length ys → ((k : ℕ) → k < length ys → slice_index xs k ≡ slice_index ys k) → xs ≡ ys
same_list [] [] long each = refl
same_list [] (y ∷ ys) long each = absurd (omega arith)
same_list (x ∷ xs) [] long each = absurd (omega arith)
same_list (x ∷ xs) (y ∷ ys) long each =
    let first : x ≡ y = each zero (omega arith) in
    let rest : xs ≡ ys = same_list xs ys (omega arith) (λ k lt. each (suc k) (omega arith)) in
    cc

field_at : (fs : List Field) (k : ℕ) → k < length fs → (f : Field) × (slice_get fs k ≡ Some f)
field_at [] k lt = absurd (omega arith)
field_at (f ∷ fs) zero lt = (f, refl)
field_at (f ∷ fs) (suc k) lt = field_at fs k (omega arith)

-- states with equal words are equal
pub packed_apart : (layout : Places) (state other : List ℕ) → IsLaid layout.words layout.fields → CanHold layout state → CanHold layout other → packed layout state ≡ packed layout other → state ≡ other
packed_apart layout state other laid here there same =
    same_list state other (here.long ∙ sym there.long) (λ k lt.
    let within : k < length layout.fields = omega (arith, there.long) in
    let field = field_at layout.fields k within in
    sym (reads layout state k field.0 laid here field.1) ∙ ap (λ (words : List ℕ). value_in words field.0) same ∙ reads layout other k field.0 laid there field.1)

length-with_values : (fs : List Field) (vs words : List ℕ) → length (with_values fs vs words) ≡ length words
length-with_values [] vs words = refl
length-with_values (f ∷ fs) [] words = refl
length-with_values (f ∷ fs) (v ∷ vs) words = length-with_values fs vs (put words f v) ∙ length-put words f v

pub packed_long : (layout : Places) (state : List ℕ) → length (packed layout state) ≡ layout.words
packed_long layout state = length-with_values layout.fields state (replicate layout.words 0) ∙ length-replicate layout.words 0

-- a layout with room for the values of each variable is for the task
pub layout_for : (parts : Parts) (layout : Places) → IsLaid layout.words layout.fields → length layout.fields ≡ length parts.variables →
    ((var : ℕ) (field : Field) → slice_get layout.fields var ≡ Some field → range_of parts.variables var ≤ 2 ^ field.bits) → IsFor layout parts
layout_for parts layout laid long room = record {
  laid = laid;
  long = long;
  holds = λ state is. record {
    long = is.long ∙ sym long;
    room = λ var field at.
        let within : var < length layout.fields = slice_get_within layout.fields var field at in
        let in_range : slice_index state var < range_of parts.variables var = is.in_range var (omega (arith, within, long)) in
        let enough : range_of parts.variables var ≤ 2 ^ field.bits = room var field at in
        omega (arith, in_range, enough);
  };
  wide = packed_long layout;
  apart = λ state other here there same. packed_apart layout state other laid here there same;
}
