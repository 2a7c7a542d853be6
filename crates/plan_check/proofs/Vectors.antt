-- Vectors of words in a set.
use Rattle.std.proofs.Common.{◌≡◌, ◌∙◌, sym, ap, refl, ℕ, List, [], ◌∷◌, ◌++◌, length, take, drop, Bool, true, false, arith, append-nil}
use Rattle.std.specs.Prelude.{◌||◌, not, nat_eq, if◌then◌else◌, Vec}
use Rattle.std.specs.declared.alloc.Global.{Global}
use Rattle.std.specs.List.{list_any}
use Rattle.std.specs.Cmp.Lexicographic.{pointwise}
use Rattle.std.specs.Str.{bytes_eq}
use Rattle.std.proofs.lemmas.List.{drop_all, take_all}
use Rattle.plan_check.specs.Layers.{words_of}

abbrev pub has_words : List ℕ → List (Vec ℕ Global) → Bool
has_words words vectors = list_any (λ (v : Vec ℕ Global). pointwise nat_eq words v.items) vectors

any_vectors : (vectors : List (Vec ℕ Global)) (words : List ℕ) → has_words words vectors ≡ list_any (bytes_eq words) (words_of vectors)
any_vectors [] words = refl
any_vectors (v ∷ vectors) words = ap (λ b. pointwise nat_eq words v.items || b) (any_vectors vectors words)

words_of-last : (vectors : List (Vec ℕ Global)) (v : Vec ℕ Global) → words_of (vectors ++ v ∷ []) ≡ words_of vectors ++ v.items ∷ []
words_of-last [] v = refl
words_of-last (w ∷ vectors) v = ap (λ (ws : List (List ℕ)). w.items ∷ ws) (words_of-last vectors v)

-- what adding a vector tells of the words
module _ (vectors now : List (Vec ℕ Global)) (v : Vec ℕ Global) (words : List ℕ) (new : Bool) (pairs : List (List ℕ)) (are : words_of vectors ≡ pairs) (is : v.items ≡ words) (told : new ≡ not (has_words v.items vectors)) where
  there : has_words v.items vectors ≡ list_any (bytes_eq words) pairs
  there = any_vectors vectors v.items ∙ ap (λ ws. list_any (bytes_eq ws) (words_of vectors)) is ∙ ap (list_any (bytes_eq words)) are

  pub new_is : new ≡ not (list_any (bytes_eq words) pairs)
  new_is = told ∙ ap not there

  pub added_is : now ≡ (if has_words v.items vectors then vectors else (vectors ++ v ∷ [])) → words_of now ≡ (if new then (pairs ++ words ∷ []) else pairs)
  added_is keys =
      ap words_of keys
      ∙ elim (has_words v.items vectors) as (λ b. words_of (if b then vectors else (vectors ++ v ∷ [])) ≡ (if not b then (pairs ++ words ∷ []) else pairs)) [
        | true ↦ are
        | false ↦ words_of-last vectors v ∙ ap (λ ws. ws ++ v.items ∷ []) are ∙ ap (λ w. pairs ++ w ∷ []) is
      ]
      ∙ ap (λ b. if b then (pairs ++ words ∷ []) else pairs) (sym told)

-- a vector after its slice was written
pub written_back : (n : ℕ) (out old : List ℕ) → length out ≡ length old → length old ≡ n → take n (out ++ drop (length out) old) ≡ out
written_back n out old long all =
    ap (λ xs. take n (out ++ xs)) (drop_all (length out) old (omega (arith, long)))
    ∙ ap (take n) (append-nil out)
    ∙ take_all n out (omega (arith, long, all))

-- the first pair that is added
pub added_first : (old now : List (List ℕ)) (new : Bool) (words : List ℕ) → old ≡ [] → new ≡ not (list_any (bytes_eq words) old) → now ≡ (if new then (old ++ words ∷ []) else old) → now ≡ words ∷ []
added_first old now new words none told added =
    let is : new ≡ true = told ∙ ap (λ xs. not (list_any (bytes_eq words) xs)) none in
    added ∙ ap (λ b. if b then (old ++ words ∷ []) else old) is ∙ ap (λ xs. xs ++ words ∷ []) none
