-- The words of a line, one after another.
use Rattle.std.proofs.Common.{◌≡◌, ◌∙◌, refl, sym, ap, ℕ, suc, ◌+◌, ◌<◌, ◌≤◌, Bool, true, false, List, [], ◌∷◌, ◌++◌, length, drop, arith, append_assoc, length-drop}
use Rattle.std.specs.Prelude.{filter}
use Rattle.std.specs.List.{position_or_len}
use Rattle.std.proofs.lemmas.List.{append-nil}
use Rattle.text_lines.specs.Lines.{is_blank, pieces_of, is_some_bytes, words_of, FirstIsNoBlank}
use Rattle.portfolio_text.specs.PortfolioText.{first_word, without_blanks, behind_word}

-- the pieces behind the first blank
abbrev pieces_behind : List ℕ → List (List ℕ)
pieces_behind [] = []
pieces_behind (b ∷ bs) = pieces_of bs

one_more : (k : ℕ) → 1 + k ≡ suc k
one_more k = omega arith

pieces_split : (line : List ℕ) → pieces_of line ≡ first_word line ∷ pieces_behind (drop (position_or_len is_blank line) line)
pieces_split [] = refl
pieces_split (b ∷ bs) = by_test (is_blank b) refl (pieces_split bs)
  where
    by_test : (blank : Bool) → is_blank b ≡ blank → pieces_of bs ≡ first_word bs ∷ pieces_behind (drop (position_or_len is_blank bs) bs) → pieces_of (b ∷ bs) ≡ first_word (b ∷ bs) ∷ pieces_behind (drop (position_or_len is_blank (b ∷ bs)) (b ∷ bs))
    by_test true e more = rw e refl
    by_test false e more = rw (e, more, one_more (position_or_len is_blank bs)) refl

bare_same : (b : ℕ) (bs : List ℕ) → is_blank b ≡ false → without_blanks (b ∷ bs) ≡ b ∷ bs
bare_same b bs e = rw e refl

blank_same : (b : ℕ) (bs : List ℕ) → is_blank b ≡ true → without_blanks (b ∷ bs) ≡ without_blanks bs
blank_same b bs e = rw e refl

bare_words : (text : List ℕ) → words_of (without_blanks text) ≡ words_of text
bare_words [] = refl
bare_words (b ∷ bs) = by_test (is_blank b) refl (bare_words bs)
  where
    by_test : (blank : Bool) → is_blank b ≡ blank → words_of (without_blanks bs) ≡ words_of bs → words_of (without_blanks (b ∷ bs)) ≡ words_of (b ∷ bs)
    by_test true e more = rw e more
    by_test false e more = ap words_of (bare_same b bs e)

words_behind : (line : List ℕ) → filter is_some_bytes (pieces_behind (drop (position_or_len is_blank line) line)) ≡ words_of (behind_word line)
words_behind [] = refl
words_behind (b ∷ bs) = by_test (is_blank b) refl (words_behind bs)
  where
    by_test : (blank : Bool) → is_blank b ≡ blank → filter is_some_bytes (pieces_behind (drop (position_or_len is_blank bs) bs)) ≡ words_of (behind_word bs) →
        filter is_some_bytes (pieces_behind (drop (position_or_len is_blank (b ∷ bs)) (b ∷ bs))) ≡ words_of (behind_word (b ∷ bs))
    by_test true e more = rw e (sym (ap words_of (blank_same b bs e) ∙ bare_words bs))
    by_test false e more = rw (e, one_more (position_or_len is_blank bs)) more

some_first : (b : ℕ) (bs : List ℕ) → is_blank b ≡ false → is_some_bytes (first_word (b ∷ bs)) ≡ true
some_first b bs e = rw (e, one_more (position_or_len is_blank bs)) refl

-- a line that begins with no blank begins with a word
first_of_words : (b : ℕ) (bs : List ℕ) → is_blank b ≡ false → words_of (b ∷ bs) ≡ first_word (b ∷ bs) ∷ words_of (behind_word (b ∷ bs))
first_of_words b bs e = ap (filter is_some_bytes) (pieces_split (b ∷ bs)) ∙ (rw (some_first b bs e) (ap (λ (ws : List (List ℕ)). first_word (b ∷ bs) ∷ ws) (words_behind (b ∷ bs))))

-- no blank is in front of what is left
pub bare_first : (text : List ℕ) → FirstIsNoBlank (without_blanks text)
bare_first [] = tt
bare_first (b ∷ bs) = by_test (is_blank b) refl (bare_first bs)
  where
    by_test : (blank : Bool) → is_blank b ≡ blank → FirstIsNoBlank (without_blanks bs) → FirstIsNoBlank (without_blanks (b ∷ bs))
    by_test true e more = rw e more
    by_test false e more = rw e e

shorter : (text : List ℕ) → length (without_blanks text) ≤ length text
shorter [] = omega arith
shorter (b ∷ bs) = by_test (is_blank b) refl (shorter bs)
  where
    by_test : (blank : Bool) → is_blank b ≡ blank → length (without_blanks bs) ≤ length bs → length (without_blanks (b ∷ bs)) ≤ suc (length bs)
    by_test true e more = rw e (omega arith)
    by_test false e more = rw e (omega arith)

-- what is read so far, and the words of what is left
pub record Reads (text : List ℕ) (words : List (List ℕ)) (rest : List ℕ) : Type 0 where
  pub same : words ++ words_of rest ≡ words_of text
  pub bare : FirstIsNoBlank rest

pub reads_none : (text rest : List ℕ) (words : List (List ℕ)) → words ≡ [] → rest ≡ without_blanks text → Reads text words rest
reads_none text rest words none is = rw (none, is) (record { same = bare_words text; bare = bare_first text })

pub reads_more : (text : List ℕ) (words more : List (List ℕ)) (rest word behind : List ℕ) → 0 < length rest → Reads text words rest → word ≡ first_word rest → more ≡ words ++ word ∷ [] → behind ≡ behind_word rest → Reads text more behind
reads_more text words more [] word behind some reads first all second = absurd (omega arith)
reads_more text words more (b ∷ bs) word behind some reads first all second = rw (all, first, second) (record {
  same = append_assoc words (first_word (b ∷ bs) ∷ []) (words_of (behind_word (b ∷ bs))) ∙ ap (λ (ws : List (List ℕ)). words ++ ws) (sym (first_of_words b bs reads.bare)) ∙ reads.same;
  bare = bare_first (drop (position_or_len is_blank (b ∷ bs)) (b ∷ bs));
})

-- less is left
pub less_left : (text : List ℕ) (words : List (List ℕ)) (rest behind : List ℕ) → 0 < length rest → Reads text words rest → behind ≡ behind_word rest → length behind < length rest
less_left text words [] behind some reads is = absurd (omega arith)
less_left text words (b ∷ bs) behind some reads is =
    let drops : drop (position_or_len is_blank (b ∷ bs)) (b ∷ bs) ≡ drop (position_or_len is_blank bs) bs = rw (reads.bare, one_more (position_or_len is_blank bs)) refl in
    let short = shorter (drop (position_or_len is_blank bs) bs) in
    let len = length-drop (position_or_len is_blank bs) bs in
    rw (is, drops) (omega arith)

pub all_words : (text : List ℕ) (words : List (List ℕ)) (rest : List ℕ) → length rest ≡ 0 → Reads text words rest → words ≡ words_of text
all_words text words [] none reads = rw append-nil at reads.same
all_words text words (b ∷ bs) none reads = absurd (omega arith)

pub ruleset word_by_word = (reads_none, reads_more, less_left, all_words)
