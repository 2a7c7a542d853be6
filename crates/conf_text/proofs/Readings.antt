-- Texts that a rule reads, and how such readings are put together.
use Rattle.std.proofs.Common.{◌≡◌, ◌∙◌, refl, sym, ap, subst, ℕ, zero, suc, ◌+◌, ◌<◌, Bool, true, false, List, [], ◌∷◌, ◌++◌, length, take, drop, Result, Ok, arith, append_assoc, length-append, nat_eq}
use Rattle.std.specs.Prelude.{◌||◌, if◌then◌else◌, codes}
use Rattle.std.specs.List.{list_all, position_or_len}
use Rattle.std.proofs.lemmas.List.{append-nil}
use Rattle.std.proofs.lemmas.Bool.{eqb-true}
use Rattle.std.proofs.Math.Seq.{take-append_seam, drop-append_seam}
use Rattle.lama_num.proofs.ListLaws.{both}
use Rattle.text_lines.specs.Lines.{is_blank}
use Rattle.conf_text.specs.Tokens.{Spot, Token, is_word_byte, is_word, ends_word, after_blanks, token_length, cut_token, next}
use Rattle.conf_text.specs.Rules.{Rule, ◌>>=◌, gives, behind, token, fixed, another, member_and_more, members}
use Rattle.conf_text.specs.Written.{behind_commas}
use Rattle.conf_text.specs.declared.faults.ConfBad.{ConfBad}

abbrev pub spot : ℕ → List ℕ → Spot
spot place left = record { place = place; left = left }

abbrev pub token_at : ℕ → List ℕ → Token
token_at place text = record { place = place; text = text }

-- Whatever follows a text, unless it goes on as a word: the rule reads the text as this, and stops byte more.
pub record Reads {A : Type 0} (rule : Rule A) (text : List ℕ) (x : A) : Type 0 where
  pub reads : (place : ℕ) (rest : List ℕ) → is_word rest ≡ false → rule (spot place (text ++ rest)) ≡ Ok (x, spot (place + length text) rest)

-- the same of a text that ends by itself
pub record ReadsSign {A : Type 0} (rule : Rule A) (text : List ℕ) (x : A) : Type 0 where
  pub reads : (place : ℕ) (rest : List ℕ) → rule (spot place (text ++ rest)) ≡ Ok (x, spot (place + length text) rest)

-- a text in front of which a word ends
pub record EndsWord (text : List ℕ) : Type 0 where
  pub ends : (rest : List ℕ) → is_word (text ++ rest) ≡ false

pub reads_sign : {A : Type 0} (rule : Rule A) (text : List ℕ) (x : A) → ReadsSign rule text x → Reads rule text x
reads_sign rule text x sign = record { reads = λ place rest stops. sign.reads place rest }

pub reads_gives : {A : Type 0} (x : A) → Reads (gives x) [] x
reads_gives x = record { reads = λ place rest stops. ap (λ (k : ℕ). Ok (x, spot k rest)) (let e : place ≡ place + 0 = omega arith in e) }

-- one rule after another, at a place
then_reads : {A B : Type 0} (rule : Rule A) (more : A → Rule B) (t u rest : List ℕ) (x : A) (y : B) (place : ℕ) → rule (spot place (t ++ (u ++ rest))) ≡ Ok (x, spot (place + length t) (u ++ rest)) →
    more x (spot (place + length t) (u ++ rest)) ≡ Ok (y, spot (place + length t + length u) rest) → (rule >>= more) (spot place ((t ++ u) ++ rest)) ≡ Ok (y, spot (place + length (t ++ u)) rest)
then_reads rule more t u rest x y place one two =
    let first : rule (spot place ((t ++ u) ++ rest)) ≡ Ok (x, spot (place + length t) (u ++ rest)) = rw (append_assoc t u rest) one in
    let sum : place + length t + length u ≡ place + length (t ++ u) = omega (arith, length-append t u) in
    rw first (two ∙ ap (λ (k : ℕ). Ok (y, spot k rest)) sum)

-- one rule after another
pub reads_bind : {A B : Type 0} (rule : Rule A) (more : A → Rule B) (t u : List ℕ) (x : A) (y : B) → Reads rule t x → EndsWord u → Reads (more x) u y → Reads (rule >>= more) (t ++ u) y
reads_bind rule more t u x y first ends second = record { reads = λ place rest stops. then_reads rule more t u rest x y place (first.reads place (u ++ rest) (ends.ends rest)) (second.reads (place + length t) rest stops) }

pub sign_bind : {A B : Type 0} (rule : Rule A) (more : A → Rule B) (t u : List ℕ) (x : A) (y : B) → ReadsSign rule t x → Reads (more x) u y → Reads (rule >>= more) (t ++ u) y
sign_bind rule more t u x y first second = record { reads = λ place rest stops. then_reads rule more t u rest x y place (first.reads place (u ++ rest)) (second.reads (place + length t) rest stops) }

-- a rule whose value is changed
pub reads_map : {A B : Type 0} (rule : Rule A) (f : A → B) (t : List ℕ) (x : A) → Reads rule t x → Reads (rule >>= λ a. gives (f a)) t (f x)
reads_map rule f t x first = record { reads = λ place rest stops. rw (first.reads place rest stops) refl }

pub reads_same : {A : Type 0} (rule : Rule A) (t u : List ℕ) (x : A) → t ≡ u → Reads rule t x → Reads rule u x
reads_same rule t u x same reads = subst (λ (v : List ℕ). Reads rule v x) same reads

-- words

not_blank : (b : ℕ) → is_word_byte b ≡ true → is_blank b ≡ false
not_blank b word = by_tests (nat_eq b 32) (nat_eq b 9) refl refl
  where
    at_space : nat_eq b 32 ≡ true → false ≡ true
    at_space e = let same : b ≡ 32 = eqb-true b 32 e in subst (λ (c : ℕ). is_word_byte c ≡ true) same word

    at_tab : nat_eq b 9 ≡ true → false ≡ true
    at_tab e = let same : b ≡ 9 = eqb-true b 9 e in subst (λ (c : ℕ). is_word_byte c ≡ true) same word

    by_tests : (space tab : Bool) → nat_eq b 32 ≡ space → nat_eq b 9 ≡ tab → (space || tab) ≡ false
    by_tests true tab s t = let k : false ≡ true = at_space s in cc
    by_tests false true s t = let k : false ≡ true = at_tab t in cc
    by_tests false false s t = refl

-- all bytes of a word are its own
word_goes : (w rest : List ℕ) → list_all is_word_byte w ≡ true → is_word rest ≡ false → position_or_len ends_word (w ++ rest) ≡ length w
word_goes [] [] all stops = refl
word_goes [] (b ∷ bs) all stops = rw stops refl
word_goes (b ∷ bs) rest all stops =
    let parts = both (is_word_byte b) (list_all is_word_byte bs) all in
    let more : position_or_len ends_word (bs ++ rest) ≡ length bs = word_goes bs rest parts.1 stops in
    rw (parts.0, more) (let e : 1 + length bs ≡ suc (length bs) = omega arith in e)

if_is : (t : Bool) (x y : ℕ) → t ≡ true → (if t then x else y) ≡ x
if_is true x y e = refl
if_is false x y e = let k : false ≡ true = e in cc

length_is : (w rest : List ℕ) → list_all is_word_byte w ≡ true → is_word w ≡ true → is_word rest ≡ false → token_length (w ++ rest) ≡ length w
unfolding token_length
length_is [] rest all word stops = let k : false ≡ true = word in cc
length_is (b ∷ bs) rest all word stops = if_is (is_word_byte b) (position_or_len ends_word ((b ∷ bs) ++ rest)) 1 word ∙ word_goes (b ∷ bs) rest all stops

blanks_none : (w rest : List ℕ) (place : ℕ) → is_word w ≡ true → after_blanks place (w ++ rest) ≡ spot place (w ++ rest)
unfolding after_blanks
blanks_none [] rest place word = let k : false ≡ true = word in cc
blanks_none (b ∷ bs) rest place word = rw (not_blank b word) refl

cut_at : (place n : ℕ) (w rest : List ℕ) → n ≡ length w → ◌≡◌ {A = Token × Spot} (token_at place (take n (w ++ rest)), spot (place + n) (drop n (w ++ rest))) (token_at place w, spot (place + length w) rest)
cut_at place n w rest is = rw (is, take-append_seam w rest, drop-append_seam w rest) refl

pub next_word : (w rest : List ℕ) (place : ℕ) → list_all is_word_byte w ≡ true → is_word w ≡ true → is_word rest ≡ false → ◌≡◌ {A = Token × Spot} (next (spot place (w ++ rest))) (token_at place w, spot (place + length w) rest)
unfolding next
next_word w rest place all word stops = ap cut_token (blanks_none w rest place word) ∙ cut_at place (token_length (w ++ rest)) w rest (length_is w rest all word stops)

-- what stands for a word
pub record IsWord (w : List ℕ) : Type 0 where
  pub all : list_all is_word_byte w ≡ true
  pub some : is_word w ≡ true

-- one token that is a word
pub reads_word : {A : Type 0} (may : Token → Result A ConfBad) (w : List ℕ) (x : A) → IsWord w → ((place : ℕ) → may (token_at place w) ≡ Ok x) → Reads (token may) w x
reads_word may w x is each = record { reads = λ place rest stops. rw (next_word w rest place is.all is.some stops, each place) refl }

-- a rule that depends on a word
pub reads_behind : {A : Type 0} (by : Token → Rule A) (rule : Rule A) (w u : List ℕ) (y : A) → IsWord w → EndsWord u → ((place : ℕ) (s : Spot) → by (token_at place w) s ≡ rule s) → Reads rule u y → Reads (behind by) (w ++ u) y
reads_behind by rule w u y is ends each second = record {
  reads = λ place rest stops.
      let first : ◌≡◌ {A = Token × Spot} (next (spot place ((w ++ u) ++ rest))) (token_at place w, spot (place + length w) (u ++ rest)) = rw (append_assoc w u rest) (next_word w (u ++ rest) place is.all is.some (ends.ends rest)) in
      let sum : place + length w + length u ≡ place + length (w ++ u) = omega (arith, length-append w u) in
      rw first (each place (spot (place + length w) (u ++ rest)) ∙ second.reads (place + length w) rest stops ∙ ap (λ (k : ℕ). Ok (y, spot k rest)) sum);
}

-- signs

pub reads_open : ReadsSign (fixed (codes "(")) (codes "(") tt
unfolding next after_blanks token_length
reads_open = record { reads = λ place rest. refl }

pub reads_close : ReadsSign (fixed (codes ")")) (codes ")") tt
unfolding next after_blanks token_length
reads_close = record { reads = λ place rest. refl }

pub reads_bracket : ReadsSign (fixed (codes "[")) (codes "[") tt
unfolding next after_blanks token_length
reads_bracket = record { reads = λ place rest. refl }

pub reads_equals : ReadsSign (fixed (codes "=")) (codes "=") tt
unfolding next after_blanks token_length
reads_equals = record { reads = λ place rest. refl }

-- what may follow a member of a list
pub record Closes (close : List ℕ) : Type 0 where
  pub comma : ReadsSign (another close) (codes ",") true
  pub last : ReadsSign (another close) close false
  pub ends : EndsWord close

pub closes_round : Closes (codes ")")
unfolding next after_blanks token_length
closes_round = record { comma = record { reads = λ place rest. refl }; last = record { reads = λ place rest. refl }; ends = record { ends = λ rest. refl } }

pub closes_square : Closes (codes "]")
unfolding next after_blanks token_length
closes_square = record { comma = record { reads = λ place rest. refl }; last = record { reads = λ place rest. refl }; ends = record { ends = λ rest. refl } }

-- lists

-- each member is read behind those in front
unfoldable pub Chain : {A B : Type 0} → (A → Rule A) → (B → List ℕ) → A → List B → A → Type 0
Chain member text x [] y = x ≡ y
Chain {A} member text x (b ∷ bs) y = (z : A) × Reads (member x) (text b) z × Chain member text z bs y

pub chain_nil : {A B : Type 0} (member : A → Rule A) (text : B → List ℕ) (x y : A) → x ≡ y → Chain member text x [] y
unfolding Chain
chain_nil member text x y same = same

pub chain_cons : {A B : Type 0} (member : A → Rule A) (text : B → List ℕ) (x y z : A) (b : B) (bs : List B) → Reads (member x) (text b) z → Chain member text z bs y → Chain member text x (b ∷ bs) y
unfolding Chain
chain_cons member text x y z b bs reads more = (z, reads, more)

pub comma_ends : {B : Type 0} (text : B → List ℕ) (bs : List B) (close : List ℕ) → EndsWord close → EndsWord (behind_commas text bs ++ close)
comma_ends text [] close ends = ends
comma_ends text (b ∷ bs) close ends = record { ends = λ rest. refl }

-- a member and the sign behind it
member_and_sign : {A : Type 0} (close : List ℕ) (member : A → Rule A) (x z : A) (t sign : List ℕ) (more : Bool) → EndsWord sign → Reads (member x) t z → ReadsSign (another close) sign more → ReadsSign (member_and_more close member x) (t ++ sign) (z, more)
member_and_sign close member x z t sign more ends one two = record {
  reads = λ place rest.
      then_reads (member x) (λ all. another close >>= λ m. gives (all, m)) t sign rest z (z, more) place (one.reads place (sign ++ rest) (ends.ends rest)) (rw (two.reads (place + length t) rest) refl);
}

abbrev onto : {A : Type 0} → List ℕ → (A → Rule A) → ℕ → A × Bool → Rule A
onto close member n r = if r.1 then members close member n r.0 else gives r.0

-- the last member stands in front of what closes the list
reads_last : {A : Type 0} (close : List ℕ) (member : A → Rule A) (n : ℕ) (x z : A) (t : List ℕ) → Closes close → Reads (member x) t z → Reads (members close member (suc n) x) (t ++ close) z
unfolding members
reads_last close member n x z t closes one =
    reads_same (member_and_more close member x >>= onto close member n) ((t ++ close) ++ []) (t ++ close) z (append-nil (t ++ close))
    (sign_bind (member_and_more close member x) (onto close member n) (t ++ close) [] (z, false) z (member_and_sign close member x z t close false closes.ends one closes.last) (reads_gives z))

comma_word : EndsWord (codes ",")
comma_word = record { ends = λ rest. refl }

-- any other stands in front of a comma
reads_next : {A : Type 0} (close : List ℕ) (member : A → Rule A) (n : ℕ) (x z y : A) (t u : List ℕ) → Closes close → Reads (member x) t z → Reads (members close member n z) u y → Reads (members close member (suc n) x) ((t ++ codes ",") ++ u) y
unfolding members
reads_next close member n x z y t u closes one more =
    sign_bind (member_and_more close member x) (onto close member n) (t ++ codes ",") u (z, true) y (member_and_sign close member x z t (codes ",") true comma_word one closes.comma) more

commas_shift : (t v w close : List ℕ) → (t ++ codes ",") ++ (v ++ (w ++ close)) ≡ t ++ (((codes "," ++ v) ++ w) ++ close)
commas_shift t v w close = append_assoc t (codes ",") (v ++ (w ++ close)) ∙ ap (λ (r : List ℕ). t ++ (codes "," ++ r)) (sym (append_assoc v w close))

-- a list of members
pub reads_members : {A B : Type 0} (close : List ℕ) (member : A → Rule A) (text : B → List ℕ) (n : ℕ) (x y : A) (b : B) (bs : List B) → Closes close → Chain member text x (b ∷ bs) y → length bs < n →
    Reads (members close member n x) (text b ++ (behind_commas text bs ++ close)) y
unfolding Chain
reads_members close member text zero x y b bs closes chain few = absurd (omega arith)
reads_members close member text (suc n) x y b [] closes chain few =
    subst (λ z. Reads (members close member (suc n) x) (text b ++ close) z) chain.2 (reads_last close member n x chain.0 (text b) closes chain.1)
reads_members close member text (suc n) x y b (c ∷ cs) closes chain few =
    reads_same (members close member (suc n) x) ((text b ++ codes ",") ++ (text c ++ (behind_commas text cs ++ close))) (text b ++ (behind_commas text (c ∷ cs) ++ close)) y (commas_shift (text b) (text c) (behind_commas text cs) close)
    (reads_next close member n x chain.0 y (text b) (text c ++ (behind_commas text cs ++ close)) closes chain.1 (reads_members close member text n chain.0 y c cs closes chain.2 (omega arith)))
