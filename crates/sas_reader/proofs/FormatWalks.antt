-- Walks over formats that are put together.
use Rattle.std.proofs.Common.{◌≡◌, ◌∙◌, sym, refl, ℕ, suc, ◌+◌, ◌-◌, ◌<◌, ◌≤◌, ◌++◌, ◌∷◌, [], List, length, drop, get_or, drop-cons, add-one, Result, Ok, Err, append_assoc, arith}
use Rattle.std.proofs.lemmas.List.{append-nil, drop_all}
use Rattle.lama_num.specs.Gives.{◌>>=◌, Fails}
use Rattle.text_lines.specs.Lines.{Place}
use Rattle.sas_reader.specs.Formats.{Format, Done, Line, Kind, Value, line, times, each}
use Rattle.sas_reader.specs.Formats as formats
use Rattle.sas_reader.specs.Walks.{walk, next, fault_of}
use Rattle.sas_reader.specs.declared.faults.SasFault.{SasFault}
use Rattle.sas_reader.specs.declared.faults.SasError.{SasError}
use Rattle.sas_reader.specs.declared.faults.SasError.TheVariants.{Bad, NoMemory}

abbrev pub Walked : Type 0 → Type 0
Walked A = Result (A × Place) SasFault

pub bind_bind : {A B C : Type 0} (r : Result A SasFault) (f : A → Result B SasFault) (g : B → Result C SasFault) → ((r >>= f) >>= g) ≡ (r >>= λ x. f x >>= g)
bind_bind (Ok x) f g = refl
bind_bind (Err e) f g = refl

pub bind_same : {A B : Type 0} (r : Result A SasFault) (f g : A → Result B SasFault) → ((x : A) → f x ≡ g x) → (r >>= f) ≡ (r >>= g)
bind_same (Ok x) f g e = e x
bind_same (Err x) f g e = refl

-- what follows a format starts where it ends
pub walk_on : {A B : Type 0} (format : Format A) (more : A → Format B) (place : Place) → walk (formats.◌>>=◌ format more) place ≡ (walk format place >>= λ r. walk (more r.0) r.1)
walk_on (Done x) more place = refl
walk_on (Line kind onward) more place =
    bind_same (next kind place) _ _ (λ r. walk_on (onward r.0) more r.1) ∙ sym (bind_bind (next kind place) _ _)

-- a list in front of what a walk gives
abbrev pub behind : {A : Type 0} → List A → Walked (List A) → Walked (List A)
behind front read = read >>= λ r. Ok (front ++ r.0, r.1)

-- one more in front of the others
pub behind_cons : {A : Type 0} (front : List A) (x : A) (r : Walked (List A)) → behind (front ++ x ∷ []) r ≡ behind front (r >>= λ xs. Ok (x ∷ xs.0, xs.1))
behind_cons front x (Ok xs) = simp append_assoc
behind_cons front x (Err e) = refl

-- one more
pub times_suc : {A : Type 0} (format : Format A) (n : ℕ) (place : Place) →
    walk (times (suc n) format) place ≡ (walk format place >>= λ x. walk (times n format) x.1 >>= λ xs. Ok (x.0 ∷ xs.0, xs.1))
unfolding times
times_suc format n place = walk_on format _ place ∙ bind_same (walk format place) _ _ (λ x. walk_on (times n format) _ x.1)

-- a loop that reads so many, from one turn to the next
pub loop_more : {A : Type 0} (format : Format A) (front : List A) (n i : ℕ) (place rest : Place) (x : A) → i < n → walk format place ≡ Ok (x, rest) →
    behind (front ++ x ∷ []) (walk (times (n - (i + 1)) format) rest) ≡ behind front (walk (times (n - i) format) place)
loop_more format front n i place rest x lt is =
    let one : n - i ≡ suc (n - (i + 1)) = omega arith in
    rw (one, times_suc format (n - (i + 1)) place, is) (behind_cons front x (walk (times (n - (i + 1)) format) rest))

-- its end
pub loop_none : {A : Type 0} (format : Format A) (front : List A) (n i : ℕ) (place : Place) → n ≤ i → behind front (walk (times (n - i) format) place) ≡ Ok (front, place)
unfolding times
loop_none format front n i place le = let none : n - i ≡ 0 = omega arith in rw (none, append-nil front) refl

-- a fault in it
pub loop_fail : {A : Type 0} (format : Format A) (front : List A) (n i : ℕ) (place : Place) (fault : SasFault) → i < n → walk format place ≡ Err fault →
    behind front (walk (times (n - i) format) place) ≡ Err fault
loop_fail format front n i place fault lt is = let one : n - i ≡ suc (n - (i + 1)) = omega arith in rw (one, times_suc format (n - (i + 1)) place, is) refl

pub ruleset loops = (loop_more, loop_none, loop_fail)

-- the same of lines of a kind
pub lines_fail : (kind : Kind) (front : List (Value kind)) (n i : ℕ) (place : Place) (e : SasError) → i < n → Fails (fault_of e) (next kind place) →
    Fails (fault_of e) (behind front (walk (times (n - i) (line kind)) place))
lines_fail kind front n i place (Bad fault) lt is = loop_fail (line kind) front n i place fault lt (rw is refl)
lines_fail kind front n i place NoMemory lt is = tt

-- one more of a row
pub each_suc : {X A : Type 0} (format : X → Format A) (x : X) (xs : List X) (place : Place) →
    walk (each format (x ∷ xs)) place ≡ (walk (format x) place >>= λ y. walk (each format xs) y.1 >>= λ ys. Ok (y.0 ∷ ys.0, ys.1))
unfolding each
each_suc format x xs place = walk_on (format x) _ place ∙ bind_same (walk (format x) place) _ _ (λ y. walk_on (each format xs) _ y.1)

-- a loop that reads once for each of a row, from one turn to the next
pub row_more : {X A : Type 0} (format : X → Format A) (front : List A) (xs : List X) (i : ℕ) (x : X) (place rest : Place) (y : A) → i < length xs → walk (format (get_or xs i x)) place ≡ Ok (y, rest) →
    behind (front ++ y ∷ []) (walk (each format (drop (i + 1) xs)) rest) ≡ behind front (walk (each format (drop i xs)) place)
row_more format front xs i x place rest y lt is =
    rw (add-one, drop-cons xs i x, each_suc format (get_or xs i x) (drop (suc i) xs) place, is) (behind_cons front y (walk (each format (drop (suc i) xs)) rest))

-- its end
pub row_none : {X A : Type 0} (format : X → Format A) (front : List A) (xs : List X) (i : ℕ) (place : Place) → length xs ≤ i → behind front (walk (each format (drop i xs)) place) ≡ Ok (front, place)
unfolding each
row_none format front xs i place le = let none : drop i xs ≡ [] = drop_all i xs le in rw (none, append-nil front) refl

-- a fault in it
pub row_fail : {X A : Type 0} (format : X → Format A) (front : List A) (xs : List X) (i : ℕ) (x : X) (place : Place) (fault : SasFault) → i < length xs → walk (format (get_or xs i x)) place ≡ Err fault →
    behind front (walk (each format (drop i xs)) place) ≡ Err fault
row_fail format front xs i x place fault lt is = rw (drop-cons xs i x, each_suc format (get_or xs i x) (drop (suc i) xs) place, is) refl
