-- Looking a name up in a journal.
use Rattle.std.proofs.Common.{◌≡◌, ◌≢◌, ◌∙◌, sym, ap, refl, ℕ, List, [], ◌∷◌, ◌++◌, Bool, true, false, ◌||◌, cond, Option, Some, None, reverse, take, length, ◌<◌, ◌≤◌, ◌+◌, ◌-◌, get_or, arith}
use Rattle.std.specs.Prelude.{find, is_some}
use Rattle.std.specs.Str.{bytes_eq}
use Rattle.std.proofs.lemmas.Slice.Eq.{bytes_eq-Decides}
use Rattle.std.proofs.lemmas.List.{reverse-append, take_more, reverse-reverse}
use Rattle.std.specs.FinMap.{get, insert, remove, get-empty}
use Rattle.std.specs.Cmp.Lexicographic.{slice_cmp}
use Rattle.std.specs.Ordering.{nat_cmp}
use Rattle.lama_host.specs.Folder.{Files}
use Rattle.lama_host.proofs.FileLaws.{get-insert_same, get-insert_other, get-remove_same, get-remove_other}
use Rattle.host_mem.specs.Journal.{after, holds, first_held, Write, put_by, written_by}
use Rattle.host_mem.specs.Says.{is_of, held_after, last_write, bytes_after}
use Rattle.host_mem.specs.declared.journal.Change.{Change}
use Rattle.host_mem.specs.declared.journal.Change.TheVariants.{Made, Grew, Moved, Gone, Began, Ended}

same : (a b : List ℕ) → bytes_eq a b ≡ true → b ≡ a
same a b e = sym ((bytes_eq-Decides a b).0 e)

other : (a b : List ℕ) → bytes_eq a b ≡ false → b ≢ a
other a b e is = let t : bytes_eq a b ≡ true = (bytes_eq-Decides a b).1 (sym is) in cc

put_says : (files : Files) (held bytes name : List ℕ) (b : Bool) → bytes_eq held name ≡ b → get (insert files held bytes) name ≡ cond b (Some bytes) (get files name)
put_says files held bytes name true e = rw (same held name e) (get-insert_same files held bytes)
put_says files held bytes name false e = get-insert_other files held bytes name (other held name e)

gone_says : (files : Files) (held name : List ℕ) (b : Bool) → bytes_eq held name ≡ b → get (remove files held) name ≡ cond b None (get files name)
gone_says files held name true e = rw (same held name e) (get-remove_same files held)
gone_says files held name false e = get-remove_other files held name (other held name e)

joined : {A : Type 0} (b c : Bool) (x y z : A) → cond b x (cond c y z) ≡ cond (b || c) (cond b x y) z
joined true c x y z = refl
joined false true x y z = refl
joined false false x y z = refl

-- what a write leaves at a name
write_says : (files : Files) (held : List ℕ) (bytes : Option (List ℕ)) (name : List ℕ) → get (put_by (held, bytes) files) name ≡ cond (bytes_eq held name) bytes (get files name)
write_says files held (Some bytes) name = put_says files held bytes name (bytes_eq held name) refl
write_says files held None name = gone_says files held name (bytes_eq held name) refl

written_by-append : (writes : List Write) (write : Write) (files : Files) → written_by (writes ++ write ∷ []) files ≡ put_by write (written_by writes files)
written_by-append [] write files = refl
written_by-append (first ∷ more) write files = written_by-append more write (put_by first files)

-- the last write of a name decides, of writes the newest first
newest_says : (writes : List Write) (files : Files) (name : List ℕ) →
    get (written_by (reverse writes) files) name
    ≡ cond (is_some (find (λ write. bytes_eq write.0 name) writes)) (bytes_after (find (λ write. bytes_eq write.0 name) writes)) (get files name)
newest_says [] files name = refl
newest_says (write ∷ older) files name =
    ap (λ ws. get (written_by ws files) name) (reverse-cons write older)
    ∙ ap (λ fs. get fs name) (written_by-append (reverse older) write files)
    ∙ write_says (written_by (reverse older) files) write.0 write.1 name
    ∙ ap (λ held. cond (bytes_eq write.0 name) write.1 held) (newest_says older files name)
    ∙ found (bytes_eq write.0 name) write (find (λ w. bytes_eq w.0 name) older) (get files name)
  where
    reverse-cons : (write : Write) (older : List Write) → reverse (write ∷ older) ≡ reverse older ++ write ∷ []
    reverse-cons write older = reverse-append (write ∷ []) older

    found : (b : Bool) (write : Write) (older : Option Write) (held : Option (List ℕ)) →
        cond b write.1 (cond (is_some older) (bytes_after older) held) ≡ cond (is_some (cond b (Some write) older)) (bytes_after (cond b (Some write) older)) held
    found true write older held = refl
    found false write older held = refl

writes_say : (writes : List Write) (files : Files) (name : List ℕ) →
    get (written_by writes files) name ≡ cond (is_some (last_write writes name)) (bytes_after (last_write writes name)) (get files name)
writes_say writes files name = ap (λ ws. get (written_by ws files) name) (sym (reverse-reverse writes)) ∙ newest_says (reverse writes) files name

-- what a name holds after a change
pub get-after : (change : Change) (files : Files) (name : List ℕ) → get (after change files) name ≡ cond (is_of change name) (held_after change name) (get files name)
get-after (Made held) files name = put_says files held [] name (bytes_eq held name) refl
get-after (Grew held piece count bytes) files name = put_says files held bytes name (bytes_eq held name) refl
get-after (Moved old new bytes) files name =
    put_says (remove files old) new bytes name (bytes_eq new name) refl
    ∙ ap (λ o. cond (bytes_eq new name) (Some bytes) o) (gone_says files old name (bytes_eq old name) refl)
    ∙ joined (bytes_eq new name) (bytes_eq old name) (Some bytes) None (get files name)
get-after (Gone held) files name = gone_says files held name (bytes_eq held name) refl
get-after (Began number idle) files name = refl
get-after (Ended writes end) files name = writes_say writes files name

-- the newest of some changes decides
log_looks : (first : Files) (changes : List Change) (i : ℕ) (d : Change) (name : List ℕ) → i < length changes →
    get (holds first (reverse (take (i + 1) changes))) name ≡ cond (is_of (get_or changes i d) name) (held_after (get_or changes i d) name) (get (holds first (reverse (take i changes))) name)
log_looks first changes i d name lt = rw (take_more changes i d lt, reverse-append) (get-after (get_or changes i d) (holds first (reverse (take i changes))) name)

pub log_hit : (first : Files) (changes : List Change) (i : ℕ) (change : Change) (name : List ℕ) → 0 < i → i ≤ length changes →
    change ≡ get_or changes (i - 1) change → is_of change name ≡ true → get (holds first (reverse (take i changes))) name ≡ held_after change name
log_hit first changes i change name pos le is hit =
    let e : i - 1 + 1 ≡ i = omega arith in
    let lt : i - 1 < length changes = omega arith in
    let looks = log_looks first changes (i - 1) change name lt in
    rw (← is, hit, e) at looks

pub log_miss : (first : Files) (changes : List Change) (i : ℕ) (change : Change) (name : List ℕ) → 0 < i → i ≤ length changes →
    change ≡ get_or changes (i - 1) change → is_of change name ≡ false → get (holds first (reverse (take i changes))) name ≡ get (holds first (reverse (take (i - 1) changes))) name
log_miss first changes i change name pos le is miss =
    let e : i - 1 + 1 ≡ i = omega arith in
    let lt : i - 1 < length changes = omega arith in
    let looks = log_looks first changes (i - 1) change name lt in
    rw (← is, miss, e) at looks

first_looks : (first : List (List ℕ × List ℕ)) (i : ℕ) (d : List ℕ × List ℕ) (name : List ℕ) → i < length first →
    get (first_held (reverse (take (i + 1) first))) name ≡ cond (bytes_eq (get_or first i d).0 name) (Some (get_or first i d).1) (get (first_held (reverse (take i first))) name)
first_looks first i d name lt = rw (take_more first i d lt, reverse-append) (put_says (first_held (reverse (take i first))) (get_or first i d).0 (get_or first i d).1 name _ refl)

pub first_step : (first : List (List ℕ × List ℕ)) (i : ℕ) (file : List ℕ × List ℕ) (name : List ℕ) → 0 < i → i ≤ length first →
    file ≡ get_or first (i - 1) file → get (first_held (reverse (take i first))) name ≡ cond (bytes_eq file.0 name) (Some file.1) (get (first_held (reverse (take (i - 1) first))) name)
first_step first i file name pos le is =
    let e : i - 1 + 1 ≡ i = omega arith in
    let lt : i - 1 < length first = omega arith in
    let looks = first_looks first (i - 1) file name lt in
    rw (← is, e) at looks

pub first_hit : (first : List (List ℕ × List ℕ)) (i : ℕ) (file : List ℕ × List ℕ) (name : List ℕ) → 0 < i → i ≤ length first →
    file ≡ get_or first (i - 1) file → bytes_eq file.0 name ≡ true → get (first_held (reverse (take i first))) name ≡ Some file.1
first_hit first i file name pos le is hit = let s = first_step first i file name pos le is in rw hit at s

pub first_miss : (first : List (List ℕ × List ℕ)) (i : ℕ) (file : List ℕ × List ℕ) (name : List ℕ) → 0 < i → i ≤ length first →
    file ≡ get_or first (i - 1) file → bytes_eq file.0 name ≡ false → get (first_held (reverse (take i first))) name ≡ get (first_held (reverse (take (i - 1) first))) name
first_miss first i file name pos le is miss = let s = first_step first i file name pos le is in rw miss at s

pub get-nothing : (name : List ℕ) → get (first_held []) name ≡ None
get-nothing name = get-empty (slice_cmp nat_cmp) name

-- the last write of a name, from the end
last_looks : (writes : List Write) (i : ℕ) (d : Write) (name : List ℕ) → i < length writes →
    last_write (take (i + 1) writes) name ≡ cond (bytes_eq (get_or writes i d).0 name) (Some (get_or writes i d)) (last_write (take i writes) name)
last_looks writes i d name lt = rw (take_more writes i d lt, reverse-append) refl

pub last_hit : (writes : List Write) (i : ℕ) (write : Write) (name : List ℕ) → 0 < i → i ≤ length writes →
    write ≡ get_or writes (i - 1) write → bytes_eq write.0 name ≡ true → last_write (take i writes) name ≡ Some write
last_hit writes i write name pos le is hit =
    let e : i - 1 + 1 ≡ i = omega arith in
    let lt : i - 1 < length writes = omega arith in
    let looks = last_looks writes (i - 1) write name lt in
    rw (← is, hit, e) at looks

pub last_miss : (writes : List Write) (i : ℕ) (write : Write) (name : List ℕ) → 0 < i → i ≤ length writes →
    write ≡ get_or writes (i - 1) write → bytes_eq write.0 name ≡ false → last_write (take i writes) name ≡ last_write (take (i - 1) writes) name
last_miss writes i write name pos le is miss =
    let e : i - 1 + 1 ≡ i = omega arith in
    let lt : i - 1 < length writes = omega arith in
    let looks = last_looks writes (i - 1) write name lt in
    rw (← is, miss, e) at looks
