-- Laws of steps: one call after another.
use Rattle.std.specs.Prelude.{◌≡◌, ℕ, ◌≤◌, List, [], ◌∷◌, ◌++◌, Option, Some, None, is_some, true, false, Result, Ok, Err, OnErr, IsErr}
use Rattle.std.proofs.Common.{refl, ap, sym, ◌∙◌, subst, inl, inr, arith, append_assoc, append-nil}
use Rattle.lama_host.specs.Folder.{Told, Files, WhereTold, Changes, Once, Passes, Keeps, Lengthens, Rose, IsUntouched, last_of}
use Rattle.lama_host.specs.Steps.{Each, Leaves, Stays}

-- lists of steps

pub last_of-append : (files : Files) (steps more : List Files) → last_of files (steps ++ more) ≡ last_of (last_of files steps) more
last_of-append files [] more = refl
last_of-append files (step ∷ steps) more = last_of-append step steps more

pub each-append : (Follows : Files → Files → Type 0) (files : Files) (steps more : List Files) → Each Follows files steps → Each Follows (last_of files steps) more → Each Follows files (steps ++ more)
each-append Follows files [] more first second = second
each-append Follows files (step ∷ steps) more first second = (first.0, each-append Follows step steps more first.1 second)

pub each-weaker : (Follows Other : Files → Files → Type 0) → ((before after : Files) → Follows before after → Other before after) → (files : Files) (steps : List Files) → Each Follows files steps → Each Other files steps
each-weaker Follows Other so files [] each = tt
each-weaker Follows Other so files (step ∷ steps) each = (so files step each.0, each-weaker Follows Other so step steps each.1)

-- what each step does, the whole does, where it can be put together
pub each-whole : (Follows Whole : Files → Files → Type 0) → ((files : Files) → Whole files files) → ((before mid after : Files) → Follows before mid → Whole mid after → Whole before after) →
    (files : Files) (steps : List Files) → Each Follows files steps → Whole files (last_of files steps)
each-whole Follows Whole none one files [] each = none files
each-whole Follows Whole none one files (step ∷ steps) each = one files step (last_of step steps) each.0 (each-whole Follows Whole none one step steps each.1)

each_one : (Follows : Files → Files → Type 0) (files after : Files) (steps : List Files) → Follows files after → steps ≡ after ∷ [] → Each Follows files steps
each_one Follows files after steps follows is = subst (Each Follows files) (sym is) (follows, tt)

-- a call of one step, which may have failed
pub each_once : {T E : Type 0} (result : Result T E) (Follows : Files → Files → Type 0) (after : Files → Files) (files : Files) (steps : List Files) → Follows files (after files) → Once result after files steps → Each Follows files steps
each_once (Ok x) Follows after files steps follows once = each_one Follows files (after files) steps follows once.0
each_once (Err e) Follows after files steps follows once = elim once.1 [
  | inl none ↦ subst (Each Follows files) (sym none) tt
  | inr one ↦ each_one Follows files (after files) steps follows one
]

pub last_once : {T E : Type 0} (result : Result T E) (x : T) (after : Files → Files) (files : Files) (steps : List Files) → result ≡ Ok x → Once result after files steps → last_of files steps ≡ after files
last_once result x after files steps ok once = ap (last_of files) (rw ok at once).0

-- what is told

passes_none : (told : Told) (files : Files) → told.content ≡ Some files → Passes told told files []
passes_none told files held = record { content = held; moments = λ past is. is ∙ ap Some (sym (append-nil past)) }

passes_then : (a b c : Told) (files : Files) (steps more : List Files) → Passes a b files steps → Passes b c (last_of files steps) more → Passes a c files (steps ++ more)
passes_then a b c files steps more first second = record {
  content = second.content ∙ ap Some (sym (last_of-append files steps more));
  moments = λ past is. second.moments (past ++ steps) (first.moments past is) ∙ ap Some (append_assoc past steps more);
}

-- nothing happened
pub changes_none : (told : Told) (P : Files → List Files → Type 0) → ((files : Files) → P files []) → Changes told told P
changes_none told P so files idle held = ([], so files, passes_none told files held)

-- one call after another
pub changes_then : (a b c : Told) (P Q S : Files → List Files → Type 0) → b.busy ≡ a.busy → Changes a b P → Changes b c Q →
    ((files : Files) (steps more : List Files) → P files steps → Q (last_of files steps) more → S files (steps ++ more)) → Changes a c S
changes_then a b c P Q S busy first second so files idle held =
    let one = first files idle held in
    let two = second (last_of files one.0) (busy ∙ idle) one.2.content in
    (one.0 ++ two.0, so files one.0 two.0 one.1 two.1, passes_then a b c files one.0 two.0 one.2 two.2)

pub changes_weaker : (a b : Told) (P Q : Files → List Files → Type 0) → ((files : Files) (steps : List Files) → P files steps → Q files steps) → Changes a b P → Changes a b Q
changes_weaker a b P Q so first files idle held =
    let one = first files idle held in
    (one.0, so files one.0 one.1, one.2)

-- where nothing was touched there is no step
pub changes_untouched : (a b : Told) (P : Files → List Files → Type 0) → IsUntouched a b → ((files : Files) → P files []) → Changes a b P
changes_untouched a b P same so files idle held = (
  [],
  so files,
  record {
    content = ap (λ t. t.content) same ∙ held;
    moments = λ past is. ap (λ t. t.moments) same ∙ is ∙ ap Some (sym (append-nil past));
  },
)

-- what the steps say of the last
pub leaves_by : (a b : Told) (P : Files → List Files → Type 0) (Q : Files → Files → Type 0) → ((files : Files) (steps : List Files) → P files steps → Q files (last_of files steps)) → Changes a b P → Leaves a b Q
leaves_by a b P Q so first files idle held =
    let one = first files idle held in
    (last_of files one.0, one.2.content, so files one.0 one.1)

pub untouched_then : (a b c : Told) → IsUntouched a b → IsUntouched b c → IsUntouched a c
untouched_then a b c first second = let again : Told → Told = λ t. record t { faults = c.faults } in second ∙ ap again first

-- a fact on what is held stays where nothing was touched
pub told_again : (a b : Told) (P : Files → Type 0) → IsUntouched a b → WhereTold b P → WhereTold a P
told_again a b P same all files idle held = all files (ap (λ t. t.busy) same ∙ idle) (ap (λ t. t.content) same ∙ held)

-- what is told was told before
pub told_before : (before now : Option Files) (files : Files) → is_some now ≡ is_some before → now ≡ Some files → (first : Files) × (before ≡ Some first)
told_before None now files same held = let k : true ≡ false = rw held at same in cc
told_before (Some first) now files same held = (first, refl)

-- what is kept

lengthens_none : (before now : Option (List Files)) → now ≡ before → Lengthens before now
lengthens_none before now same = record { tells = ap is_some same; grows = λ past is. ([], same ∙ is ∙ ap Some (sym (append-nil past))) }

lengthens_then : (a b c : Option (List Files)) → Lengthens a b → Lengthens b c → Lengthens a c
lengthens_then a b c first second = record {
  tells = second.tells ∙ first.tells;
  grows = λ past is.
      let one = first.grows past is in
      let two = second.grows (past ++ one.0) one.1 in
      (one.0 ++ two.0, two.1 ∙ ap Some (append_assoc past one.0 two.0));
}

pub rose_later : (a b c : ℕ) → a ≤ b → Rose b c → Rose a c
rose_later a b c le rose = omega arith

rose_in : {T E : Type 0} (result : Result T E) (a b c : ℕ) → a ≤ b → OnErr result (Rose b c) → OnErr result (Rose a c)
rose_in (Ok x) a b c le rose = tt
rose_in (Err e) a b c le rose = rose_later a b c le rose

-- a call that succeeded, and then another
pub keeps_then : {T E U V : Type 0} (a b c : Told) (one : Result T E) (two : Result U V) → Keeps a b one → Keeps b c two → Keeps a c two
keeps_then a b c one two first second = record {
  later = omega (arith, first.later, second.later);
  failed = rose_in two a.faults b.faults c.faults first.later second.failed;
  content = second.content ∙ first.content;
  moments = lengthens_then a.moments b.moments c.moments first.moments second.moments;
  busy = second.busy ∙ first.busy;
  left = second.left ∙ first.left;
  started = second.started ∙ first.started;
}

-- what a call keeps, whatever it answered
pub keeps_ok : {T E U V : Type 0} (a b : Told) (one : Result T E) (x : U) → Keeps a b one → Keeps {T = U} {E = V} a b (Ok x)
keeps_ok a b one x first = record {
  later = first.later;
  failed = tt;
  content = first.content;
  moments = first.moments;
  busy = first.busy;
  left = first.left;
  started = first.started;
}

pub keeps_none : {U V : Type 0} (a : Told) (x : U) → Keeps {T = U} {E = V} a a (Ok x)
keeps_none a x = record {
  later = omega arith;
  failed = tt;
  content = refl;
  moments = lengthens_none a.moments a.moments refl;
  busy = refl;
  left = refl;
  started = refl;
}

-- the same failure, answered again
pub keeps_failed : {T E U V : Type 0} (a b : Told) (one : Result T E) (two : Result U V) (e : E) → IsErr two → one ≡ Err e → Keeps a b one → Keeps a b two
keeps_failed {T} {E} {U} {V} a b one (Ok x) e failed was first = let k : IsErr {T = U} {E = V} (Ok x) = failed in cc
keeps_failed a b one (Err f) e failed was first = record {
  later = first.later;
  failed = rw was at first.failed;
  content = first.content;
  moments = first.moments;
  busy = first.busy;
  left = first.left;
  started = first.started;
}

-- what stays

pub stays_untouched : (before now : Told) → IsUntouched before now → before.faults ≤ now.faults → Stays before now
stays_untouched before now same later = record {
  later = later;
  content = ap (λ t. is_some t.content) same;
  moments = lengthens_none before.moments now.moments (ap (λ t. t.moments) same);
  busy = ap (λ t. t.busy) same;
  left = ap (λ t. t.left) same;
  started = ap (λ t. t.started) same;
}

pub stays_same : (told : Told) → Stays told told
stays_same told = stays_untouched told told refl (omega arith)

pub stays_kept : {T E : Type 0} (before now : Told) (result : Result T E) → Keeps before now result → Stays before now
stays_kept before now result keeps = record {
  later = keeps.later;
  content = keeps.content;
  moments = keeps.moments;
  busy = keeps.busy;
  left = keeps.left;
  started = keeps.started;
}

pub stays_then : (a b c : Told) → Stays a b → Stays b c → Stays a c
stays_then a b c first second = record {
  later = omega (arith, first.later, second.later);
  content = second.content ∙ first.content;
  moments = lengthens_then a.moments b.moments c.moments first.moments second.moments;
  busy = second.busy ∙ first.busy;
  left = second.left ∙ first.left;
  started = second.started ∙ first.started;
}
