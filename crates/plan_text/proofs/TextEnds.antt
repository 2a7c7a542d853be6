-- What stands at the ends of a text, and digits.
use Rattle.std.proofs.Common.{◌≡◌, ◌≢◌, ◌∙◌, sym, ap, refl, ℕ, List, [], ◌∷◌, ◌++◌, true, false, Option, Some, None, Bor, MatchOption, nat_eq, arith, reverse}
use Rattle.std.specs.Prelude.{option_map, ◌&&◌}
use Rattle.std.specs.List.{list_all}
use Rattle.std.specs.Char.{is_ascii_digit}
use Rattle.std.specs.Str.{all_ascii_digits}
use Rattle.std.proofs.lemmas.Bool.Decides.{nat_tests}
use Rattle.std.proofs.lemmas.List.{reverse-append, reverse-reverse}
use Rattle.lama_num.specs.Decimals.{is_decimal}
use Rattle.plan_text.specs.PlanLines.{behind, before}
use Rattle.lama_num.proofs.BoolLaws.{nat_eq-refl as nat_eq-same}

pub behind-append : (front rest : List ℕ) → behind front (front ++ rest) ≡ Some rest
behind-append [] rest = refl
behind-append (f ∷ front) rest = rw (nat_eq-same f) (behind-append front rest)

pub behind-some : (front text rest : List ℕ) → behind front text ≡ Some rest → text ≡ front ++ rest
behind-some [] text rest is = let k : Some text ≡ Some rest = is in cc
behind-some (f ∷ front) [] rest is = let k : ◌≡◌ {A = Option (List ℕ)} None (Some rest) = is in cc
behind-some (f ∷ front) (b ∷ bytes) rest is =
    elim (nat_eq f b) as (λ t. nat_eq f b ≡ t → b ∷ bytes ≡ f ∷ (front ++ rest)) [
      | true ↦ λ e. let same : f ≡ b = grind (arith, nat_tests, e) in let more : bytes ≡ front ++ rest = behind-some front bytes rest (rw e at is) in cc
      | false ↦ λ e. let k : ◌≡◌ {A = Option (List ℕ)} None (Some rest) = rw e at is in cc
    ] refl

pub before-append : (end text : List ℕ) → before end (text ++ end) ≡ Some text
before-append end text =
    let turned : reverse (text ++ end) ≡ reverse end ++ reverse text = reverse-append text end in
    let found : behind (reverse end) (reverse end ++ reverse text) ≡ Some (reverse text) = behind-append (reverse end) (reverse text) in
    rw (turned, found) (ap (λ t. Some t) (reverse-reverse text))

pub before-some : (end text front : List ℕ) → before end text ≡ Some front → text ≡ front ++ end
before-some end text front is =
    elim (behind (reverse end) (reverse text)) as (λ o. behind (reverse end) (reverse text) ≡ o → option_map reverse o ≡ Some front → text ≡ front ++ end) [
      | None ↦ λ at e. let k : ◌≡◌ {A = Option (List ℕ)} None (Some front) = e in cc
      | Some rest ↦ λ at e.
          let k : Some (reverse rest) ≡ Some front = e in
          let turned : reverse rest ≡ front = cc in
          let whole : reverse text ≡ reverse end ++ rest = behind-some (reverse end) (reverse text) rest at in
          let back : reverse (reverse end ++ rest) ≡ reverse rest ++ reverse (reverse end) = reverse-append (reverse end) rest in
          let same : reverse (reverse end) ≡ end = reverse-reverse end in
          sym (reverse-reverse text) ∙ ap reverse whole ∙ back ∙ ap (λ t. t ++ reverse (reverse end)) turned ∙ ap (λ t. front ++ t) same
    ] refl is

pub stripped_front : (front text : List ℕ) (r : Option (Bor (List ℕ))) → MatchOption r ((rest : List ℕ) → text ≢ front ++ rest) (λ x. text ≡ front ++ x.now) → option_map (λ t. t.now) r ≡ behind front text
stripped_front front text None none =
    elim (behind front text) as (λ o. behind front text ≡ o → None ≡ o) [
      | None ↦ λ e. refl
      | Some rest ↦ λ e. absurd (none rest (behind-some front text rest e))
    ] refl
stripped_front front text (Some x) is = let found = behind-append front x.now in sym (rw (← is) at found)

pub stripped_end : (end text : List ℕ) (r : Option (Bor (List ℕ))) → MatchOption r ((rest : List ℕ) → text ≢ rest ++ end) (λ x. text ≡ x.now ++ end) → option_map (λ t. t.now) r ≡ before end text
stripped_end end text None none =
    elim (before end text) as (λ o. before end text ≡ o → None ≡ o) [
      | None ↦ λ e. refl
      | Some front ↦ λ e. absurd (none front (before-some end text front e))
    ] refl
stripped_end end text (Some x) is = let found = before-append end x.now in sym (rw (← is) at found)

all_digits : (text : List ℕ) → all_ascii_digits text ≡ list_all is_ascii_digit text
all_digits [] = refl
all_digits (c ∷ cs) = ap (λ t. is_ascii_digit c && t) (all_digits cs)

pub is_decimal-digits : (text : List ℕ) → text ≢ [] → list_all is_ascii_digit text ≡ is_decimal text
is_decimal-digits [] some = absurd (some refl)
is_decimal-digits (c ∷ cs) some = sym (all_digits (c ∷ cs))
