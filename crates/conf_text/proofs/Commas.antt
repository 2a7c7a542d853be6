-- Members that are written, each behind a comma.
use Rattle.std.proofs.Common.{◌≡◌, ◌∙◌, sym, ap, ℕ, ◌+◌, ◌<◌, List, [], ◌∷◌, ◌++◌, length, take, get_or, append_assoc}
use Rattle.std.specs.Prelude.{codes}
use Rattle.std.proofs.lemmas.List.{take_more, append-nil}
use Rattle.std.proofs.lemmas.Grind.{flat_map-append}
use Rattle.conf_text.specs.Written.{behind_commas, guide_text, phase_text}
use Rattle.conf_text.specs.declared.config.GuideKind.{GuideKind}
use Rattle.conf_text.specs.declared.config.Phase.{Phase}

-- one more member
commas_more : {A : Type 0} (text : A → List ℕ) (xs : List A) (i : ℕ) (x : A) (start now : List ℕ) → i < length xs → x ≡ get_or xs i x → now ≡ start ++ behind_commas text (take i xs) →
    (now ++ codes ",") ++ text x ≡ start ++ behind_commas text (take (i + 1) xs)
commas_more text xs i x start now lt at is =
    let own : get_or xs i x ≡ x = sym at in
    let split : behind_commas text (take i xs ++ get_or xs i x ∷ []) ≡ behind_commas text (take i xs) ++ ((codes "," ++ text (get_or xs i x)) ++ []) = flat_map-append (λ y. codes "," ++ text y) (take i xs) (get_or xs i x ∷ []) in
    let one : behind_commas text (take i xs) ++ ((codes "," ++ text (get_or xs i x)) ++ []) ≡ behind_commas text (take i xs) ++ (codes "," ++ text x) = ap (λ (t : List ℕ). behind_commas text (take i xs) ++ t) (append-nil (codes "," ++ text (get_or xs i x)) ∙ ap (λ y. codes "," ++ text y) own) in
    let front : (now ++ codes ",") ++ text x ≡ start ++ (behind_commas text (take i xs) ++ (codes "," ++ text x)) = append_assoc now (codes ",") (text x) ∙ ap (λ (t : List ℕ). t ++ (codes "," ++ text x)) is ∙ append_assoc start (behind_commas text (take i xs)) (codes "," ++ text x) in
    rw (take_more xs i x lt) (front ∙ ap (λ (t : List ℕ). start ++ t) (sym (split ∙ one)))

pub guides_more : (xs : List GuideKind) (i : ℕ) (x : GuideKind) (start now : List ℕ) → i < length xs → x ≡ get_or xs i x → now ≡ start ++ behind_commas guide_text (take i xs) →
    (now ++ codes ",") ++ guide_text x ≡ start ++ behind_commas guide_text (take (i + 1) xs)
guides_more = commas_more guide_text

pub phases_more : (xs : List Phase) (i : ℕ) (x : Phase) (start now : List ℕ) → i < length xs → x ≡ get_or xs i x → now ≡ start ++ behind_commas phase_text (take i xs) →
    (now ++ codes ",") ++ phase_text x ≡ start ++ behind_commas phase_text (take (i + 1) xs)
phases_more = commas_more phase_text

-- what is put behind a text, piece by piece
pub eight_pieces : (start a b c d e f g h one two three four five six seven all : List ℕ) → one ≡ start ++ a → two ≡ one ++ b → three ≡ two ++ c → four ≡ three ++ d → five ≡ four ++ e → six ≡ five ++ f → seven ≡ six ++ g → all ≡ seven ++ h →
    all ≡ start ++ (a ++ (b ++ (c ++ (d ++ (e ++ (f ++ (g ++ h)))))))
eight_pieces start a b c d e f g h one two three four five six seven all p q r s t u v w = rw (w, v, u, t, s, r, q, p) (simp append_assoc)
