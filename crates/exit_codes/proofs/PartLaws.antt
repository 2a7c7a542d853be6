-- Laws of Parts.
use Rattle.std.specs.Prelude.{◌≡◌, ℕ, ◌||◌, List, [], ◌∷◌, ◌++◌}
use Rattle.std.proofs.Common.{sym, ap, ◌∙◌}
use Rattle.std.proofs.lemmas.List.Folds.{list_any-append}
use Rattle.std.proofs.Math.Bool.{or-false}
use Rattle.std.specs.List.{list_any}
use Rattle.std.specs.Cmp.{nat_cmp_total}
use Rattle.std.specs.Ordering.{nat_cmp}
use Rattle.exit_codes.specs.declared.parts.Part.{Part}
use Rattle.exit_codes.specs.Parts.{norm_of, codes_of}
use Rattle.std.specs.FinSet as set

-- A code is among those of several parts where one of them has it.
pub contains-codes_of : (parts : List Part) (code : ℕ) → set.contains (codes_of parts) code ≡ list_any (λ part. set.contains (norm_of part) code) parts
contains-codes_of [] code = set.contains-empty nat_cmp code
contains-codes_of (part ∷ parts) code =
    set.contains-union nat_cmp_total (norm_of part) (codes_of parts) code
    ∙ ap (λ b. set.contains (norm_of part) code || b) (contains-codes_of parts code)

-- one more part at the end
pub codes_of-push : (parts : List Part) (part : Part) → codes_of (parts ++ part ∷ []) ≡ set.union (codes_of parts) (norm_of part)
codes_of-push parts part =
    set.same_set nat_cmp_total set.nat_cmp-IsAntisymmetric _ _ (λ code.
    contains-codes_of (parts ++ part ∷ []) code
    ∙ list_any-append (λ p. set.contains (norm_of p) code) parts (part ∷ [])
    ∙ ap (λ b. list_any (λ p. set.contains (norm_of p) code) parts || b) (or-false (set.contains (norm_of part) code))
    ∙ ap (λ b. b || set.contains (norm_of part) code) (sym (contains-codes_of parts code))
    ∙ sym (set.contains-union nat_cmp_total (codes_of parts) (norm_of part) code))

-- more parts at the end
pub codes_of-append : (parts more : List Part) → codes_of (parts ++ more) ≡ set.union (codes_of parts) (codes_of more)
codes_of-append parts more =
    set.same_set nat_cmp_total set.nat_cmp-IsAntisymmetric _ _ (λ code.
    contains-codes_of (parts ++ more) code
    ∙ list_any-append (λ p. set.contains (norm_of p) code) parts more
    ∙ ap (λ b. b || list_any (λ p. set.contains (norm_of p) code) more) (sym (contains-codes_of parts code))
    ∙ ap (λ b. set.contains (codes_of parts) code || b) (sym (contains-codes_of more code))
    ∙ sym (set.contains-union nat_cmp_total (codes_of parts) (codes_of more) code))
