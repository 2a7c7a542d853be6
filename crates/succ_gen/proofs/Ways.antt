-- The ways to the nodes of a tree.
use Rattle.std.proofs.Common.{◌≡◌, ◌∙◌, refl, sym, ap, ℕ, zero, suc, ◌+◌, ◌-◌, ◌<◌, ◌≤◌, ◌⊎◌, inl, inr, List, [], ◌∷◌, ◌++◌, length, length-append, arith, slice_get, Some, None}
use Rattle.std.proofs.lemmas.List.{get_or_append_left, get_or_push}
use Rattle.lama_num.specs.Rows.{row_at}
use Rattle.sas_task.specs.declared.contents.Fact.{Fact}
use Rattle.succ_gen.specs.declared.growing.Branch.{Branch}
use Rattle.succ_gen.specs.Branches.{ways_from, ways, EndsIn}
use Rattle.lama_num.proofs.ListLaws.{get_push}

-- the way that a branch adds
abbrev next_way : List (List Fact) → Branch → List Fact
next_way before b = row_at before b.parent ++ b.fact ∷ []

length-more : (before : List (List Fact)) (way : List Fact) → length (before ++ way ∷ []) ≡ length before + 1
length-more before way = length-append before (way ∷ [])

-- branches leave the ways before them as they are
ways_from-keeps : (before : List (List Fact)) (bs : List Branch) (n : ℕ) → n < length before → row_at (ways_from before bs) n ≡ row_at before n
ways_from-keeps before [] n lt = refl
ways_from-keeps before (b ∷ bs) n lt =
    let long = length-more before (next_way before b) in
    ways_from-keeps (before ++ next_way before b ∷ []) bs n (omega arith) ∙ get_or_append_left before (next_way before b ∷ []) [] n lt

ways_from-append : (before : List (List Fact)) (xs ys : List Branch) → ways_from before (xs ++ ys) ≡ ways_from (ways_from before xs) ys
ways_from-append before [] ys = refl
ways_from-append before (x ∷ xs) ys = ways_from-append (before ++ next_way before x ∷ []) xs ys

length-ways_from : (before : List (List Fact)) (bs : List Branch) → length (ways_from before bs) ≡ length before + length bs
length-ways_from before [] = omega arith
length-ways_from before (b ∷ bs) =
    let long = length-more before (next_way before b) in
    let rest = length-ways_from (before ++ next_way before b ∷ []) bs in
    omega arith

ways_from-at : (before : List (List Fact)) (bs : List Branch) (c n : ℕ) (b : Branch) → slice_get bs c ≡ Some b → n ≡ length before + c → b.parent < n → row_at (ways_from before bs) n ≡ row_at (ways_from before bs) b.parent ++ b.fact ∷ []
ways_from-at before [] c n b at is lt = let k : ◌≡◌ {A = _} None (Some b) = at in cc
ways_from-at before (a ∷ bs) zero n b at is lt =
    let k : Some a ≡ Some b = at in
    let same : a ≡ b = cc in
    let here : n ≡ length before = omega arith in
    let now = before ++ next_way before a ∷ [] in
    let long = length-more before (next_way before a) in
    let parent : row_at (ways_from now bs) b.parent ≡ row_at before b.parent = ways_from-keeps now bs b.parent (omega arith) ∙ get_or_append_left before (next_way before a ∷ []) [] b.parent (omega arith) in
    let way : row_at (ways_from now bs) n ≡ next_way before a = ways_from-keeps now bs n (omega arith) ∙ get_or_push before (next_way before a) [] n (sym here) in
    way ∙ ap (next_way before) same ∙ ap (λ w. w ++ b.fact ∷ []) (sym parent)
ways_from-at before (a ∷ bs) (suc c) n b at is lt =
    let long = length-more before (next_way before a) in
    ways_from-at (before ++ next_way before a ∷ []) bs c n b at (omega arith) lt

pub way-root : (bs : List Branch) → row_at (ways bs) 0 ≡ []
way-root bs = ways_from-keeps ([] ∷ []) bs 0 (omega arith)

-- the way to the node of a branch
pub way-branch : (bs : List Branch) (c n : ℕ) (b : Branch) → slice_get bs c ≡ Some b → n ≡ c + 1 → b.parent ≤ c → row_at (ways bs) n ≡ row_at (ways bs) b.parent ++ b.fact ∷ []
way-branch bs c n b at is le = ways_from-at ([] ∷ []) bs c n b at (omega arith) (omega arith)

-- the way to a node stays, whatever branches come behind it
pub way-push : (bs : List Branch) (b : Branch) (n : ℕ) → n ≤ length bs → row_at (ways (bs ++ b ∷ [])) n ≡ row_at (ways bs) n
way-push bs b n le =
    let long = length-ways_from ([] ∷ []) bs in
    ap (λ w. row_at w n) (ways_from-append ([] ∷ []) bs (b ∷ [])) ∙ ways_from-keeps (ways bs) (b ∷ []) n (omega arith)

-- the last branch leads to the last node
pub way-last : (bs : List Branch) (b : Branch) → EndsIn bs b → b.parent < length bs → row_at (ways bs) (length bs) ≡ row_at (ways bs) b.parent ++ b.fact ∷ []
way-last bs b ends lt =
    way-branch bs (length bs - 1) (length bs) b ends.last (omega arith) (omega arith)

-- a list that ends in a branch isn't empty
pub ends_within : (bs : List Branch) (b : Branch) → EndsIn bs b → 0 < length bs
ends_within [] b ends = let k : ◌≡◌ {A = _} None (Some b) = ends.last in absurd (cc)
ends_within (x ∷ xs) b ends = omega arith
