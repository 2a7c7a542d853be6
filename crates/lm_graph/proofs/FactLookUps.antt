-- What a look-up in the table of facts tells of the nodes.
use Rattle.std.proofs.Common.{◌≡◌, ◌≢◌, ◌∙◌, sym, ap, refl, ℕ, zero, suc, List, [], ◌∷◌, ◌++◌, length, map, get_or, position, Bool, true, false, ◌||◌, if◌then◌else◌, Some, slice_get, Vec}
use Rattle.std.specs.declared.alloc.Global.{Global}
use Rattle.std.specs.List.{list_any}
use Rattle.std.specs.Cmp.Lexicographic.{pointwise, pointwise_decides}
use Rattle.std.proofs.lemmas.Bool.{eqb-true, eq-eqb, and_from, and_parts, or_parts as or_false}
use Rattle.std.proofs.lemmas.List.{map-append, length-map}
use Rattle.std.proofs.lemmas.List.Quantifiers.{position-Some}
use Rattle.std.proofs.lemmas.Option.{slice_get-get_or}
use Rattle.sas_task.specs.Facts.{same_fact}
use Rattle.sas_task.specs.declared.contents.Fact.{Fact}
use Rattle.lm_graph.specs.declared.nodes.Node.{Node}
use Rattle.lm_graph.specs.Keys.{AreKeys}
use Rattle.lm_graph.specs.Nodes.{sets_of, IsAbsent}
use Rattle.sas_task.proofs.FactLists.{same-refl as same_itself}

pub facts_equal : (a b : Fact) → same_fact a b ≡ true → a ≡ b
facts_equal a b h =
    let both = and_parts _ _ h in
    let var = eqb-true a.var b.var both.0 in
    let val = eqb-true a.val b.val both.1 in
    λ i. record { var = var i; val = val i }

decides : (a b : Fact) → (same_fact a b ≡ true → a ≡ b) × (a ≡ b → same_fact a b ≡ true)
decides a b = (facts_equal a b, λ e. and_from _ _ (eq-eqb a.var b.var (ap (λ (f : Fact). f.var) e)) (eq-eqb a.val b.val (ap (λ (f : Fact). f.val) e)))

same_facts : (a b : List Fact) → (pointwise same_fact a b ≡ true → a ≡ b) × (a ≡ b → pointwise same_fact a b ≡ true)
same_facts = pointwise_decides decides

-- the key has these facts
abbrev pub has_facts : List Fact → Vec Fact Global → Bool
has_facts facts key = pointwise same_fact facts key.items

abbrev pub items_of : List (Vec Fact Global) → List (List Fact)
items_of keys = map (λ (v : Vec Fact Global). v.items) keys

item_at : (keys : List (Vec Fact Global)) (i : ℕ) (key : Vec Fact Global) → slice_get keys i ≡ Some key → slice_get (items_of keys) i ≡ Some key.items
item_at [] i key e = absurd (cc)
item_at (x ∷ keys) zero key e = ap (λ (v : Vec Fact Global). Some v.items) (let is : x ≡ key = cc in is)
item_at (x ∷ keys) (suc i) key e = item_at keys i key e

pub found : (keys : List (Vec Fact Global)) (nodes : List Node) (facts : List Fact) (place : ℕ) → AreKeys keys nodes → position (has_facts facts) keys ≡ Some place → slice_get (sets_of nodes) place ≡ Some facts
found [] nodes facts place are e = absurd (cc)
found (d ∷ keys) nodes facts place are e =
    let at = position-Some (has_facts facts) (d ∷ keys) place d e in
    let key = get_or (d ∷ keys) place d in
    let same : key.items ≡ facts = sym ((same_facts facts key.items).0 at.1) in
    ap (λ (sets : List (List Fact)). slice_get sets place) (sym are.same)
    ∙ (item_at (d ∷ keys) place key (slice_get-get_or (d ∷ keys) place d at.0) ∙ ap (λ (fs : List Fact). Some fs) same)

none_has : (keys : List (Vec Fact Global)) (facts : List Fact) → list_any (has_facts facts) keys ≡ false → (place : ℕ) → slice_get (items_of keys) place ≢ Some facts
none_has [] facts h place e = cc
none_has (key ∷ keys) facts h zero e =
    let is : key.items ≡ facts = cc in
    let first : has_facts facts key ≡ true = (same_facts facts key.items).1 (sym is) in
    let second : has_facts facts key ≡ false = (or_false (has_facts facts key) (list_any (has_facts facts) keys) h).0 in
    cc
none_has (key ∷ keys) facts h (suc place) e = none_has keys facts (or_false (has_facts facts key) (list_any (has_facts facts) keys) h).1 place e

pub absent : (keys : List (Vec Fact Global)) (nodes : List Node) (facts : List Fact) → AreKeys keys nodes → list_any (has_facts facts) keys ≡ false → IsAbsent nodes facts
absent keys nodes facts are h = record { each = λ place e. none_has keys facts h place (ap (λ (sets : List (List Fact)). slice_get sets place) are.same ∙ e) }

-- and what isn't among the nodes isn't among the keys
no_key : (keys : List (Vec Fact Global)) (facts : List Fact) → ((place : ℕ) → slice_get (items_of keys) place ≢ Some facts) → list_any (has_facts facts) keys ≡ false
no_key [] facts none = refl
no_key (key ∷ keys) facts none = by (has_facts facts key) refl (no_key keys facts (λ place e. none (suc place) e))
  where
    by : (b : Bool) → has_facts facts key ≡ b → list_any (has_facts facts) keys ≡ false → (b || list_any (has_facts facts) keys) ≡ false
    by true is rest = absurd (none 0 (ap (λ (fs : List Fact). Some fs) (sym ((same_facts facts key.items).0 is))))
    by false is rest = rest

pub key_added : (keys new : List (Vec Fact Global)) (nodes : List Node) (node : Node) (key : Vec Fact Global) → AreKeys keys nodes → IsAbsent nodes node.facts → key.items ≡ node.facts →
    new ≡ (if list_any (has_facts key.items) keys then keys else keys ++ key ∷ []) → AreKeys new (nodes ++ node ∷ [])
key_added keys new nodes node key are none same is =
    let lone : list_any (has_facts node.facts) keys ≡ false = no_key keys node.facts (λ place e. none.each place (ap (λ (sets : List (List Fact)). slice_get sets place) (sym are.same) ∙ e)) in
    let there : list_any (has_facts key.items) keys ≡ false = ap (λ (fs : List Fact). list_any (has_facts fs) keys) same ∙ lone in
    let pushed : new ≡ keys ++ key ∷ [] = is ∙ ap (λ b. if b then keys else keys ++ key ∷ []) there in
    let items : Vec Fact Global → List Fact = λ v. v.items in
    let facts : Node → List Fact = λ n. n.facts in
    record { same = ap items_of pushed ∙ (map-append items keys (key ∷ []) ∙ (ap (λ (sets : List (List Fact)). sets ++ key.items ∷ []) are.same ∙ (ap (λ (fs : List Fact). sets_of nodes ++ fs ∷ []) same ∙ sym (map-append facts nodes (node ∷ []))))) }

pub keys_long : (keys : List (Vec Fact Global)) (nodes : List Node) → AreKeys keys nodes → length keys ≡ length nodes
keys_long keys nodes are = sym (length-map keys (λ (v : Vec Fact Global). v.items)) ∙ (ap length are.same ∙ length-map nodes (λ n. n.facts))

pub same_keys : (keys : List (Vec Fact Global)) (old new : List Node) → AreKeys keys old → sets_of new ≡ sets_of old → AreKeys keys new
same_keys keys old new are same = record { same = are.same ∙ sym same }
