-- The child in a slot.
use Rattle.std.proofs.Common.{◌≡◌, ◌∙◌, sym, ap, refl, ℕ, zero, suc, List, [], ◌∷◌, Bool, true, false, cond, drop, length, ◌<◌, ◌+◌, get_or, arith, filter, not, nat_eq, eq-eqb}
use Rattle.std.specs.Prelude.{remove}
use Rattle.std.proofs.lemmas.List.{drop_more, get_or_default}
use Rattle.host_mem.specs.Scripts.{script_in, IsPlaceOf}
use Rattle.host_mem.specs.declared.children.Running.{Running}

pub script_hit : (running : List Running) (slot i : ℕ) (child : Running) → i < length running → child ≡ get_or running i child → nat_eq child.slot slot ≡ true →
    script_in (drop i running) slot ≡ child.script
script_hit running slot i child lt is hit = ap (λ cs. script_in cs slot) (drop_more running i child lt ∙ ap (λ x. x ∷ drop (i + 1) running) (sym is)) ∙ rw hit refl

pub script_miss : (running : List Running) (slot i : ℕ) (child : Running) → i < length running → child ≡ get_or running i child → nat_eq child.slot slot ≡ false →
    script_in (drop i running) slot ≡ script_in (drop (i + 1) running) slot
script_miss running slot i child lt is miss = ap (λ cs. script_in cs slot) (drop_more running i child lt ∙ ap (λ x. x ∷ drop (i + 1) running) (sym is)) ∙ rw miss refl

pub place_found : (running : List Running) (slot i : ℕ) (child : Running) → i < length running → child ≡ get_or running i child → nat_eq child.slot slot ≡ true → child.slot ≡ slot →
    script_in (drop i running) slot ≡ script_in running slot → IsPlaceOf running slot i
place_found running slot i child lt is hit same so_far = record {
  within = lt;
  child = λ other there.
      let e : other ≡ child = there ∙ get_or_default running i other child lt ∙ sym is in
      (ap (λ c. c.slot) e ∙ same, ap (λ c. c.script) e ∙ sym (script_hit running slot i child lt is hit) ∙ so_far);
}

-- a child that leaves isn't kept
pub filter-remove : (p : Running → Bool) (running : List Running) (i : ℕ) (child : Running) → i < length running → child ≡ get_or running i child → p child ≡ false →
    filter p (remove running i) ≡ filter p running
filter-remove p [] i child lt is misses = absurd (omega arith)
filter-remove p (x ∷ xs) zero child lt is misses = let e : p x ≡ false = (let k : child ≡ x = is in ap p (sym k) ∙ misses) in rw e refl
filter-remove p (x ∷ xs) (suc i) child lt is misses = kept (p x) (filter-remove p xs i child (omega arith) is misses)
  where
    kept : (b : Bool) → filter p (remove xs i) ≡ filter p xs → cond b (x ∷ filter p (remove xs i)) (filter p (remove xs i)) ≡ cond b (x ∷ filter p xs) (filter p xs)
    kept b e = rw e refl

pub slot_freed : (running left : List Running) (slot i : ℕ) (child : Running) → i < length running → child ≡ get_or running i child → child.slot ≡ slot → left ≡ remove running i →
    filter (λ c. not (nat_eq c.slot slot)) left ≡ filter (λ c. not (nat_eq c.slot slot)) running
slot_freed running left slot i child lt is same gone =
    let misses : not (nat_eq child.slot slot) ≡ false = ap not (eq-eqb child.slot slot same) in
    ap (filter (λ c. not (nat_eq c.slot slot))) gone ∙ filter-remove (λ c. not (nat_eq c.slot slot)) running i child lt is misses
