-- Links that lead back to choices.
use Rattle.std.proofs.Common.{◌≡◌, ◌∙◌, sym, ap, subst, ℕ, zero, suc, ◌+◌, ◌<◌, List, [], ◌∷◌, ◌++◌, length, reverse, Bool, true, false, Option, Some, arith, append_assoc, append-nil, length-append}
use Rattle.std.proofs.lemmas.List.{reverse-append}
use Rattle.std.specs.Prelude.{slice_get, if◌then◌else◌}
use Rattle.std.proofs.lemmas.Option.{slice_get_within}
use Rattle.lama_num.proofs.ListLaws.{slice_get-append_front}
use Rattle.plan_check.specs.Layers.{Leads}
use Rattle.plan_check.specs.declared.tracing.Link.{Link}

-- more links change nothing
pub leads_more : (links more : List Link) (steps place : ℕ) (ops : List ℕ) → Leads links steps place ops → Leads (links ++ more) steps place ops
leads_more links more zero place ops leads = leads
leads_more links more (suc steps) place ops leads =
    let within : place < length links = slice_get_within links place leads.0 leads.2 in
    (leads.0, leads.1, slice_get-append_front links more place within ∙ leads.2, leads.3, leads_more links more steps leads.0.from leads.1 leads.4)

pub kept_more : (links now : List Link) (link : Link) (seen : Bool) → now ≡ (if seen then links else (links ++ link ∷ [])) → (steps place : ℕ) (ops : List ℕ) → Leads links steps place ops → Leads now steps place ops
kept_more links now link true is steps place ops leads = subst (λ ls. Leads ls steps place ops) (sym is) leads
kept_more links now link false is steps place ops leads = subst (λ ls. Leads ls steps place ops) (sym is) (leads_more links (link ∷ []) steps place ops leads)

-- a choice has as many operators as steps
pub leads_long : (links : List Link) (steps place : ℕ) (ops : List ℕ) → Leads links steps place ops → length ops ≡ steps
leads_long links zero place ops leads = ap length leads
leads_long links (suc steps) place ops leads =
    let rest : length leads.1 ≡ steps = leads_long links steps leads.0.from leads.1 leads.4 in
    let all : length ops ≡ length leads.1 + 1 = ap length leads.3 ∙ length-append leads.1 (leads.0.op ∷ []) in
    omega arith

same_link : (one two : Link) → ◌≡◌ {A = Option Link} (Some one) (Some two) → one ≡ two
same_link one two is = cc

-- there is one
pub leads_one : (links : List Link) (steps place : ℕ) (ops others : List ℕ) → Leads links steps place ops → Leads links steps place others → ops ≡ others
leads_one links zero place ops others one two = one ∙ sym two
leads_one links (suc steps) place ops others one two =
    let same : one.0 ≡ two.0 = same_link one.0 two.0 (sym one.2 ∙ two.2) in
    let there : Leads links steps one.0.from two.1 = subst (λ (l : Link). Leads links steps l.from two.1) (sym same) two.4 in
    let front : one.1 ≡ two.1 = leads_one links steps one.0.from one.1 two.1 one.4 there in
    one.3 ∙ ap (λ xs. xs ++ one.0.op ∷ []) front ∙ ap (λ (l : Link). two.1 ++ l.op ∷ []) same ∙ sym two.3

-- what is left to go back, and what was found on the way
pub record IsTraced (links : List Link) (steps place left at : ℕ) (found : List ℕ) : Type 0 where
  pub before : List ℕ
  pub leads : Leads links left at before
  pub whole : (ops : List ℕ) → Leads links steps place ops → ops ≡ before ++ reverse found

pub traced_first : (links : List Link) (steps place : ℕ) (ops : List ℕ) → Leads links steps place ops → IsTraced links steps place steps place []
traced_first links steps place ops leads = record {
  before = ops;
  leads = leads;
  whole = λ others is. leads_one links steps place others ops is leads ∙ sym (append-nil ops);
}

-- the link that comes next
pub traced_at : (links : List Link) (steps place left at n : ℕ) (found : List ℕ) → left ≡ suc n → IsTraced links steps place left at found → (link : Link) × (slice_get links at ≡ Some link)
traced_at links steps place left at n found is traced =
    let leads : Leads links (suc n) at traced.before = subst (λ k. Leads links k at traced.before) is traced.leads in
    (leads.0, leads.2)

pub traced_more : (links : List Link) (steps place left at n : ℕ) (found : List ℕ) (link : Link) → left ≡ suc n → slice_get links at ≡ Some link → IsTraced links steps place left at found →
    IsTraced links steps place n link.from (found ++ link.op ∷ [])
traced_more links steps place left at n found link is there traced =
    let leads : Leads links (suc n) at traced.before = subst (λ k. Leads links k at traced.before) is traced.leads in
    let same : leads.0 ≡ link = same_link leads.0 link (sym leads.2 ∙ there) in
    let shorter = leads.1 in
    let rest : Leads links n link.from leads.1 = subst (λ (l : Link). Leads links n l.from leads.1) same leads.4 in
    let split : traced.before ≡ leads.1 ++ link.op ∷ [] = leads.3 ∙ ap (λ (l : Link). leads.1 ++ l.op ∷ []) same in
    record {
      before = leads.1;
      leads = rest;
      whole = λ ops all.
          traced.whole ops all ∙ ap (λ xs. xs ++ reverse found) split ∙ append_assoc leads.1 (link.op ∷ []) (reverse found)
          ∙ ap (λ xs. leads.1 ++ xs) (sym (reverse-last found link.op));
    }
  where
    reverse-last : (xs : List ℕ) (x : ℕ) → reverse (xs ++ x ∷ []) ≡ x ∷ reverse xs
    reverse-last xs x = reverse-append xs (x ∷ [])

pub traced_all : (links : List Link) (steps place left at : ℕ) (found all : List ℕ) → left ≡ 0 → all ≡ reverse found → IsTraced links steps place left at found → (ops : List ℕ) → Leads links steps place ops → Leads links steps place all
traced_all links steps place left at found all none is traced ops leads =
    let nothing : Leads links 0 at traced.before = subst (λ k. Leads links k at traced.before) none traced.leads in
    let same : ops ≡ all = traced.whole ops leads ∙ ap (λ xs. xs ++ reverse found) nothing ∙ sym is in
    subst (Leads links steps place) same leads
