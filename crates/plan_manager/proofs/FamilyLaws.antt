-- Laws of the names of a family.
use Rattle.std.specs.Prelude.{◌≡◌, ℕ, List, ◌≢◌, zero, suc, ◌≤◌}
use Rattle.std.specs.FinMap.{get}
use Rattle.lama_host.specs.Folder.{Files}
use Rattle.plan_manager.specs.Family.{IsNoPlan, family_name}
use Rattle.std.proofs.Common.{refl, sym, arith}
use Rattle.lama_num.specs.Names.{part_name, numbered_name}
use Rattle.lama_num.proofs.NameLaws.{numbered_same, numbered≢base, numbered≢part, part≢base}

-- all names but those of the family hold what they held
abbrev pub SameBeside : List ℕ → Files → Files → Type 0
SameBeside base before after = (name : List ℕ) → IsNoPlan base name → get after name ≡ get before name

pub family_zero : (base : List ℕ) → family_name base 0 ≡ base
unfolding family_name
family_zero base = refl

pub family_numbered : (base : List ℕ) (n : ℕ) → 1 ≤ n → family_name base n ≡ numbered_name base n
unfolding family_name
family_numbered base zero low = absurd (omega arith)
family_numbered base (suc n) low = refl

-- two numbers, two names
pub family_same : (base : List ℕ) (m n : ℕ) → m ≤ 9999 → n ≤ 9999 → family_name base m ≡ family_name base n → m ≡ n
unfolding family_name
family_same base zero zero hm hn same = refl
family_same base zero (suc n) hm hn same = absurd (numbered≢base base (suc n) (omega arith) (sym same))
family_same base (suc m) zero hm hn same = absurd (numbered≢base base (suc m) (omega arith) same)
family_same base (suc m) (suc n) hm hn same = numbered_same base (suc m) (suc n) (omega arith) (omega arith) same

pub family≢part : (base : List ℕ) (n : ℕ) → n ≤ 9999 → family_name base n ≢ part_name base
unfolding family_name
family≢part base zero high same = part≢base base (sym same)
family≢part base (suc n) high same = numbered≢part base (suc n) (omega arith) same
