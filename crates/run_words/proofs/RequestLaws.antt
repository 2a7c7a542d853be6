-- Times with units, and the request of a line.
use Rattle.std.proofs.Common.{◌≡◌, refl, subst, ℕ, Bool, not, ◌&&◌, ◌||◌, ◌-◌, ◌*◌, [], ◌∷◌, length, take, true, false, Option, Some, None, Ok, Err, arith}
use Rattle.std.specs.Prelude.{codes, if◌then◌else◌, is_some, IfSome, nat_lt, option_map, slice_get, unwrap_or, Result}
use Rattle.std.specs.List.{IsLastAndRest}
use Rattle.std.proofs.Math.Seq.{take-append_seam}
use Rattle.lama_num.specs.Decimals.{decimal_of}
use Rattle.lama_num.proofs.ListLaws.{slice_get-append_last}
use Rattle.conf_text.specs.AliasNames.{alias_of}
use Rattle.conf_text.specs.declared.alias_names.AliasName.{AliasName}
use Rattle.run_words.specs.Accepted.{FitsWork, IsAccepted, IsBase, IsLimit, IsMade, IsMemory}
use Rattle.run_words.specs.Grammar.{Line, Text}
use Rattle.run_words.specs.OwnNames.{is_own_name}
use Rattle.run_words.specs.Requests.{chosen, clashes, has_task, if_alias, is_limitless, is_own, or_bad, request_by, seconds_of, unit_of, values_of, works}
use Rattle.run_words.specs.declared.faults.WordsError.{WordsError}
use Rattle.run_words.specs.declared.faults.WordsError.TheVariants.{Bad}
use Rattle.run_words.specs.declared.faults.WordsFault.{WordsFault}
use Rattle.run_words.specs.declared.faults.WordsFault.TheVariants.{NameClash, UnknownAlias}
use Rattle.run_words.specs.declared.request.Chosen.{Chosen}
use Rattle.run_words.specs.declared.request.Chosen.TheVariants.{Alias, Portfolio, Search}
use Rattle.run_words.specs.declared.request.Request.{Request}
use Rattle.run_words.specs.declared.values.Values.{Values}
use Rattle.std.proofs.lemmas.Bool.{or_parts as or_first}

last_of : (text front : Text) (last : ℕ) → IsLastAndRest text last front → slice_get text (length text - 1) ≡ Some last
last_of text front last ends = let n : length text - 1 ≡ length front = omega (arith, ends.1) in rw (n, ends.0) (slice_get-append_last front last)

front_of : (text front : Text) (last : ℕ) → IsLastAndRest text last front → take (length text - 1) text ≡ front
front_of text front last ends = let n : length text - 1 ≡ length front = omega (arith, ends.1) in rw (n, ends.0) (take-append_seam front (last ∷ []))

pub with_unit : (text front : Text) (last unit : ℕ) → IsLastAndRest text last front → Some unit ≡ unit_of last → seconds_of text ≡ option_map (λ n. n * unit) (decimal_of front)
with_unit text front last unit ends is = rw (last_of text front last ends, ← is, front_of text front last ends) refl

pub without_unit : (text front : Text) (last : ℕ) → IsLastAndRest text last front → None ≡ unit_of last → seconds_of text ≡ decimal_of text
without_unit text front last ends is = rw (last_of text front last ends, ← is) refl

-- the request of a line without a fault
chosen_is : (found : Result Chosen WordsFault) (work : Chosen) → or_bad found ≡ Ok work → found ≡ Ok work
chosen_is (Ok x) work is = let k : ◌≡◌ {A = Result Chosen WordsError} (Ok x) (Ok work) = is in let same : x ≡ work = cc in rw same refl
chosen_is (Err fault) work is = let k : ◌≡◌ {A = Result Chosen WordsError} (Err (Bad fault)) (Ok work) = is in cc

module _ (line : Line) (values : Values) (work : Chosen) (task : has_task line ≡ true) (one : nat_lt 1 (works line) ≡ false) (read : values_of line ≡ Ok values)
    (found : or_bad (chosen line.alias line.search line.portfolio) ≡ Ok work) (limited : is_limitless line values.limit ≡ false) where
  pub request_is : (name : Option Text) → clashes values.base line ≡ false → name ≡ line.task
      → or_bad (request_by line) ≡ Ok (record { task = name; made = values.made; work = work; base = values.base; bound = values.bound; limit = values.limit; child_kib = values.child_kib; single = line.single })
  unfolding request_by
  request_is name apart is = rw (is, task, one, read, chosen_is (chosen line.alias line.search line.portfolio) work found, limited, apart) refl

  pub request_clashes : clashes values.base line ≡ true → or_bad (request_by line) ≡ Err (Bad NameClash)
  unfolding request_by
  request_clashes clash = rw (task, one, read, chosen_is (chosen line.alias line.search line.portfolio) work found, limited, clash) refl

fits_alias : (found : Option AliasName) (base : Text) (limit : Option ℕ) (work : Chosen) → if_alias found ≡ Ok work → FitsWork base limit work
fits_alias None base limit work is = let k : ◌≡◌ {A = Result Chosen WordsFault} (Err UnknownAlias) (Ok work) = is in cc
fits_alias (Some alias) base limit work is = let same : Alias alias ≡ work = cc in subst (FitsWork base limit) same tt

fits_work : (alias search portfolio : Option Text) (base : Text) (limit : Option ℕ) (work : Chosen) → chosen alias search portfolio ≡ Ok work → (is_some portfolio && not (is_some limit)) ≡ false → is_own base portfolio ≡ false → FitsWork base limit work
fits_work alias search (Some name) base None work is limited own = let k : true ≡ false = limited in cc
fits_work alias search (Some name) base (Some n) work is limited own = let same : Portfolio name ≡ work = cc in subst (FitsWork base (Some n)) same (refl, own)
fits_work alias (Some text) None base limit work is limited own = let same : Search text ≡ work = cc in subst (FitsWork base limit) same tt
fits_work alias None None base limit work is limited own = fits_alias (alias_of (unwrap_or alias (codes "lama"))) base limit work is

one_task : (task made : Bool) → (if task then not made else made) ≡ true → task ≡ not made
one_task true true is = let k : false ≡ true = is in cc
one_task true false is = refl
one_task false true is = refl
one_task false false is = let k : false ≡ true = is in cc

apart_if : (base : Text) (name : Option Text) → is_own base name ≡ false → IfSome name (λ n. is_own_name base n ≡ false)
apart_if base None own = tt
apart_if base (Some name) own = own

pub is_accepted : (line : Line) (request : Request) → has_task line ≡ true → or_bad (chosen line.alias line.search line.portfolio) ≡ Ok request.work → is_limitless line request.limit ≡ false → clashes request.base line ≡ false
    → request.task ≡ line.task → is_some request.made ≡ is_some line.made → IsBase request.base → IfSome request.limit IsLimit → IfSome request.child_kib IsMemory → IfSome request.made IsMade → IsAccepted request
is_accepted line request task found limited apart named counted base limit kib made =
    let own = or_first (is_own request.base line.task) (is_own request.base line.portfolio) apart in
    record {
      task = rw (named, counted) (one_task (is_some line.task) (is_some line.made) task);
      base = base;
      limit = limit;
      child_kib = kib;
      made = made;
      apart = rw named (apart_if request.base line.task own.0);
      work = fits_work line.alias line.search line.portfolio request.base request.limit request.work (chosen_is (chosen line.alias line.search line.portfolio) request.work found) limited own.1;
    }
