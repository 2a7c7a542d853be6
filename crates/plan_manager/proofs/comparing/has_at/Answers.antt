use Rattle.std.proofs.Common.{◌≡◌, ◌∙◌, sym, subst, arith, refl, true, false, Some, Option, IfSome, List, ℕ, length, take, drop, ◌+◌, ◌-◌, ◌<◌, ◌≤◌, length-drop}
use Rattle.std.proofs.lemmas.List.{length-take-le}
use Rattle.std.specs.FinMap.{get}
use Rattle.plan_manager.specs.Comparing.{TellsFront}
use Rattle.lama_host.proofs.StepLaws.{keeps_then, keeps_ok, untouched_then, told_again}
use Rattle.plan_manager.proofs.Fronts.{found_more, found_rest, found_all}
use Rattle.plan_manager.proofs.Lines.{is_nothing}
use Rattle.plan_manager.proofs.comparing.has_at.Goals as goal

pub returns-in-Ok-None-clause-tells : goal.returns-in-Ok-None-clause-tells
returns-in-Ok-None-clause-tells g c files idle held =
    let told = g.F.Folder.told in
    let file = get files c.args.name.now in
    let read : TellsFront file c.loop-rest.at c.loop-rest.rest.now c.in-Ok-None.field-0 =
    told_again (told c.args.folder.now) (told c.loop-rest.folder) (λ fs. TellsFront (get fs c.args.name.now) c.loop-rest.at c.loop-rest.rest.now c.in-Ok-None.field-0) c.loop-rest.invariant.untouched c.in-Ok-None.ensures.tells files idle held in
    let isnt = subst (TellsFront file c.loop-rest.at c.loop-rest.rest.now) c.in-Ok-None.field-0-is read in
    (λ no. let k : false ≡ true = no in cc, λ has. absurd (isnt (found_rest file c.args.start c.loop-rest.at c.args.bytes.now c.loop-rest.rest.now (c.loop-rest.invariant.found files idle held) has)))

fits_by : (bytes : List ℕ) (found : Option ℕ) (count : ℕ) → found ≡ Some count → IfSome found (λ n. (0 < n) × (n ≤ length bytes)) → (0 < count) × (count ≤ length bytes)
fits_by bytes found count is fits = subst (λ o. IfSome o (λ n. (0 < n) × (n ≤ length bytes))) is fits

place_more : (at count total : ℕ) (rest : List ℕ) → count ≤ length rest → at + length rest ≡ total → (at + count) + length (take (length rest - count) (drop count rest)) ≡ total
place_more at count total rest fits is = omega (arith, length-drop count rest, length-take-le (length rest - count) (drop count rest) (omega (arith, length-drop count rest)))

pub loop-rest-preserved : goal.loop-rest-preserved
loop-rest-preserved g c =
    let told = g.F.Folder.told in
    let rest = c.loop-rest.rest.now in
    let fits = fits_by rest c.in-Ok-Some.field-0 c.in-Ok-Some.count c.in-Ok-Some.field-0-is c.in-Ok-Some.ensures.fits in
    let same = c.loop-rest.invariant.untouched in
    record {
      untouched = untouched_then (told c.args.folder.now) (told c.loop-rest.folder) (told c.read_same.new.folder) same c.in-Ok-Some.ensures.untouched;
      keeps = keeps_ok _ _ _ tt (keeps_then _ _ _ _ c.read_same.result c.loop-rest.invariant.keeps c.read_same.ensures.keeps);
      place = place_more c.loop-rest.at c.in-Ok-Some.count (c.args.start + length c.args.bytes.now) rest fits.1 c.loop-rest.invariant.place;
      found = λ files idle held.
          let file = get files c.args.name.now in
          let read : TellsFront file c.loop-rest.at rest c.in-Ok-Some.field-0 =
          told_again (told c.args.folder.now) (told c.loop-rest.folder) (λ fs. TellsFront (get fs c.args.name.now) c.loop-rest.at rest c.in-Ok-Some.field-0) same c.in-Ok-Some.ensures.tells files idle held in
          found_more file c.args.start c.loop-rest.at c.in-Ok-Some.count c.args.bytes.now rest (c.loop-rest.invariant.found files idle held) (subst (TellsFront file c.loop-rest.at rest) c.in-Ok-Some.field-0-is read) fits.1;
    }

pub returns-clause-tells : goal.returns-clause-tells
returns-clause-tells g c files idle held = (
  λ yes. found_all (get files c.args.name.now) c.args.start c.loop-rest.at c.args.bytes.now c.loop-rest.rest.now (c.loop-rest.invariant.found files idle held) (is_nothing c.loop-rest.rest.now (sym c.is_empty.ensures ∙ c.loop-rest-test.false)) c.requires.some,
  λ has. refl,
)
