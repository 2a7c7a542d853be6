-- A run that has ended, and the code of its events.
use Rattle.std.proofs.Common.{◌≡◌, ◌≢◌, ◌∙◌, sym, ap, subst, refl, ℕ, nat_lt, nat_eq, Bool, true, false, List, [], ◌∷◌, ◌++◌, length, map, if◌then◌else◌, inl, inr}
use Rattle.std.proofs.lemmas.List.{length-map}
use Rattle.std.proofs.lemmas.List.Elements.{filter_map-append}
use Rattle.std.proofs.lemmas.Bool.Decides.{eqb_tells}
use Rattle.sas_task.specs.declared.plans.Kept.{Kept}
use Rattle.exit_codes.specs.declared.parts.Part.{Part}
use Rattle.exit_codes.specs.declared.parts.Part.TheVariants as part
use Rattle.exit_codes.specs.Parts.{codes_of}
use Rattle.exit_codes.specs.Combined.{combine_of}
use Rattle.driver_core.specs.declared.events.Event.{Event}
use Rattle.driver_core.specs.declared.settings.Setting.{Setting}
use Rattle.driver_core.specs.Keeping.{kept_costs}
use Rattle.driver_core.specs.Legal.{IsLegal}
use Rattle.driver_core.specs.Running.{is_over_after}
use Rattle.driver_core.specs.States.{CoreState}
use Rattle.driver_core.specs.Turns.{Turn}
use Rattle.driver_core.specs.Ends.{part_in, parts_in, limit_parts, code_of as code_by_events}
use Rattle.run_report.specs.declared.report.EntryEnd.{EntryEnd}
use Rattle.run_report.specs.declared.report.Report.{Report}
use Rattle.run_report.specs.declared.report.Why.{Why}
use Rattle.run_report.specs.declared.report.Why.TheVariants as why
use Rattle.run_report.specs.Turns.{Offered, ToldTurn, begun_of, ends_of, part_of, offer_of, end_of, events_in, turn_events, turns_events}
use Rattle.run_report.specs.Tells.{Turns, between, events_of}
use Rattle.run_report.specs.Events.{code_of, ended_code}
use Rattle.run_report.specs.Searches.{Run}
use Rattle.run_report.specs.Runs.{TellsRun, IsUnderWay}
use Rattle.run_report.proofs.TurnEvents.{events_between}

parts-append : (events more : List Event) → parts_in (events ++ more) ≡ parts_in events ++ parts_in more
parts-append events more = filter_map-append part_in events more

no_offer_parts : (turn : Turn) (offered : List Offered) → parts_in (map (offer_of turn) offered) ≡ []
no_offer_parts turn [] = refl
no_offer_parts turn (offer ∷ offered) = no_offer_parts turn offered

abbrev parts_of_ends : List EntryEnd → List Part
parts_of_ends ends = map (λ (end : EntryEnd). part_of end.outcome) ends

turn_parts : (turn : ToldTurn) → parts_in (turn_events turn) ≡ part_of turn.end.outcome ∷ []
turn_parts turn =
    parts-append (events_in (begun_of turn)) (end_of turn.end ∷ [])
    ∙ ap (λ parts. parts ++ part_of turn.end.outcome ∷ []) (no_offer_parts (begun_of turn).turn turn.offered)

turns_parts : (turns : List ToldTurn) → parts_in (turns_events turns) ≡ parts_of_ends (ends_of turns)
turns_parts [] = refl
turns_parts (turn ∷ turns) =
    parts-append (turn_events turn) (turns_events turns)
    ∙ (ap (λ parts. parts ++ parts_in (turns_events turns)) (turn_parts turn) ∙ ap (λ parts. part_of turn.end.outcome ∷ parts) (turns_parts turns))

abbrev why_by : Bool → Why
why_by full = if full then why.PlanLimit else why.Finished

abbrev parts_by : Bool → List Part
parts_by full = if full then part.PlanLimit ∷ [] else []

code_by : (full : Bool) (kept : List Kept) (ends : List EntryEnd) → code_of (why_by full) kept ends ≡ ended_code (parts_by full) kept ends
code_by true kept ends = refl
code_by false kept ends = refl

-- the code of the events is that of the ends
codes_agree : (setting : Setting) (ended : List ToldTurn) (kept : List Kept) (ends : List EntryEnd) → ends ≡ ends_of ended →
    kept_costs setting (events_of (between ended)) ≡ map (λ (plan : Kept). plan.cost) kept →
    code_by_events setting (events_of (between ended)) ≡ code_of (why_by (nat_eq (length kept) 9999)) kept ends
codes_agree setting ended kept ends is costs =
    let n = length (kept_costs setting (events_of (between ended))) in
    let counted : n ≡ length kept = ap length costs ∙ length-map kept (λ (plan : Kept). plan.cost) in
    let parts : parts_in (events_of (between ended)) ≡ parts_of_ends ends = ap parts_in (events_between ended) ∙ (turns_parts ended ∙ ap parts_of_ends (sym is)) in
    ap (λ ps. combine_of (codes_of (ps ++ limit_parts n)) (nat_lt 0 n)) parts
    ∙ (ap (λ m. combine_of (codes_of (parts_of_ends ends ++ limit_parts m)) (nat_lt 0 m)) counted
    ∙ sym (code_by (nat_eq (length kept) 9999) kept ends))

full_by : (w : Why) (n : ℕ) → w ≡ why_by (nat_eq n 9999) → w ≡ why.PlanLimit → n ≡ 9999
full_by w n is full = elim (eqb_tells n 9999) [
  | inl same ↦ same.1
  | inr apart ↦ let k : why.Finished ≡ why.PlanLimit = sym (ap why_by apart.0) ∙ (sym is ∙ full) in cc
]

below_by : (w : Why) (n : ℕ) → w ≡ why_by (nat_eq n 9999) → w ≡ why.Finished → n ≢ 9999
below_by w n is done many = let k : why.PlanLimit ≡ why.Finished = sym (ap (λ m. why_by (nat_eq m 9999)) many) ∙ (sym is ∙ done) in cc

pub told_at_end : (run : Run) (core : CoreState) (ended : List ToldTurn) (report : Report) → IsUnderWay run core (between ended) report.kept report.candidates report.ends →
    run.setting.start ≡ report.start → is_over_after run.setting (events_of (between ended)) ≡ true →
    report.why ≡ why_by (nat_eq (length report.kept) 9999) → report.code ≡ code_by_events run.setting (events_of (between ended)) → TellsRun run report (between ended)
told_at_end run core ended report going start over by code = record {
  lists = going.lists;
  events = record {
    start = start;
    order = going.order;
    legal = subst (λ (s : Setting). IsLegal s (events_of (between ended))) going.setting going.stands.legal;
    kept = going.costs;
    over = λ is. over;
    ended = λ is. refl;
    full = full_by report.why (length report.kept) by;
    below = below_by report.why (length report.kept) by;
    code = code ∙ (codes_agree run.setting ended report.kept report.ends going.lists.ends_are going.costs ∙ ap (λ w. code_of w report.kept report.ends) (sym by));
  };
  ends = going.ended;
  plans = going.plans;
}

no_end : (w : Why) → w ≡ why.Fault → w ≡ why.Finished → ⊥
no_end w is end = let k : why.Fault ≡ why.Finished = sym is ∙ end in cc

no_limit : (w : Why) → w ≡ why.Fault → w ≡ why.PlanLimit → ⊥
no_limit w is end = let k : why.Fault ≡ why.PlanLimit = sym is ∙ end in cc

pub told_at_fault : (run : Run) (core : CoreState) (turns : Turns) (report : Report) → IsUnderWay run core turns report.kept report.candidates report.ends →
    run.setting.start ≡ report.start → report.why ≡ why.Fault → report.code ≡ 35 → TellsRun run report turns
told_at_fault run core turns report going start fault code = record {
  lists = going.lists;
  events = record {
    start = start;
    order = going.order;
    legal = subst (λ (s : Setting). IsLegal s (events_of turns)) going.setting going.stands.legal;
    kept = going.costs;
    over = λ is. absurd (no_end report.why fault is);
    ended = λ other. absurd (other fault);
    full = λ is. absurd (no_limit report.why fault is);
    below = λ is. absurd (no_end report.why fault is);
    code = code ∙ ap (λ w. code_of w report.kept report.ends) (sym fault);
  };
  ends = going.ended;
  plans = going.plans;
}
