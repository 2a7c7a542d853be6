pub mod RelaxedPlanLaws
