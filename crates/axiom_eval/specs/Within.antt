-- Facts of a state's variables: the words stand with the task.
pub use Rattle.sas_task.specs.Within.{is_within}
