pub mod FileLaws
pub mod AppendLaws
pub mod StepLaws
