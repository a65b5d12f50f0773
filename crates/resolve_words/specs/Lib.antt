pub mod ProgramCommand
pub mod SampleWords
pub mod Given
pub mod Checked
