pub mod CheckSteps
pub mod FileSteps
pub mod RunSteps
pub mod ScriptSteps
pub mod WriteSteps
