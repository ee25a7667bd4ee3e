pub mod CommandLemmas
pub mod KeptLemmas
pub mod LiveScripts
pub mod ScriptLemmas
pub mod Scripts
pub mod TurnLemmas
