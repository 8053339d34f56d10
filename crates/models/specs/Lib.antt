pub mod Automaton
pub mod Acceptance
pub mod Runs
