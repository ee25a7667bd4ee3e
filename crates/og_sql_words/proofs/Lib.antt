mod Answered
mod Targets
