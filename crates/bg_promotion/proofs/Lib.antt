mod Attempts
mod Phases
