pub mod Configs
pub mod Faults
pub mod Phases
pub mod Rules
pub mod ServiceArms
pub mod Talks
pub mod Views
