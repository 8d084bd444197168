pub mod Configs
pub mod LogFaults
pub mod Logs
pub mod Openings
pub mod Options
pub mod RunFaults
pub mod SetupFaults
pub mod Setups
