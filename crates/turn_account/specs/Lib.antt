pub mod Boards
pub mod Ended
pub mod Plays
pub mod Seen
pub mod Sitting
pub mod TurnViews
pub mod Turns
pub mod Views
