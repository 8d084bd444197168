pub mod Laws
pub mod Posts
pub mod Recovery
