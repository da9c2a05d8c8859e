pub mod Place
pub mod Numbers
pub mod Cache
pub mod Has
pub mod Many
pub mod Examples
