pub mod Faults
pub mod LargeRequests
pub mod Laws
pub mod OutgoingRequests
pub mod Uploads
