pub mod Forwardeds
pub mod Laws
pub mod OriginFields
pub mod OriginNames
pub mod RequestIds
