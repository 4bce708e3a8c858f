pub mod OwnPorts
pub mod ServiceNames
pub mod SocketModes
