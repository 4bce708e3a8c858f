pub mod SocketAddresses
