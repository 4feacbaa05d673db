pub mod Capture
pub mod Checksum
pub mod Datagram
pub mod Ends
pub mod Frames
pub mod Numbers
pub mod Packet
