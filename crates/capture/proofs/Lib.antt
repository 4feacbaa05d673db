-- the check of a checksum succeeds
pub mod Checks
-- the other ends of links have addresses of their own
pub mod FarEnds
-- how many octets frames and packets have
pub mod FrameLens
-- sums over octets one behind the other
pub mod Sums
