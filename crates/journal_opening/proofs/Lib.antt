-- a journal that begins, and one that goes on
pub mod Beginnings
-- whether octets were cut
pub mod Cuts
