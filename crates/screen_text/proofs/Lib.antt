-- what octets count one by one is what the lines that they end count
pub mod LineCounts
