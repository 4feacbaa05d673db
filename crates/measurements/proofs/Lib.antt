-- the last valid reports of those that are kept and one more
mod KeptLemmas
