-- what the entries of windows answer
mod WindowFacts
-- how long the messages on A are
mod MessageFacts
-- steps that are put together, and what each comes to
pub mod Going
-- the reports of all calls, where those of one change
pub mod Reporting
-- the candidates that reports make of the cells
pub mod Ranking
-- a desk with its only caller
pub mod Seated
-- a seat's receipts, with one more
pub mod Seats
-- what is handled where nothing was owed before
pub mod Handled
-- plans that ask first
pub mod Asking
-- channels that messages can name
pub mod Nameable
-- candidates that are tried in turn
pub mod Trying
-- the layer 3 information of a HANDOVER COMMAND that was read fits a DATA REQUEST
pub mod LayerThree
-- own cells that are looked at one by one
pub mod CellNames
-- octets that can't be read are never anything else
pub mod Undecoded
-- what one view says of what it is asked, where another says more
pub mod Saying
