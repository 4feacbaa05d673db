-- the order of keys is total, and keys that tie are one
mod KeyFacts
-- what a tree's entries, seen as a finite map, have at a key, and what one more entry, or fewer of them, make of the map
mod MapFacts
-- what is acknowledged where memory is refused at a release
mod ReleaseFacts
-- a hold that has kept something is seen in what all have kept
mod KeptFacts
-- what is known of a channel after one change or two
mod SlotFacts
-- what leaves a channel whose answers no hold keeps
mod DepartureFacts
-- once the holds of a channel have ended, none keeps an answer about it
mod HoldFacts
-- what is heard of a mobile that came leaves, or holds keep it
mod ArrivalFacts
-- what is sent of one timeslot more, and of the parts of a timeslot
mod RestartFacts
