-- how long the layer 3 information of a read message is
pub mod LayerThree
-- what cells say of the octets that they are read from
pub mod ReadCells
-- how many octets elements have
pub mod Lengths
-- what is kept says what the elements say
pub mod Noted
-- octets begin with one head, or have one fault in it
pub mod Unique
-- a message has a canonical text exactly where its fields can be said and the length octet counts them
pub mod Written
