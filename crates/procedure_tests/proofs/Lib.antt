-- what was said of a desk before a call
mod StillSaid
