-- each message that the centre sends has a canonical text
mod Written
