-- which request of a walk is refused next
mod NextRequest
