-- What waits, when a value comes or a container is closed.
pub mod Waiting
-- Lines with two spaces a level.
pub mod Lines
-- What a walk writes.
pub mod Writing
-- Values that hold no others.
pub mod Passing
-- What is known of a place in a document.
pub mod Had
pub mod Places
-- The member with a key, by bisection.
pub mod Finding
-- What a value is seen as.
pub mod Values
-- What a comparison has still to find the same.
pub mod Comparing
-- Items and members that are buffered in full, or not at all.
pub mod Buffering
-- What is left of a value that is passed to events.
pub mod Replaying
-- For proofs of callers.
pub mod Callers
