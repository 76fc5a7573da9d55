-- For public contracts.
pub mod Normal
-- and which open containers compact text has
pub mod Compacting
