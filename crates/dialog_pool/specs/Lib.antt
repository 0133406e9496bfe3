-- which numbers the tickets of a pool have, and where they are
pub mod Tickets
