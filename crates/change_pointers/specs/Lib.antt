-- pointers, and what calls make of them
pub mod Pointers
-- the pointers that a put notes
pub mod Noted
-- the master document of an object
pub mod Master
-- the masters of one gathering
pub mod Gathered
-- pointers when another model comes into force
pub mod Renumbered
-- what is true of clearing, waiting and renumbering, in other words
pub mod Laws
