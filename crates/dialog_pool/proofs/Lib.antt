-- each step of a hand keeps the law of the ring
pub mod TicketLemmas
