-- What a kind of step owes, what it leaves of the other clauses, and its lift to the rule with a range.
pub mod Raised
pub mod Running
pub mod Frames
pub mod Laws
pub mod Stamping
pub mod Lifting
