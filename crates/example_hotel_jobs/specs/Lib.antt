pub mod Hotels
