pub mod FreshSeats
