pub mod Having
