pub mod Sixteens
